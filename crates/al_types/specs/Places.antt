-- Where the types of an inventory stand.
use Rattle.std.specs.Prelude.{◌≡◌, ℕ, ◌<◌, ◌↔◌, Bool, IsTrue, List, Option, None, Some, length, slice_get, ⊤}
use Rattle.al_types.specs.Faults.{IsSound}
use Rattle.al_types.specs.Inventories.{InventoryView, DerivesFrom}
use Rattle.al_types.specs.Known.{root, IsNamed, IsKnownBefore, IsUnknownBase, IsFirst}
use Rattle.al_types.specs.declared.fault.InventoryFault.{InventoryFault}
use Rattle.al_types.specs.declared.fault.InventoryFault.TheVariants.{TooMany, DuplicateIdentity, UnknownBase, DuplicateRow, Memory}
use Rattle.al_types.specs.declared.place.Place.{Place}
use Rattle.al_types.specs.declared.place.Place.TheVariants.{Root, Declared}
use Rattle.al_types.specs.declared.row.Identity.{Identity}
use Rattle.al_types.specs.declared.row.Row.{Row}

-- The type stands at this place.
abbrev pub StandsAt : List Identity → Place → List ℕ → Type 0
StandsAt identities Root type_id = type_id ≡ root
StandsAt identities (Declared place) type_id = IsNamed identities place type_id

-- The place is the root or before the n-th identity.
abbrev pub IsBefore : Place → ℕ → Type 0
IsBefore Root n = ⊤
IsBefore (Declared place) n = place < n

-- where the type stands before the n-th identity
abbrev pub IsPlaceBefore : List Identity → ℕ → List ℕ → Option Place → Type 0
IsPlaceBefore identities n type_id None = ¬ (IsKnownBefore identities n type_id)
IsPlaceBefore identities n type_id (Some place) = IsBefore place n × StandsAt identities place type_id

-- Where the base of each identity before the n-th stands.
pub record HasBases (identities : List Identity) (places : List Place) (n : ℕ) : Type 0 where
  pub count : length places ≡ n
  pub each : (k : ℕ) (place : Place) (identity : Identity) → slice_get places k ≡ Some place → slice_get identities k ≡ Some identity
      → IsBefore place k × StandsAt identities place identity.base

-- the first base that is unknown, or want of memory
abbrev pub IsBaseFault : List Identity → InventoryFault → Type 0
IsBaseFault identities Memory = ⊤
IsBaseFault identities (UnknownBase n) = IsFirst (IsUnknownBase identities) (Some n)
IsBaseFault identities TooMany = ⊥
IsBaseFault identities (DuplicateIdentity n) = ⊥
IsBaseFault identities (DuplicateRow n) = ⊥

-- an inventory's lists, and where the bases of its identities stand
pub record IsInventory (identities : List Identity) (rows : List Row) (places : List Place) : Type 0 where
  pub sound : IsSound identities rows
  pub bases : HasBases identities places (length identities)

-- The answer is whether the type at the one place derives from the type at the other.
abbrev pub TellsDerivation : InventoryView → Place → Place → Bool → Type 0
TellsDerivation i start goal answer =
    (type_id base : List ℕ) → StandsAt i.identities start type_id → StandsAt i.identities goal base → IsTrue answer ↔ DerivesFrom i type_id base

-- A type stands at the place.
abbrev pub IsStanding : List Identity → Place → Type 0
IsStanding identities place = (type_id : List ℕ) × StandsAt identities place type_id
