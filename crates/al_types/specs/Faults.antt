-- Which lists make an inventory, and which fault others have.
use Rattle.std.specs.Prelude.{◌≡◌, ℕ, ◌≤◌, ◌⊎◌, List, None, Some, length, Result, Ok, Err}
use Rattle.al_base.specs.Limits.{most_identities, most_rows}
use Rattle.al_types.specs.Inventories.{InventoryView}
use Rattle.al_types.specs.Known.{IsDuplicateIdentity, IsUnknownBase, IsDuplicateRow, IsFirst}
use Rattle.al_types.specs.declared.fault.InventoryFault.{InventoryFault}
use Rattle.al_types.specs.declared.fault.InventoryFault.TheVariants.{TooMany, DuplicateIdentity, UnknownBase, DuplicateRow, Memory}
use Rattle.al_types.specs.declared.row.Identity.{Identity}
use Rattle.al_types.specs.declared.row.Row.{Row}

-- Each list is as short as it has to be.
abbrev pub AreFew : List Identity → List Row → Type 0
AreFew identities rows = (length identities ≤ most_identities) × (length rows ≤ most_rows)

-- The lists make an inventory.
pub record IsSound (identities : List Identity) (rows : List Row) : Type 0 where
  pub few : AreFew identities rows
  pub names : (n : ℕ) → ¬ (IsDuplicateIdentity identities n)
  pub bases : (n : ℕ) → ¬ (IsUnknownBase identities n)
  pub kinds : (n : ℕ) → ¬ (IsDuplicateRow rows n)

-- The lists have this fault, and none that comes before it: too many, then names, bases and rows, each at its first place.
abbrev pub IsFirstFault : List Identity → List Row → InventoryFault → Type 0
IsFirstFault identities rows TooMany = ¬ (AreFew identities rows)
IsFirstFault identities rows (DuplicateIdentity n) =
    AreFew identities rows × IsFirst (IsDuplicateIdentity identities) (Some n)
IsFirstFault identities rows (UnknownBase n) =
    AreFew identities rows × IsFirst (IsDuplicateIdentity identities) None × IsFirst (IsUnknownBase identities) (Some n)
IsFirstFault identities rows (DuplicateRow n) =
    AreFew identities rows × IsFirst (IsDuplicateIdentity identities) None × IsFirst (IsUnknownBase identities) None
    × IsFirst (IsDuplicateRow rows) (Some n)
IsFirstFault identities rows Memory = ⊥

-- Sound lists make just the inventory of them, and others the first fault, where there is memory enough.
abbrev pub IsBuilt : List Identity → List Row → Result InventoryView InventoryFault → Type 0
IsBuilt identities rows (Ok inventory) = IsSound identities rows × (inventory ≡ record { identities = identities; rows = rows })
IsBuilt identities rows (Err fault) = (fault ≡ Memory) ⊎ IsFirstFault identities rows fault
