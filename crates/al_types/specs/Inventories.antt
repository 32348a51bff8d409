-- Inventories: which types derive from which, and the row of a type and qualifier.
use Rattle.std.specs.Prelude.{◌≡◌, ℕ, ◌==◌, ◌&&◌, ◌||◌, ◌⊎◌, Bool, if◌then◌else◌, List, [], ◌∷◌, Option, Some, slice_get, find, IsBitSet, bit_and, ◌^◌, not}
use Rattle.std.specs.List.{list_any}
use Rattle.std.specs.Cmp.Lexicographic.{pointwise}
use Rattle.al_base.specs.Names.{rank_of}
use Rattle.al_base.specs.declared.severity.Severity.{Severity}
use Rattle.al_types.specs.declared.row.Identity.{Identity}
use Rattle.al_types.specs.declared.row.Row.{Row}

-- What an inventory declares.
pub record InventoryView : Type 0 where
  pub identities : List Identity
  pub rows : List Row

-- the inventory that declares nothing
abbrev pub no_inventory : InventoryView
no_inventory = record { identities = []; rows = [] }

-- The inventory declares this base for the type.
abbrev pub Declares : InventoryView → List ℕ → List ℕ → Type 0
Declares i type_id base = (place : ℕ) × (slice_get i.identities place ≡ Some (record { name = type_id; base = base }))

-- From the type on, each next type of the list is the declared base of the one before, and the last one is the given.
abbrev pub Leads : InventoryView → List ℕ → List (List ℕ) → List ℕ → Type 0
Leads i type_id [] last = type_id ≡ last
Leads i type_id (next ∷ further) last = Declares i type_id next × Leads i next further last

-- A list that begins with the type leads to the base.
abbrev pub DerivesFrom : InventoryView → List ℕ → List ℕ → Type 0
DerivesFrom i type_id base = (further : List (List ℕ)) × Leads i type_id further base

-- whether the type is among these
abbrev pub is_among : List ℕ → List (List ℕ) → Bool
is_among type_id types = list_any (pointwise ◌==◌ type_id) types

-- these types, and of the identities, in their order, each whose base is one of them
abbrev pub with_heirs : List Identity → List (List ℕ) → List (List ℕ)
with_heirs [] types = types
with_heirs (identity ∷ further) types =
    with_heirs further (if is_among identity.base types then identity.name ∷ types else types)

-- whether the type is the base or one of its heirs
unfoldable pub derives_from : InventoryView → List ℕ → List ℕ → Bool
derives_from i type_id base = is_among type_id (with_heirs i.identities (base ∷ []))

-- a row of the type and qualifier
pub record IsRowOf (i : InventoryView) (type_id qualifier : List ℕ) (row : Row) : Type 0 where
  pub place : ℕ
  pub stands : slice_get i.rows place ≡ Some row
  pub same_type : row.type_id ≡ type_id
  pub same_qualifier : row.qualifier ≡ qualifier

-- the one row of the type and qualifier
pub record IsOnlyRow (i : InventoryView) (type_id qualifier : List ℕ) (row : Row) : Type 0 where
  pub is : IsRowOf i type_id qualifier row
  pub only : (other : Row) → IsRowOf i type_id qualifier other → other ≡ row

-- whether the row is of the type and qualifier
abbrev pub is_of : List ℕ → List ℕ → Row → Bool
is_of type_id qualifier row = pointwise ◌==◌ row.type_id type_id && pointwise ◌==◌ row.qualifier qualifier

-- the row of the type and qualifier, if there is one
abbrev pub row_of : InventoryView → List ℕ → List ℕ → Option Row
row_of i type_id qualifier = find (is_of type_id qualifier) i.rows

-- The row has no severities, or this one: bit n is that of the n-th.
abbrev pub Allows : Row → Severity → Type 0
Allows row severity = (row.severities ≡ 0) ⊎ IsBitSet row.severities (rank_of severity)

abbrev pub allows : Row → Severity → Bool
allows row severity = (row.severities == 0) || not (bit_and row.severities (2 ^ rank_of severity) == 0)
