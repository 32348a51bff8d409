-- Which shelf takes an alarm.
use Rattle.std.specs.Prelude.{◌≡◌, ℕ, ◌⊎◌, List, [], Option, Some, slice_get, chars}
use Rattle.std.specs.List.{Any}
use Rattle.al_ids.specs.Matches.{Matches}
use Rattle.al_ids.specs.declared.key.AlarmKey.{AlarmKey}
use Rattle.al_pattern.specs.Language.{IsInLanguage}
use Rattle.al_pattern.specs.Reading.{tree_of}
use Rattle.al_types.specs.Inventories.{InventoryView, DerivesFrom}
use Rattle.al_types.specs.Known.{IsFirst}
use Rattle.al_shelf.specs.declared.shelf.Shelf.{Shelf}
use Rattle.al_shelf.specs.declared.shelf.TypeMatch.{TypeMatch}

-- The key's type is the criterion's or derives from it, and the key's whole qualifier is in the language of its pattern.
pub record IsOfType (i : InventoryView) (key : AlarmKey) (criterion : TypeMatch) : Type 0 where
  pub derives : DerivesFrom i key.type_id criterion.type_id
  pub qualifier : IsInLanguage (tree_of criterion.qualifier) (chars key.qualifier)

-- One of the shelf's resource matches matches the resource, or it has none.
abbrev pub TakesResource : List ℕ → Shelf → Type 0
TakesResource resource shelf = (shelf.resources ≡ []) ⊎ Any (λ m. Matches m resource) shelf.resources

-- The key meets one of the shelf's criteria on types, or it has none.
abbrev pub TakesType : InventoryView → AlarmKey → Shelf → Type 0
TakesType i key shelf = (shelf.types ≡ []) ⊎ Any (IsOfType i key) shelf.types

-- The shelf takes the alarms of the key.
pub record Takes (i : InventoryView) (key : AlarmKey) (shelf : Shelf) : Type 0 where
  pub resource : TakesResource key.resource shelf
  pub type_id : TakesType i key shelf

-- The shelf at the place takes them.
abbrev pub TakesAt : InventoryView → AlarmKey → List Shelf → ℕ → Type 0
TakesAt i key shelves place = (shelf : Shelf) × (slice_get shelves place ≡ Some shelf) × Takes i key shelf

-- the place of the first shelf that takes them, none where no shelf does
abbrev pub IsFirstShelf : InventoryView → AlarmKey → List Shelf → Option ℕ → Type 0
IsFirstShelf i key shelves place = IsFirst (TakesAt i key shelves) place
