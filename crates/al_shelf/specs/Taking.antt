-- Which shelf takes an alarm, as functions.
use Rattle.std.specs.Prelude.{ℕ, Bool, ◌&&◌, ◌||◌, ◌==◌, Option, List, chars, find, length}
use Rattle.std.specs.List.{list_any}
use Rattle.al_ids.specs.Matching.{matches}
use Rattle.al_ids.specs.declared.key.AlarmKey.{AlarmKey}
use Rattle.al_pattern.specs.Membership.{is_in_language}
use Rattle.al_types.specs.Inventories.{InventoryView, derives_from}
use Rattle.al_shelf.specs.declared.shelf.Shelf.{Shelf}
use Rattle.al_shelf.specs.declared.shelf.TypeMatch.{TypeMatch}

abbrev pub is_empty : {X : Type 0} → List X → Bool
is_empty xs = length xs == 0

-- The key's type is the criterion's or derives from it, and the key's whole qualifier is in the language of its pattern.
abbrev pub is_of_type : InventoryView → AlarmKey → TypeMatch → Bool
is_of_type i key criterion = derives_from i key.type_id criterion.type_id && is_in_language criterion.qualifier (chars key.qualifier)

-- One of the shelf's resource matches matches the resource, or it has none.
abbrev pub takes_resource : List ℕ → Shelf → Bool
takes_resource resource shelf = is_empty shelf.resources || list_any (λ m. matches m resource) shelf.resources

-- The key meets one of the shelf's criteria on types, or it has none.
abbrev pub takes_type : InventoryView → AlarmKey → Shelf → Bool
takes_type i key shelf = is_empty shelf.types || list_any (is_of_type i key) shelf.types

-- whether the shelf takes the alarms of the key
unfoldable pub takes : InventoryView → AlarmKey → Shelf → Bool
takes i key shelf = takes_resource key.resource shelf && takes_type i key shelf

-- the first shelf that takes them
abbrev pub first_shelf : InventoryView → AlarmKey → List Shelf → Option Shelf
first_shelf i key shelves = find (takes i key) shelves
