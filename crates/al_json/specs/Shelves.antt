-- The trees of shelves (RFC 8632, container `alarm-shelving`).
use Rattle.std.specs.Prelude.{ℕ, List, [], ◌∷◌, Option, Some, codes, map, option_map}
use Rattle.al_fields.specs.Members.{list_of, object_of}
use Rattle.al_shelf.specs.declared.shelf.Shelf.{Shelf}
use Rattle.al_shelf.specs.declared.shelf.TypeMatch.{TypeMatch}
use Rattle.serde_json.specs.Data.{Data, string}

abbrev pub type_match_fields : TypeMatch → List (List ℕ × Option Data)
type_match_fields m =
    (codes "alarm-type-id", Some (string m.type_id))
    ∷ (codes "alarm-type-qualifier-match", Some (string m.qualifier))
    ∷ []

unfoldable pub type_match_tree : TypeMatch → Data
type_match_tree m = object_of (type_match_fields m)

abbrev pub shelf_fields : Shelf → List (List ℕ × Option Data)
shelf_fields shelf =
    (codes "alarm-type", list_of (map type_match_tree shelf.types))
    ∷ (codes "description", option_map string shelf.description)
    ∷ (codes "name", Some (string shelf.name))
    ∷ (codes "resource", list_of (map string shelf.resources))
    ∷ []

unfoldable pub shelf_tree : Shelf → Data
shelf_tree shelf = object_of (shelf_fields shelf)

-- all shelves, in their order
abbrev pub shelving_fields : List Shelf → List (List ℕ × Option Data)
shelving_fields shelves = (codes "shelf", list_of (map shelf_tree shelves)) ∷ []

unfoldable pub shelving_tree : List Shelf → Data
shelving_tree shelves = object_of (shelving_fields shelves)
