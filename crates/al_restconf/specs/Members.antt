-- What the pieces of the page's table say.
use Rattle.std.specs.Prelude.{ℕ, List, [], ◌∷◌, Option, Some, codes, map}
use Rattle.al_fields.specs.Leaves.{leaf_data}
use Rattle.al_fields.specs.Members.{list_of, object_of}
use Rattle.serde_json.specs.Data.{Data, number, string, unsigned}
use Rattle.al_restconf.specs.declared.page.Member.{Member}
use Rattle.al_restconf.specs.declared.page.Member.TheVariants.{Frames, Leaf}

abbrev pub member_data : Member → Option Data
member_data (Leaf leaf) = leaf_data leaf
member_data (Frames texts) = list_of (map string texts.now)

-- a page of these texts, of a history of this length
unfoldable pub page_shown : List (List ℕ) → ℕ → Data
page_shown texts len =
    object_of ((codes "entry", list_of (map string texts)) ∷ (codes "length", Some (number (unsigned len))) ∷ [])
