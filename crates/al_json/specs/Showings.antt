-- What is shown of a resource.
use Rattle.std.specs.Prelude.{Option}
use Rattle.al_fields.specs.Members.{whole}
use Rattle.serde_json.specs.Data.{Data}
use Rattle.al_json.specs.Pieces.{content_data}
use Rattle.al_json.specs.declared.trees.Showing.{Showing}

-- the tree that is shown
abbrev pub tree_shown : Showing → Option Data
tree_shown showing = whole showing.name.now (content_data showing.content.0)
