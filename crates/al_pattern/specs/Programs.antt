-- What makes nodes the compiled form of a tree.
use Rattle.std.specs.Prelude.{◌≡◌, ◌≤◌, ◌↔◌, ℕ, Bool, true, List, [], length, map}
use Rattle.al_pattern.specs.declared.node.Node.{Node}
use Rattle.al_pattern.specs.Trees.{Choice}
use Rattle.al_pattern.specs.Language.{IsInLanguage}
use Rattle.al_pattern.specs.Walk.{seen, choice_seen, Nests}

-- whichever character sees them, the nodes are those of the tree; they are few, and no more than 16 groups are open in them
pub record IsCompiled (nodes : List Node) (tree : Choice) : Type 0 where
  pub agree : (c : ℕ) → map (seen c) nodes ≡ choice_seen c tree
  pub few : length nodes ≤ 512
  pub nests : (c : ℕ) → Nests 16 (choice_seen c tree)

-- with the nodes, whether the pattern takes the empty text
pub record IsProgram (nodes : List Node) (nullable : Bool) (tree : Choice) : Type 0 where
  pub compiled : IsCompiled nodes tree
  pub empty_text : nullable ≡ true ↔ IsInLanguage tree []
