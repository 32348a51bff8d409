-- Patterns as their texts.
use Rattle.std.specs.Prelude.{◌≡◌, ℕ, Bool, List, map, Ok}
use Rattle.al_pattern.specs.declared.node.Node.{Node}
use Rattle.al_pattern.specs.Trees.{Choice, IsSpelled}
use Rattle.al_pattern.specs.Reading.{reading, tree_of}
use Rattle.al_pattern.specs.Walk.{seen, choice_seen}
use Rattle.al_pattern.specs.Programs.{IsProgram}

-- the nodes are those of the tree that the text spells
pub record AreNodesOf (nodes : List Node) (text : List ℕ) : Type 0 where
  pub tree : Choice
  pub read : reading text ≡ Ok tree
  pub agree : (c : ℕ) → map (seen c) nodes ≡ choice_seen c tree

-- what a pattern keeps: its text is one, and is compiled
pub record IsReady (source : List ℕ) (nodes : List Node) (nullable : Bool) : Type 0 where
  pub spelled : IsSpelled (tree_of source) source
  pub program : IsProgram nodes nullable (tree_of source)
