-- A pattern as a tree: how it is written, and which trees are patterns.
use Rattle.std.specs.Prelude.{◌≡◌, ℕ, ◌+◌, ◌≤◌, Bool, true, ◌&&◌, List, [], ◌∷◌, ◌++◌, max}
use Rattle.al_pattern.specs.declared.token.Quantifier.{Quantifier}
use Rattle.al_pattern.specs.declared.token.Quantifier.TheVariants.{Once, Optional, Star, Plus}
use Rattle.al_pattern.specs.Tests.{Test, test_spelling, is_test}

-- A choice is one branch, or a choice and one branch more. A branch is nothing, or a branch and one atom more with its
-- quantifier. An atom is a test of one character, or a choice in parentheses.
mutual
  pub data Choice : Type 0 where
    single : Branch → Choice
    either : Choice → Branch → Choice

  pub data Branch : Type 0 where
    nothing : Branch
    followed : Branch → Atom → Quantifier → Branch

  pub data Atom : Type 0 where
    character : Test → Atom
    group : Choice → Atom

-- ---- how it is written

abbrev pub quantifier_spelling : Quantifier → List ℕ
quantifier_spelling Once = []
quantifier_spelling Optional = 63 ∷ []
quantifier_spelling Star = 42 ∷ []
quantifier_spelling Plus = 43 ∷ []

abbrev mutual
  pub choice_spelling : Choice → List ℕ
  choice_spelling (single b) = branch_spelling b
  choice_spelling (either c b) = choice_spelling c ++ 124 ∷ branch_spelling b

  pub branch_spelling : Branch → List ℕ
  branch_spelling nothing = []
  branch_spelling (followed b a q) = branch_spelling b ++ (atom_spelling a ++ quantifier_spelling q)

  pub atom_spelling : Atom → List ℕ
  atom_spelling (character t) = test_spelling t
  atom_spelling (group c) = 40 ∷ (choice_spelling c ++ 41 ∷ [])

-- ---- which trees are patterns

abbrev pub quantifier_nodes : Quantifier → ℕ
quantifier_nodes Once = 0
quantifier_nodes Optional = 1
quantifier_nodes Star = 1
quantifier_nodes Plus = 1

-- each character, dot, escape, class, group, quantifier and bar is one node
abbrev mutual
  pub choice_nodes : Choice → ℕ
  choice_nodes (single b) = branch_nodes b
  choice_nodes (either c b) = choice_nodes c + 1 + branch_nodes b

  pub branch_nodes : Branch → ℕ
  branch_nodes nothing = 0
  branch_nodes (followed b a q) = branch_nodes b + (atom_nodes a + quantifier_nodes q)

  pub atom_nodes : Atom → ℕ
  atom_nodes (character t) = 1
  atom_nodes (group c) = 1 + choice_nodes c

-- how many groups stand in one another
abbrev mutual
  pub choice_depth : Choice → ℕ
  choice_depth (single b) = branch_depth b
  choice_depth (either c b) = max (choice_depth c) (branch_depth b)

  pub branch_depth : Branch → ℕ
  branch_depth nothing = 0
  branch_depth (followed b a q) = max (branch_depth b) (atom_depth a)

  pub atom_depth : Atom → ℕ
  atom_depth (character t) = 0
  atom_depth (group c) = 1 + choice_depth c

-- whether each test may be written
abbrev mutual
  pub is_choice : Choice → Bool
  is_choice (single b) = is_branch b
  is_choice (either c b) = is_choice c && is_branch b

  pub is_branch : Branch → Bool
  is_branch nothing = true
  is_branch (followed b a q) = is_branch b && is_atom a

  pub is_atom : Atom → Bool
  is_atom (character t) = is_test t
  is_atom (group c) = is_choice c

pub record IsPattern (tree : Choice) : Type 0 where
  pub written : is_choice tree ≡ true
  pub few_nodes : choice_nodes tree ≤ 256
  pub few_groups : choice_depth tree ≤ 16

-- the text is the pattern
pub record IsSpelled (tree : Choice) (text : List ℕ) : Type 0 where
  pub pattern : IsPattern tree
  pub spelled : text ≡ choice_spelling tree
