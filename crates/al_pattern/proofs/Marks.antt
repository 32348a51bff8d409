-- Marks on the tests of a tree: where the text so far may end.
use Rattle.std.proofs.Common.{◌≡◌, ℕ, Bool, true, false, ◌&&◌, ◌||◌, ◌⊎◌, List, [], ◌∷◌, ◌++◌}
use Rattle.al_pattern.specs.declared.token.Quantifier.{Quantifier}
use Rattle.al_pattern.specs.declared.token.Quantifier.TheVariants.{Once, Optional, Star, Plus}
use Rattle.al_pattern.specs.declared.walk.Level.{Level}
use Rattle.al_pattern.specs.Tests.{is_allowed}
use Rattle.al_pattern.specs.Trees.{Choice, single, either, Branch, nothing, followed, Atom, character, group}
use Rattle.al_pattern.specs.Language.{IsRepeated, IsQuantified, IsInAtom}
use Rattle.al_pattern.specs.Walk.{begun, at_bar, may_skip, may_repeat}

-- a mark for each test
abbrev mutual
  pub ChoiceMarks : Choice → Type 0
  ChoiceMarks (single b) = BranchMarks b
  ChoiceMarks (either x b) = ChoiceMarks x × BranchMarks b

  pub BranchMarks : Branch → Type 0
  BranchMarks nothing = Unit {0}
  BranchMarks (followed b a q) = BranchMarks b × AtomMarks a

  pub AtomMarks : Atom → Type 0
  AtomMarks (character t) = Bool
  AtomMarks (group x) = ChoiceMarks x

-- no mark at all
abbrev mutual
  pub choice_blank : (x : Choice) → ChoiceMarks x
  choice_blank (single b) = branch_blank b
  choice_blank (either x b) = (choice_blank x, branch_blank b)

  pub branch_blank : (b : Branch) → BranchMarks b
  branch_blank nothing = tt
  branch_blank (followed b a q) = (branch_blank b, atom_blank a)

  pub atom_blank : (a : Atom) → AtomMarks a
  atom_blank (character t) = false
  atom_blank (group x) = choice_blank x

-- whether a part takes the empty text; of a branch, where what stands before it does
abbrev mutual
  pub choice_nullable : Choice → Bool
  choice_nullable (single b) = branch_nullable true b
  choice_nullable (either x b) = choice_nullable x || branch_nullable true b

  pub branch_nullable : Bool → Branch → Bool
  branch_nullable before nothing = before
  branch_nullable before (followed b a q) = branch_nullable before b && (atom_nullable a || may_skip q)

  pub atom_nullable : Atom → Bool
  atom_nullable (character t) = false
  atom_nullable (group x) = choice_nullable x

-- whether the text so far may end with a part; of a branch, where it may also end before it
abbrev mutual
  pub choice_final : (x : Choice) → ChoiceMarks x → Bool
  choice_final (single b) m = branch_final false b m
  choice_final (either x b) m = choice_final x m.0 || branch_final false b m.1

  pub branch_final : Bool → (b : Branch) → BranchMarks b → Bool
  branch_final before nothing m = before
  branch_final before (followed b a q) m = atom_final a m.1 || (branch_final before b m.0 && (atom_nullable a || may_skip q))

  pub atom_final : (a : Atom) → AtomMarks a → Bool
  atom_final (character t) m = m
  atom_final (group x) m = choice_final x m

-- the marks after one character more, where a part may begin before it or not
abbrev mutual
  pub choice_shift : Bool → ℕ → (x : Choice) → ChoiceMarks x → ChoiceMarks x
  choice_shift begins c (single b) m = branch_shift begins c b m
  choice_shift begins c (either x b) m = (choice_shift begins c x m.0, branch_shift begins c b m.1)

  pub branch_shift : Bool → ℕ → (b : Branch) → BranchMarks b → BranchMarks b
  branch_shift begins c nothing m = tt
  branch_shift begins c (followed b a q) m =
      (branch_shift begins c b m.0, atom_shift (branch_final begins b m.0 || (may_repeat q && atom_final a m.1)) c a m.1)

  pub atom_shift : Bool → ℕ → (a : Atom) → AtomMarks a → AtomMarks a
  atom_shift begins c (character t) m = begins && is_allowed t c
  atom_shift begins c (group x) m = choice_shift begins c x m

-- the marks in the order of the nodes; the end of a group has whether the group may end there
abbrev mutual
  pub choice_list : (x : Choice) → ChoiceMarks x → List Bool
  choice_list (single b) m = branch_list b m
  choice_list (either x b) m = choice_list x m.0 ++ false ∷ branch_list b m.1

  pub branch_list : (b : Branch) → BranchMarks b → List Bool
  branch_list nothing m = []
  branch_list (followed b a q) m = branch_list b m.0 ++ atom_list a m.1

  pub atom_list : (a : Atom) → AtomMarks a → List Bool
  atom_list (character t) m = m ∷ []
  atom_list (group x) m = false ∷ (choice_list x m ++ choice_final x m ∷ [])

-- the level behind a branch, and behind a choice
abbrev pub branch_level : Level → (b : Branch) → BranchMarks b → BranchMarks b → Level
branch_level l b olds news = record {
  start = l.start;
  enter = branch_final l.enter b olds;
  done = branch_final l.done b news;
  empty = branch_nullable l.empty b;
  ended = l.ended;
  skipped = l.skipped;
}

abbrev pub choice_level : Bool → (x : Choice) → ChoiceMarks x → ChoiceMarks x → Level
choice_level begins (single b) olds news = branch_level (begun begins) b olds news
choice_level begins (either x b) olds news = branch_level (at_bar (choice_level begins x olds.0 news.0)) b olds.1 news.1

-- ---- what completes a part that the text so far has begun

abbrev pub IsAfter : Quantifier → (List ℕ → Type 0) → List ℕ → Type 0
IsAfter Once Takes text = text ≡ []
IsAfter Optional Takes text = text ≡ []
IsAfter Star Takes text = IsRepeated Takes text
IsAfter Plus Takes text = IsRepeated Takes text

abbrev pub CompletesPiece : Quantifier → (List ℕ → Type 0) → (List ℕ → Type 0) → List ℕ → Type 0
CompletesPiece q Takes Completes text = (front : List ℕ) × (back : List ℕ) × (text ≡ front ++ back) × Completes front × IsAfter q Takes back

abbrev mutual
  pub CompletesChoice : (x : Choice) → ChoiceMarks x → List ℕ → Type 0
  CompletesChoice (single b) m text = CompletesBranch b m text
  CompletesChoice (either x b) m text = CompletesChoice x m.0 text ⊎ CompletesBranch b m.1 text

  pub CompletesBranch : (b : Branch) → BranchMarks b → List ℕ → Type 0
  CompletesBranch nothing m text = ⊥
  CompletesBranch (followed b a q) m text =
      ((front : List ℕ) × (back : List ℕ) × (text ≡ front ++ back) × CompletesBranch b m.0 front × IsQuantified q (λ t. IsInAtom a t) back)
      ⊎ CompletesPiece q (λ t. IsInAtom a t) (λ t. CompletesAtom a m.1 t) text

  pub CompletesAtom : (a : Atom) → AtomMarks a → List ℕ → Type 0
  CompletesAtom (character t) m text = (m ≡ true) × (text ≡ [])
  CompletesAtom (group x) m text = CompletesChoice x m text
