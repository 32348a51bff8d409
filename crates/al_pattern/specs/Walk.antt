-- One step of the walk over a text: a fold over the nodes of the compiled pattern.
use Rattle.std.specs.Prelude.{◌≡◌, ℕ, ◌+◌, ◌-◌, ◌<◌, Bool, true, false, ◌&&◌, ◌||◌, List, [], ◌∷◌, ◌++◌, drop, slice_index_or}
use Rattle.al_pattern.specs.declared.walk.Level.{Level}
use Rattle.al_pattern.specs.declared.token.Quantifier.{Quantifier}
use Rattle.al_pattern.specs.declared.token.Quantifier.TheVariants.{Once, Optional, Star, Plus}
use Rattle.al_pattern.specs.declared.node.Node.{Node}
use Rattle.al_pattern.specs.declared.node.Node.TheVariants as nodes
use Rattle.al_pattern.specs.Sets.{admits, Holds}
use Rattle.al_pattern.specs.Tests.{is_allowed}
use Rattle.al_pattern.specs.Trees.{Choice, single, either, Branch, nothing, followed, Atom, character, group}

-- a node as one character sees it: a test is whether it allows the character
pub data Seen : Type 0 where
  seen_bar : Seen
  seen_open : Quantifier → ℕ → Seen
  seen_close : Quantifier → Seen
  seen_test : Bool → Quantifier → Seen

abbrev pub seen : ℕ → Node → Seen
seen c nodes.Bar = seen_bar
seen c (nodes.Open q inner) = seen_open q inner
seen c (nodes.Close q) = seen_close q
seen c (nodes.Test set q) = seen_test (admits set c) q

-- how many nodes a part compiles to
abbrev mutual
  pub choice_size : Choice → ℕ
  choice_size (single b) = branch_size b
  choice_size (either c b) = choice_size c + (1 + branch_size b)

  pub branch_size : Branch → ℕ
  branch_size nothing = 0
  branch_size (followed b a q) = branch_size b + atom_size a

  pub atom_size : Atom → ℕ
  atom_size (character t) = 1
  atom_size (group c) = 1 + (choice_size c + 1)

-- the nodes of a part as the character sees them
abbrev mutual
  pub choice_seen : ℕ → Choice → List Seen
  choice_seen c (single b) = branch_seen c b
  choice_seen c (either x b) = choice_seen c x ++ seen_bar ∷ branch_seen c b

  pub branch_seen : ℕ → Branch → List Seen
  branch_seen c nothing = []
  branch_seen c (followed b a q) = branch_seen c b ++ atom_seen c a q

  pub atom_seen : ℕ → Atom → Quantifier → List Seen
  atom_seen c (character t) q = seen_test (is_allowed t c) q ∷ []
  atom_seen c (group x) q = seen_open q (choice_size x) ∷ (choice_seen c x ++ seen_close q ∷ [])

-- ---- one step

-- Of a group and its current branch, before and after the character: may the branches begin here, may the rest of the
-- branch begin here, has the branch so far ended with the character, does the branch so far take nothing, and the last two of
-- some finished branch.
abbrev pub begun : Bool → Level
begun begins = record { start = begins; enter = begins; done = false; empty = true; ended = false; skipped = false }

abbrev pub may_skip : Quantifier → Bool
may_skip Once = false
may_skip Optional = true
may_skip Star = true
may_skip Plus = false

abbrev pub may_repeat : Quantifier → Bool
may_repeat Once = false
may_repeat Optional = false
may_repeat Star = true
may_repeat Plus = true

-- an atom may begin behind what stands before it, or once more
abbrev pub may_enter : Level → Quantifier → Bool → Bool
may_enter l q was = l.enter || (may_repeat q && was)

-- behind an atom that was at its end before the character, is at its end now, and can take nothing
abbrev pub behind_atom : Level → Bool → Bool → Bool → Level
behind_atom l was now nullable = record {
  start = l.start;
  enter = was || (l.enter && nullable);
  done = now || (l.done && nullable);
  empty = l.empty && nullable;
  ended = l.ended;
  skipped = l.skipped;
}

abbrev pub at_bar : Level → Level
at_bar l = record { start = l.start; enter = l.start; done = false; empty = true; ended = l.ended || l.done; skipped = l.skipped || l.empty }

abbrev pub has_ended : Level → Bool
has_ended l = l.ended || l.done

abbrev pub takes_nothing : Level → Bool
takes_nothing l = l.skipped || l.empty

abbrev pub mark_at : ℕ → List Bool → Bool
mark_at k marks = slice_index_or marks k false

abbrev pub emitted : Bool → List Bool × Level → List Bool × Level
emitted mark rest = (mark ∷ rest.0, rest.1)

-- Over the nodes and their marks before the character: their marks after it, and the level at the end. A test is marked where
-- the text so far may end with it, and the end of a group where it may end there.
unfoldable pub run : List Seen → List Bool → Level → List Level → List Bool × Level
run [] olds l around = ([], l)
run (seen_bar ∷ nodes) olds l around = emitted false (run nodes (drop 1 olds) (at_bar l) around)
run (seen_open q inner ∷ nodes) olds l around =
    emitted false (run nodes (drop 1 olds) (begun (may_enter l q (mark_at (inner + 1) olds))) (l ∷ around))
run (seen_close q ∷ nodes) olds l [] = emitted false (run nodes (drop 1 olds) l [])
run (seen_close q ∷ nodes) olds l (outer ∷ around) =
    emitted (has_ended l) (run nodes (drop 1 olds) (behind_atom outer (mark_at 0 olds) (has_ended l) (takes_nothing l || may_skip q)) around)
run (seen_test allows q ∷ nodes) olds l around =
    emitted (may_enter l q (mark_at 0 olds) && allows)
    (run nodes (drop 1 olds) (behind_atom l (mark_at 0 olds) (may_enter l q (mark_at 0 olds) && allows) (may_skip q)) around)

-- of 16 places for levels so many are free: a node may be taken where its level has one, or gives one back
abbrev pub FitsIn : ℕ → Seen → Type 0
FitsIn free seen_bar = Unit {0}
FitsIn free (seen_open q inner) = (0 < free) × (inner < 512)
FitsIn free (seen_close q) = free < 16
FitsIn free (seen_test allows q) = Unit {0}

abbrev pub free_after : ℕ → Seen → ℕ
free_after free seen_bar = free
free_after free (seen_open q inner) = free - 1
free_after free (seen_close q) = free + 1
free_after free (seen_test allows q) = free

abbrev pub Nests : ℕ → List Seen → Type 0
Nests free [] = Unit {0}
Nests free (node ∷ nodes) = FitsIn free node × Nests (free_after free node) nodes

-- the marks and the level are those that the run over all nodes leaves
pub record Steps (nodes : List Seen) (olds : List Bool) (begins : Bool) (marks : List ℕ) (level : Level) : Type 0 where
  pub marked : Holds marks (run nodes olds (begun begins) []).0
  pub last : level ≡ (run nodes olds (begun begins) []).1
