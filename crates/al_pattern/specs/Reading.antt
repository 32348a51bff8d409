-- Reading a pattern from left to right, with the first fault that is met.
use Rattle.std.specs.Prelude.{◌≡◌, ℕ, zero, suc, ◌-◌, List, [], ◌∷◌, length, Option, Some, None, Result, Ok, Err}
use Rattle.al_pattern.specs.declared.token.Quantifier.{Quantifier}
use Rattle.al_pattern.specs.declared.fault.FaultKind.{FaultKind}
use Rattle.al_pattern.specs.declared.fault.FaultKind.TheVariants as kinds
use Rattle.al_pattern.specs.declared.fault.Fault.{Fault}
use Rattle.al_pattern.specs.declared.fault.PatternFault.{PatternFault}
use Rattle.al_pattern.specs.declared.fault.PatternFault.TheVariants as faults
use Rattle.al_pattern.specs.Faults.{fault_at, ◌>>=◌}
use Rattle.al_pattern.specs.Trees.{Choice, single, either, nothing, followed, Atom, character, group}
use Rattle.al_pattern.specs.Tokens.{Sign, bar, open_group, close_group, one, token_at}

-- what was read: the choice so far inside the innermost open group, and those around it, the innermost first
pub record Progress : Type 0 where
  pub top : Choice
  pub outer : List Choice

abbrev pub start : Progress
start = record { top = single nothing; outer = [] }

-- one atom more at the end
abbrev pub with_atom : Choice → Atom → Quantifier → Choice
with_atom (single b) a q = single (followed b a q)
with_atom (either c b) a q = either c (followed b a q)

abbrev pub closed : Quantifier → Choice → List Choice → Progress
closed q top [] = record { top = top; outer = [] }
closed q top (around ∷ outer) = record { top = with_atom around (group top) q; outer = outer }

-- one token more
abbrev pub put : Sign → Progress → Progress
put bar p = record { top = either p.top nothing; outer = p.outer }
put open_group p = record { top = single nothing; outer = p.top ∷ p.outer }
put (close_group q) p = closed q p.top p.outer
put (one t q) p = record { top = with_atom p.top (character t) q; outer = p.outer }

-- at the end no group may be open
abbrev pub ended : Choice → List Choice → Result Choice Fault
ended top [] = Ok top
ended top (around ∷ outer) = Err (fault_at kinds.Syntax [])

-- the pattern, from what was read and what is left, in at most so many tokens
unfoldable pub read_from : ℕ → ℕ → Progress → List ℕ → Result Choice Fault
read_from steps nodes p [] = ended p.top p.outer
read_from zero nodes p (b ∷ rest) = Err (fault_at kinds.Syntax (b ∷ rest))
read_from (suc steps) nodes p (b ∷ rest) =
    token_at (length p.outer) nodes (b ∷ rest) >>= λ x. read_from steps x.1 (put x.0 p) x.2

-- each token takes a byte at least
abbrev pub reading : List ℕ → Result Choice Fault
reading text = read_from (length text) 0 start text

abbrev pub tree_or_empty : Result Choice Fault → Choice
tree_or_empty (Ok tree) = tree
tree_or_empty (Err f) = single nothing

-- the tree that a text spells; of a text that is no pattern, the empty one
unfoldable pub tree_of : List ℕ → Choice
tree_of text = tree_or_empty (reading text)

abbrev pub fault_named : FaultKind → ℕ → PatternFault
fault_named kinds.Syntax place = faults.Syntax place
fault_named kinds.Unsupported place = faults.Unsupported place
fault_named kinds.TooLarge place = faults.TooLarge place
fault_named kinds.TooDeep place = faults.TooDeep place

-- the fault with its place, counted from the front of the text
abbrev pub placed : List ℕ → Fault → PatternFault
placed text f = fault_named f.kind (length text - f.left)

abbrev pub fault_or_none : List ℕ → Result Choice Fault → Option PatternFault
fault_or_none text (Ok tree) = None
fault_or_none text (Err f) = Some (placed text f)

-- the first fault of a text; none where it is a pattern
unfoldable pub first_fault : List ℕ → Option PatternFault
first_fault text = fault_or_none text (reading text)

-- an error is the first fault, unless memory ran out
abbrev pub IsFirstFault : List ℕ → PatternFault → Type 0
IsFirstFault text faults.Memory = Unit {0}
IsFirstFault text (faults.Syntax n) = first_fault text ≡ Some (faults.Syntax n)
IsFirstFault text (faults.Unsupported n) = first_fault text ≡ Some (faults.Unsupported n)
IsFirstFault text (faults.TooLarge n) = first_fault text ≡ Some (faults.TooLarge n)
IsFirstFault text (faults.TooDeep n) = first_fault text ≡ Some (faults.TooDeep n)
