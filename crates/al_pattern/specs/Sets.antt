-- Sets of small numbers, one bit each.
use Rattle.std.specs.Prelude.{◌≡◌, ℕ, ◌/◌, ◌%◌, Bool, false, not, List, ◌==◌, slice_index, slice_index_or, if◌then◌else◌}
use Rattle.std.specs.Int.{bit_at}
use Rattle.al_pattern.specs.declared.node.CharSet.{CharSet}

-- whether the number is in the set that the words of 64 bits make
unfoldable pub is_in : List ℕ → ℕ → Bool
is_in words n = bit_at (slice_index words (n / 64)) (n % 64) == 1

-- the places of the set are those where the list is true
abbrev pub Holds : List ℕ → List Bool → Type 0
Holds words marks = (n : ℕ) → is_in words n ≡ slice_index_or marks n false

-- whether a set of characters allows one; those past the bits are only in a negated set
abbrev pub admits : CharSet → ℕ → Bool
admits set c = if set.negated then not (is_in set.bytes c) else is_in set.bytes c
