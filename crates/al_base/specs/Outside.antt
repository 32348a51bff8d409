-- What every object of the outside has: a count of its faults, and bytes that it may tell.
use Rattle.std.specs.Prelude.{◌≡◌, ℕ, ◌<◌, Option, None, Some, List, [], ⊤, ◌↔◌}

-- the last value of a count of faults, where it stays
abbrev pub last_count : ℕ
last_count = 18446744073709551615

-- The count rose, or stands at its last value, where it can rise no further.
abbrev pub Rose : ℕ → ℕ → Type 0
Rose before after = before < last_count → before < after

-- A read of a buffer with room gave no byte exactly where no byte was left.
abbrev pub TellsEnd : Option (List ℕ) → ℕ → Type 0
TellsEnd None count = ⊤
TellsEnd (Some bytes) count = (count ≡ 0) ↔ (bytes ≡ [])
