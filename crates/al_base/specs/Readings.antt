-- What a clock that tells its readings will read.
use Rattle.std.specs.Prelude.{ℕ, List, [], ◌∷◌}

-- The readings to come. When they are used up, the last one is repeated.
pub record Readings : Type 0 where
  pub ahead : List ℕ
  pub last : ℕ

-- the first of these readings, and what is left then
abbrev pub first_reading : List ℕ → ℕ → ℕ
first_reading [] last = last
first_reading (reading ∷ rest) last = reading

abbrev pub without_first : List ℕ → List ℕ
without_first [] = []
without_first (reading ∷ rest) = rest

-- the next reading
abbrev pub next_reading : Readings → ℕ
next_reading r = first_reading r.ahead r.last

-- what is left after it
abbrev pub after_reading : Readings → Readings
after_reading r = record { ahead = without_first r.ahead; last = next_reading r }
