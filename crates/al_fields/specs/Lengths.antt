-- Lengths as far as a number of 64 bits can tell them.
use Rattle.std.specs.Prelude.{ℕ, ◌-◌, ◌^◌, min}

-- the number, or the greatest of 64 bits where it passes that
abbrev pub saturated : ℕ → ℕ
saturated n = min (2 ^ 64 - 1) n
