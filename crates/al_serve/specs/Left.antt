-- How many turns are left, where they have an end.
use Rattle.std.specs.Prelude.{ℕ, ◌-◌, ◌≤◌, ◌<◌, ◌^◌, length, Option, None, Some, ⊤}
use Rattle.al_model.specs.declared.kept.Mark.{Mark}

-- So many turns are left. None stands for turns without an end.
abbrev pub HasTurns : Option ℕ → ℕ → Type 0
HasTurns None count = ⊤
HasTurns (Some left) count = count ≤ left

-- so many turns fewer
abbrev pub turns_less : Option ℕ → ℕ → Option ℕ
turns_less None count = None
turns_less (Some left) count = Some (left - count)

-- The length of the history is a number that the program can count to.
abbrev pub IsCounted : Mark → Type 0
IsCounted m = length m.entries < 2 ^ 64
