-- What calls of `Turns` leave as it is.
use Rattle.std.specs.Prelude.{◌<◌, ◌-◌, ℕ, Option, None, Some}
use Rattle.atomic_table.specs.Seated.{TableId}

-- Whose turns they are. `Alone` has no table, number 0, and 0 for the others.
pub record Identity : Type 0 where
  -- of the turnstile
  pub table : Option TableId
  -- the pass's number
  pub number : ℕ
  -- the length of the history when the turnstile was made
  pub base : ℕ
  -- how many passes pass 1 made
  pub made : ℕ

-- A turn is left. None stands for turns without an end.
abbrev pub HasTurn : Option ℕ → Type 0
HasTurn None = Unit {0}
HasTurn (Some n) = 0 < n

-- one turn fewer
abbrev pub one_less : Option ℕ → Option ℕ
one_less None = None
one_less (Some n) = Some (n - 1)
