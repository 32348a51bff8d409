-- The status that an answer tells.
use Rattle.std.specs.Prelude.{ℕ, ◌+◌, ◌-◌, ◌*◌, nat_le, nat_lt, ◌&&◌, if◌then◌else◌}
use Rattle.std.specs.Char.{is_ascii_digit}

-- a status of three digits, and 0 for any other
abbrev pub status_told : ℕ → ℕ
status_told status = if nat_le 100 status && nat_lt status 1000 then status else 0

-- the number that three digits write, 0 where one isn't a digit
abbrev pub three_digits : ℕ → ℕ → ℕ → ℕ
three_digits a b c =
    if is_ascii_digit a && is_ascii_digit b && is_ascii_digit c then (a - 48) * 100 + (b - 48) * 10 + (c - 48) else 0
