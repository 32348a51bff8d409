-- Letters and class items: their spelling, and reading them.
use Rattle.std.specs.Prelude.{ℕ, List, [], ◌∷◌, ◌==◌, if◌then◌else◌, Result, Ok, Err}
use Rattle.al_pattern.specs.declared.letter.Letter.{Letter}
use Rattle.al_pattern.specs.declared.letter.Letter.TheVariants.{Plain, Escaped}
use Rattle.al_pattern.specs.declared.letter.Item.{Item}
use Rattle.al_pattern.specs.declared.letter.Item.TheVariants.{One, Digit, Space}
use Rattle.al_pattern.specs.declared.fault.FaultKind.TheVariants.{Syntax, Unsupported}
use Rattle.al_pattern.specs.declared.fault.Fault.{Fault}
use Rattle.al_pattern.specs.Bytes.{is_printable, is_escape}
use Rattle.al_pattern.specs.Faults.{fault_at}

-- the character that a letter stands for: \n, \r and \t are LF, CR and TAB
abbrev pub value_of : Letter → ℕ
value_of (Plain b) = b
value_of (Escaped b) = if b == 110 then 10 else if b == 114 then 13 else if b == 116 then 9 else b

-- the fault where no pattern has the first byte of what is left, or where it ends
abbrev pub stop_at : List ℕ → Fault
stop_at [] = fault_at Syntax []
stop_at (b ∷ rest) = fault_at (if is_printable b then Syntax else Unsupported) (b ∷ rest)

-- behind a backslash
unfoldable pub escape_at : List ℕ → Result (Item × List ℕ) Fault
escape_at [] = Err (stop_at [])
escape_at (b ∷ rest) =
    if is_escape b then Ok (One (Escaped b), rest)
    else if b == 100 then Ok (Digit, rest)
    else if b == 115 then Ok (Space, rest)
    else Err (stop_at (b ∷ rest))
