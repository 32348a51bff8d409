-- The tokens of a pattern, and reading them.
use Rattle.std.specs.Prelude.{ℕ, Bool, false, ◌+◌, ◌&&◌, ◌||◌, not, List, [], ◌∷◌, ◌==◌, nat_lt, if◌then◌else◌, Option, Some, None, Result, Ok, Err}
use Rattle.al_pattern.specs.declared.letter.Letter.TheVariants.{Plain}
use Rattle.al_pattern.specs.declared.letter.Item.{Item}
use Rattle.al_pattern.specs.declared.letter.Item.TheVariants.{One, Range, Digit, Space}
use Rattle.al_pattern.specs.declared.fault.FaultKind.TheVariants.{Syntax, Unsupported, TooLarge, TooDeep}
use Rattle.al_pattern.specs.declared.fault.Fault.{Fault}
use Rattle.al_pattern.specs.declared.token.Quantifier.{Quantifier}
use Rattle.al_pattern.specs.declared.token.Quantifier.TheVariants.{Once, Optional, Star, Plus}
use Rattle.al_pattern.specs.declared.token.CharTest.{CharTest}
use Rattle.al_pattern.specs.declared.token.CharTest.TheVariants as tests
use Rattle.al_pattern.specs.declared.token.Token.{Token}
use Rattle.al_pattern.specs.declared.token.Token.TheVariants as tokens
use Rattle.al_pattern.specs.Bytes.{among, is_printable, is_char}
use Rattle.al_pattern.specs.Faults.{fault_at, ◌>>=◌}
use Rattle.al_pattern.specs.Letters.{escape_at}
use Rattle.al_pattern.specs.Classes.{begins_left_out, class_at}
use Rattle.al_pattern.specs.Tests.{Test, letter, dot, digit, space, class}

-- a bar, the two ends of a group, or a test; what may be repeated has its quantifier with it
pub data Sign : Type 0 where
  bar : Sign
  open_group : Sign
  close_group : Quantifier → Sign
  one : Test → Quantifier → Sign

-- a test and a token without where their items lie in memory
abbrev pub test_shown : CharTest → Test
test_shown (tests.Letter l) = letter l
test_shown tests.Dot = dot
test_shown tests.Digit = digit
test_shown tests.Space = space
test_shown (tests.Class negated items) = class negated items.items

abbrev pub shown : Token → Sign
shown tokens.Bar = bar
shown tokens.Open = open_group
shown (tokens.Close q) = close_group q
shown (tokens.One test q) = one (test_shown test) q

-- what this profile leaves out outside a class: a byte that isn't printable, an open brace, and a backslash before a letter
-- or digit that has no meaning
unfoldable pub is_unsupported : List ℕ → Bool
is_unsupported [] = false
is_unsupported (b ∷ rest) = not (is_printable b) || b == 123 || (b == 92 && begins_left_out rest)

-- a byte that begins a character, a dot, an escape, a class, a group or a bar
abbrev pub begins_node : ℕ → Bool
begins_node b = is_char b || among (46 ∷ 92 ∷ 91 ∷ 40 ∷ 124 ∷ []) b

abbrev pub escape_test : Item → Test
escape_test (One l) = letter l
escape_test (Range first last) = letter first
escape_test Digit = digit
escape_test Space = space

-- a test at a byte that begins one
unfoldable pub test_at : List ℕ → Result (Test × List ℕ) Fault
test_at [] = Err (fault_at Syntax [])
test_at (b ∷ rest) =
    if b == 46 then Ok (dot, rest)
    else if b == 92 then (escape_at rest >>= λ x. Ok (escape_test x.0, x.1))
    else if b == 91 then class_at rest
    else Ok (letter (Plain b), rest)

abbrev pub quantifier_of : ℕ → Option Quantifier
quantifier_of b = if b == 63 then Some Optional else if b == 42 then Some Star else if b == 43 then Some Plus else None

abbrev pub counted : {A : Type 0} → ℕ → List ℕ → Result A Fault → Result A Fault
counted nodes text read = if nat_lt nodes 256 then read else Err (fault_at TooLarge text)

abbrev pub quantifier_read : ℕ → ℕ → List ℕ → Option Quantifier → Result (Quantifier × ℕ × List ℕ) Fault
quantifier_read nodes b rest None = Ok (Once, nodes, b ∷ rest)
quantifier_read nodes b rest (Some q) = counted nodes (b ∷ rest) (Ok (q, nodes + 1, rest))

-- the quantifier behind an atom, the nodes so far and what is left
unfoldable pub quantifier_at : ℕ → List ℕ → Result (Quantifier × ℕ × List ℕ) Fault
quantifier_at nodes [] = Ok (Once, nodes, [])
quantifier_at nodes (b ∷ rest) = quantifier_read nodes b rest (quantifier_of b)

abbrev pub close_at : ℕ → List ℕ → Result (Sign × ℕ × List ℕ) Fault
close_at nodes rest = quantifier_at nodes rest >>= λ x. Ok (close_group x.0, x.1, x.2)

abbrev pub one_at : ℕ → List ℕ → Result (Sign × ℕ × List ℕ) Fault
one_at nodes text = test_at text >>= λ x. quantifier_at (nodes + 1) x.1 >>= λ y. Ok (one x.0 y.0, y.1, y.2)

-- the token at the front of a text, where so many groups are open and so many nodes were read; with it the nodes then and
-- what is left
unfoldable pub token_at : ℕ → ℕ → List ℕ → Result (Sign × ℕ × List ℕ) Fault
token_at depth nodes [] = Err (fault_at Syntax [])
token_at depth nodes (b ∷ rest) =
    if is_unsupported (b ∷ rest) then Err (fault_at Unsupported (b ∷ rest))
    else if b == 41 then (if depth == 0 then Err (fault_at Syntax (b ∷ rest)) else close_at nodes rest)
    else if not (begins_node b) then Err (fault_at Syntax (b ∷ rest))
    else counted nodes (b ∷ rest)
    (if b == 124 then Ok (bar, nodes + 1, rest)
    else if b == 40 then (if nat_lt depth 16 then Ok (open_group, nodes + 1, rest) else Err (fault_at TooDeep (b ∷ rest)))
    else one_at nodes (b ∷ rest))
