-- Where the head of a request ends: at the first empty line after its request line (a rule of this server, within RFC 9112, sections 2.1 and 2.2).
use Rattle.std.specs.Prelude.{◌≡◌, ℕ, ◌-◌, ◌⊎◌, Bool, not, ◌||◌, ◌==◌, IsTrue, List, [], ◌∷◌, ◌++◌, count_by, drop}
use Rattle.std.specs.List.{list_any, position_or_len}
use Rattle.httparse.specs.Grammar.{LineEnd, print_blank}

abbrev pub line_feed : ℕ
line_feed = 10

abbrev pub carriage_return : ℕ
carriage_return = 13

-- a byte of a line's text: neither CR nor LF
abbrev pub is_line_byte : ℕ → Bool
is_line_byte b = not (b == carriage_return || b == line_feed)

-- some byte is one of a line's text
abbrev pub HasLineByte : List ℕ → Type 0
HasLineByte bytes = IsTrue (list_any is_line_byte bytes)

-- the end of a line, and the end of an empty one: LF LF or LF CR LF
abbrev pub IsEmptyLineEnd : List ℕ → Type 0
IsEmptyLineEnd end = (end ≡ line_feed ∷ line_feed ∷ []) ⊎ (end ≡ line_feed ∷ carriage_return ∷ line_feed ∷ [])

-- The text ends with an empty line, and before the first LF of this end, at any distance, a line has text.
pub record EndsInEmptyLine (text : List ℕ) : Type 0 where
  pub front : List ℕ
  pub end : List ℕ
  pub parts : text ≡ front ++ end
  pub some_line : HasLineByte front
  pub empty_line : IsEmptyLineEnd end

-- A block ends in an empty line, and no shorter front of it does.
pub record IsBlock (text : List ℕ) : Type 0 where
  pub ends : EndsInEmptyLine text
  pub shortest : (front back : List ℕ) → text ≡ front ++ back → EndsInEmptyLine front → back ≡ []

-- no front of the bytes is a block
pub record HoldsNoBlock (bytes : List ℕ) : Type 0 where
  pub none : (front back : List ℕ) → bytes ≡ front ++ back → ¬ (EndsInEmptyLine front)

-- the bytes from the first one of a line's text on
abbrev pub from_first_line : List ℕ → List ℕ
from_first_line bytes = drop (position_or_len is_line_byte bytes) bytes

-- how many lines a block has, from its first line with text on, without the empty one at its end
abbrev pub line_count : List ℕ → ℕ
line_count block = count_by (λ b. b == line_feed) (from_first_line block) - 1

-- empty lines and nothing else, each of them LF or CR LF
abbrev pub AreEmptyLines : List ℕ → Type 0
AreEmptyLines bytes = (ends : List LineEnd) × (bytes ≡ print_blank ends)
