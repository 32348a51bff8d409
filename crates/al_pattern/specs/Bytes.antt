-- The bytes of a pattern, by what they may stand for.
use Rattle.std.specs.Prelude.{ℕ, Bool, false, not, ◌&&◌, ◌||◌, List, [], ◌∷◌, ◌==◌, nat_le}
use Rattle.std.specs.List.{list_any}

abbrev pub among : List ℕ → ℕ → Bool
among bytes b = list_any (λ x. x == b) bytes

-- the bytes of which a pattern is made
abbrev pub is_printable : ℕ → Bool
is_printable b = nat_le 32 b && nat_le b 126

-- a byte that stands for itself outside a class: all but . \ ? * + ( ) | [ ] { }
unfoldable pub is_char : ℕ → Bool
is_char b = is_printable b && not (among (46 ∷ 92 ∷ 63 ∷ 42 ∷ 43 ∷ 40 ∷ 41 ∷ 124 ∷ 91 ∷ 93 ∷ 123 ∷ 125 ∷ []) b)

-- a byte that stands for itself anywhere in a class: all but [ ] \ -
unfoldable pub is_plain : ℕ → Bool
is_plain b = is_printable b && not (among (91 ∷ 93 ∷ 92 ∷ 45 ∷ []) b)

-- a byte that a backslash makes a character: n r t \ | . ? * + ( ) { } - [ ] ^
unfoldable pub is_escape : ℕ → Bool
is_escape b = among (110 ∷ 114 ∷ 116 ∷ 92 ∷ 124 ∷ 46 ∷ 63 ∷ 42 ∷ 43 ∷ 40 ∷ 41 ∷ 123 ∷ 125 ∷ 45 ∷ 91 ∷ 93 ∷ 94 ∷ []) b

abbrev pub is_alphanumeric : ℕ → Bool
is_alphanumeric b = (nat_le 48 b && nat_le b 57) || (nat_le 65 b && nat_le b 90) || (nat_le 97 b && nat_le b 122)

-- a letter or digit behind a backslash, as in \p, that this profile leaves out
unfoldable pub is_left_out : ℕ → Bool
is_left_out b = is_alphanumeric b && not (among (110 ∷ 114 ∷ 116 ∷ 100 ∷ 115 ∷ []) b)

abbrev pub begins_with : ℕ → List ℕ → Bool
begins_with b [] = false
begins_with b (x ∷ rest) = x == b
