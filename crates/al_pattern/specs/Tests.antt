-- Tests of one character, and the characters that each allows.
use Rattle.std.specs.Prelude.{ℕ, Bool, true, false, not, ◌&&◌, ◌||◌, List, [], ◌∷◌, ◌++◌, ◌==◌, nat_le, if◌then◌else◌}
use Rattle.std.specs.List.{list_any}
use Rattle.al_pattern.specs.declared.letter.Letter.{Letter}
use Rattle.al_pattern.specs.declared.letter.Letter.TheVariants.{Plain, Escaped}
use Rattle.al_pattern.specs.declared.letter.Item.{Item}
use Rattle.al_pattern.specs.declared.letter.Item.TheVariants.{One, Range, Digit, Space}
use Rattle.al_pattern.specs.Bytes.{among, is_char, is_plain, is_escape}
use Rattle.al_pattern.specs.Letters.{value_of}

-- a letter, the dot, \d, \s, or a class, which may be negated
pub data Test : Type 0 where
  letter : Letter → Test
  dot : Test
  digit : Test
  space : Test
  class : Bool → List Item → Test

abbrev pub is_digit : ℕ → Bool
is_digit c = nat_le 48 c && nat_le c 57

-- space, TAB, LF and CR
abbrev pub is_space : ℕ → Bool
is_space c = among (32 ∷ 9 ∷ 10 ∷ 13 ∷ []) c

abbrev pub is_in_item : ℕ → Item → Bool
is_in_item c (One l) = c == value_of l
is_in_item c (Range first last) = nat_le (value_of first) c && nat_le c (value_of last)
is_in_item c Digit = is_digit c
is_in_item c Space = is_space c

-- whether the test allows the character
unfoldable pub is_allowed : Test → ℕ → Bool
is_allowed (letter l) c = c == value_of l
is_allowed dot c = not (c == 10 || c == 13)
is_allowed digit c = is_digit c
is_allowed space c = is_space c
is_allowed (class negated items) c =
    if negated then not (list_any (is_in_item c) items) else list_any (is_in_item c) items

-- ---- how a test is written

abbrev pub letter_spelling : Letter → List ℕ
letter_spelling (Plain b) = b ∷ []
letter_spelling (Escaped b) = 92 ∷ b ∷ []

abbrev pub item_spelling : Item → List ℕ
item_spelling (One l) = letter_spelling l
item_spelling (Range first last) = letter_spelling first ++ 45 ∷ letter_spelling last
item_spelling Digit = 92 ∷ 100 ∷ []
item_spelling Space = 92 ∷ 115 ∷ []

abbrev pub items_spelling : List Item → List ℕ
items_spelling [] = []
items_spelling (item ∷ items) = item_spelling item ++ items_spelling items

-- the sign of a negated class
abbrev pub negation : Bool → List ℕ
negation true = 94 ∷ []
negation false = []

unfoldable pub test_spelling : Test → List ℕ
test_spelling (letter l) = letter_spelling l
test_spelling dot = 46 ∷ []
test_spelling digit = 92 ∷ 100 ∷ []
test_spelling space = 92 ∷ 115 ∷ []
test_spelling (class negated items) = 91 ∷ (negation negated ++ (items_spelling items ++ 93 ∷ []))

-- ---- which tests may be written

abbrev pub is_letter : Letter → Bool
is_letter (Plain b) = is_char b
is_letter (Escaped b) = is_escape b

abbrev pub is_class_letter : Letter → Bool
is_class_letter (Plain b) = is_plain b
is_class_letter (Escaped b) = is_escape b

abbrev pub is_hyphen : Item → Bool
is_hyphen (One (Plain b)) = b == 45
is_hyphen _ = false

-- an item that may stand anywhere in a class; the ends of a range don't fall
abbrev pub is_item : Item → Bool
is_item (One l) = is_class_letter l
is_item (Range first last) = is_class_letter first && is_class_letter last && nat_le (value_of first) (value_of last)
is_item Digit = true
is_item Space = true

-- one item at least; a bare hyphen only as the first or the last
abbrev pub are_items_after : Bool → List Item → Bool
are_items_after is_first [] = not is_first
are_items_after is_first (item ∷ []) = is_item item || is_hyphen item
are_items_after is_first (item ∷ next ∷ items) =
    (is_item item || (is_hyphen item && is_first)) && are_items_after false (next ∷ items)

abbrev pub are_items : List Item → Bool
are_items items = are_items_after true items

-- a ^ right behind the bracket negates, so the items of a class that isn't negated don't begin with it
abbrev pub begins_negated : List Item → Bool
begins_negated (One (Plain b) ∷ items) = b == 94
begins_negated (Range (Plain b) last ∷ items) = b == 94
begins_negated _ = false

unfoldable pub is_test : Test → Bool
is_test (letter l) = is_letter l
is_test dot = true
is_test digit = true
is_test space = true
is_test (class negated items) = are_items items && (negated || not (begins_negated items))
