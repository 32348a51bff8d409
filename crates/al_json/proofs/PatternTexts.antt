-- Patterns are of ASCII, and resource matches of UTF-8.
use Rattle.std.proofs.Common.{◌≡◌, ℕ, ◌<◌, ◌≤◌, ◌==◌, Bool, true, false, ◌&&◌, ◌||◌, ◌⊎◌, inl, inr, not, List, [], ◌∷◌, ◌++◌, refl, sym, subst, arith, eqb-true, leb-true, ltb-true}
use Rattle.std.specs.Prelude.{nat_le, nat_lt, IsUtf8}
use Rattle.std.specs.List.{list_all}
use Rattle.std.specs.Str.{IsAscii}
use Rattle.std.proofs.lemmas.Str.{IsAscii-append, IsUtf8-from_ascii}
use Rattle.std.proofs.lemmas.Str.Ascii.{IsAscii-nil, IsAscii-cons}
use Rattle.al_ids.specs.Matches.{IsMatch, IsFormed}
use Rattle.al_ids.proofs.OidFronts.{oid_utf8}
use Rattle.al_pattern.specs.Bytes.{among, is_char, is_escape, is_plain, is_printable}
use Rattle.al_pattern.specs.Reading.{tree_of}
use Rattle.al_pattern.specs.Tests.{Test, letter, dot, digit, space, class, are_items, are_items_after, begins_negated, is_class_letter, is_hyphen, is_item, is_letter, is_test, item_spelling, items_spelling, letter_spelling, negation, test_spelling}
use Rattle.al_pattern.specs.Trees.{Atom, Branch, Choice, IsSpelled, atom_spelling, branch_spelling, character, choice_spelling, either, followed, group, is_atom, is_branch, is_choice, nothing, quantifier_spelling, single}
use Rattle.al_pattern.specs.Letters.{value_of}
use Rattle.al_pattern.specs.declared.letter.Item.{Item}
use Rattle.al_pattern.specs.declared.letter.Item.TheVariants.{One, Range, Digit, Space}
use Rattle.al_pattern.specs.declared.letter.Letter.{Letter}
use Rattle.al_pattern.specs.declared.letter.Letter.TheVariants.{Plain, Escaped}
use Rattle.al_pattern.specs.declared.token.Quantifier.{Quantifier}
use Rattle.al_pattern.specs.declared.token.Quantifier.TheVariants.{Once, Optional, Star, Plus}

and_first : (a b : Bool) → (a && b) ≡ true → a ≡ true
and_first true b h = refl
and_first false b h = h

and_second : (a b : Bool) → (a && b) ≡ true → b ≡ true
and_second true b h = h
and_second false b h = absurd (cc)

or_either : (a b : Bool) → (a || b) ≡ true → (a ≡ true) ⊎ (b ≡ true)
or_either true b h = inl refl
or_either false b h = inr h

-- ---- bytes

printable_low : (b : ℕ) → is_printable b ≡ true → b < 128
printable_low b h = let top : b ≤ 126 = leb-true b 126 (and_second (nat_le 32 b) (nat_le b 126) h) in omega arith

char_low : (b : ℕ) → is_char b ≡ true → b < 128
unfolding is_char
char_low b h = printable_low b (and_first (is_printable b) (not (among (46 ∷ 92 ∷ 63 ∷ 42 ∷ 43 ∷ 40 ∷ 41 ∷ 124 ∷ 91 ∷ 93 ∷ 123 ∷ 125 ∷ []) b)) h)

plain_low : (b : ℕ) → is_plain b ≡ true → b < 128
unfolding is_plain
plain_low b h = printable_low b (and_first (is_printable b) (not (among (91 ∷ 93 ∷ 92 ∷ 45 ∷ []) b)) h)

among_low : (bytes : List ℕ) (b : ℕ) → list_all (λ x. nat_lt x 128) bytes ≡ true → among bytes b ≡ true → b < 128
among_low [] b low h = absurd (cc)
among_low (x ∷ bytes) b low h =
    by (or_either (x == b) (among bytes b) h) (among_low bytes b (and_second (nat_lt x 128) (list_all (λ x. nat_lt x 128) bytes) low))
  where
    by : ((x == b) ≡ true) ⊎ (among bytes b ≡ true) → (among bytes b ≡ true → b < 128) → b < 128
    by (inl same) more =
        let e : x ≡ b = eqb-true x b same in
        let below : x < 128 = ltb-true x 128 (and_first (nat_lt x 128) (list_all (λ x. nat_lt x 128) bytes) low) in
        omega arith
    by (inr among) more = more among

escape_low : (b : ℕ) → is_escape b ≡ true → b < 128
unfolding is_escape
escape_low b h = among_low (110 ∷ 114 ∷ 116 ∷ 92 ∷ 124 ∷ 46 ∷ 63 ∷ 42 ∷ 43 ∷ 40 ∷ 41 ∷ 123 ∷ 125 ∷ 45 ∷ 91 ∷ 93 ∷ 94 ∷ []) b refl h

one_ascii : (b : ℕ) → b < 128 → IsAscii (b ∷ [])
one_ascii b low = IsAscii-cons b [] low IsAscii-nil

two_ascii : (a b : ℕ) → a < 128 → b < 128 → IsAscii (a ∷ b ∷ [])
two_ascii a b low lower = IsAscii-cons a (b ∷ []) low (one_ascii b lower)

-- ---- letters, items and tests

letter_ascii : (l : Letter) → is_letter l ≡ true → IsAscii (letter_spelling l)
letter_ascii (Plain b) h = one_ascii b (char_low b h)
letter_ascii (Escaped b) h = two_ascii 92 b (omega arith) (escape_low b h)

class_letter_ascii : (l : Letter) → is_class_letter l ≡ true → IsAscii (letter_spelling l)
class_letter_ascii (Plain b) h = one_ascii b (plain_low b h)
class_letter_ascii (Escaped b) h = two_ascii 92 b (omega arith) (escape_low b h)

hyphen_ascii : (item : Item) → is_hyphen item ≡ true → IsAscii (item_spelling item)
hyphen_ascii (One (Plain b)) h = let e : b ≡ 45 = eqb-true b 45 h in one_ascii b (omega arith)
hyphen_ascii (One (Escaped b)) h = absurd (cc)
hyphen_ascii (Range first last) h = absurd (cc)
hyphen_ascii Digit h = absurd (cc)
hyphen_ascii Space h = absurd (cc)

plain_item_ascii : (item : Item) → is_item item ≡ true → IsAscii (item_spelling item)
plain_item_ascii (One l) h = class_letter_ascii l h
plain_item_ascii (Range first last) h =
    let ends = and_first (is_class_letter first && is_class_letter last) (nat_le (value_of first) (value_of last)) h in
    IsAscii-append (letter_spelling first) (45 ∷ letter_spelling last) (class_letter_ascii first (and_first (is_class_letter first) (is_class_letter last) ends))
    (IsAscii-cons 45 (letter_spelling last) (omega arith) (class_letter_ascii last (and_second (is_class_letter first) (is_class_letter last) ends)))
plain_item_ascii Digit h = two_ascii 92 100 (omega arith) (omega arith)
plain_item_ascii Space h = two_ascii 92 115 (omega arith) (omega arith)

item_ascii : (item : Item) → (is_item item ≡ true) ⊎ (is_hyphen item ≡ true) → IsAscii (item_spelling item)
item_ascii item (inl h) = plain_item_ascii item h
item_ascii item (inr h) = hyphen_ascii item h

item_kind : (item : Item) (first : Bool) → (is_item item || (is_hyphen item && first)) ≡ true → (is_item item ≡ true) ⊎ (is_hyphen item ≡ true)
item_kind item first h = by (or_either (is_item item) (is_hyphen item && first) h)
  where
    by : (is_item item ≡ true) ⊎ ((is_hyphen item && first) ≡ true) → (is_item item ≡ true) ⊎ (is_hyphen item ≡ true)
    by (inl k) = inl k
    by (inr k) = inr (and_first (is_hyphen item) first k)

items_ascii : (first : Bool) (items : List Item) → are_items_after first items ≡ true → IsAscii (items_spelling items)
items_ascii first [] h = IsAscii-nil
items_ascii first (item ∷ []) h = IsAscii-append (item_spelling item) [] (item_ascii item (or_either (is_item item) (is_hyphen item) h)) IsAscii-nil
items_ascii first (item ∷ next ∷ items) h =
    IsAscii-append (item_spelling item) (items_spelling (next ∷ items))
    (item_ascii item (item_kind item first (and_first (is_item item || (is_hyphen item && first)) (are_items_after false (next ∷ items)) h)))
    (items_ascii false (next ∷ items) (and_second (is_item item || (is_hyphen item && first)) (are_items_after false (next ∷ items)) h))

negation_ascii : (negated : Bool) → IsAscii (negation negated)
negation_ascii true = one_ascii 94 (omega arith)
negation_ascii false = IsAscii-nil

test_ascii : (t : Test) → is_test t ≡ true → IsAscii (test_spelling t)
unfolding is_test test_spelling
test_ascii (letter l) h = letter_ascii l h
test_ascii dot h = one_ascii 46 (omega arith)
test_ascii digit h = two_ascii 92 100 (omega arith) (omega arith)
test_ascii space h = two_ascii 92 115 (omega arith) (omega arith)
test_ascii (class negated items) h =
    IsAscii-cons 91 (negation negated ++ (items_spelling items ++ 93 ∷ [])) (omega arith)
    (IsAscii-append (negation negated) (items_spelling items ++ 93 ∷ []) (negation_ascii negated)
    (IsAscii-append (items_spelling items) (93 ∷ []) (items_ascii true items (and_first (are_items items) (negated || not (begins_negated items)) h)) (one_ascii 93 (omega arith))))

quantifier_ascii : (q : Quantifier) → IsAscii (quantifier_spelling q)
quantifier_ascii Once = IsAscii-nil
quantifier_ascii Optional = one_ascii 63 (omega arith)
quantifier_ascii Star = one_ascii 42 (omega arith)
quantifier_ascii Plus = one_ascii 43 (omega arith)

-- ---- whole patterns

mutual
  choice_ascii : (c : Choice) → is_choice c ≡ true → IsAscii (choice_spelling c)
  choice_ascii (single b) h = branch_ascii b h
  choice_ascii (either c b) h =
      IsAscii-append (choice_spelling c) (124 ∷ branch_spelling b) (choice_ascii c (and_first (is_choice c) (is_branch b) h))
      (IsAscii-cons 124 (branch_spelling b) (omega arith) (branch_ascii b (and_second (is_choice c) (is_branch b) h)))

  branch_ascii : (b : Branch) → is_branch b ≡ true → IsAscii (branch_spelling b)
  branch_ascii nothing h = IsAscii-nil
  branch_ascii (followed b a q) h =
      IsAscii-append (branch_spelling b) (atom_spelling a ++ quantifier_spelling q) (branch_ascii b (and_first (is_branch b) (is_atom a) h))
      (IsAscii-append (atom_spelling a) (quantifier_spelling q) (atom_ascii a (and_second (is_branch b) (is_atom a) h)) (quantifier_ascii q))

  atom_ascii : (a : Atom) → is_atom a ≡ true → IsAscii (atom_spelling a)
  atom_ascii (character t) h = test_ascii t h
  atom_ascii (group c) h =
      IsAscii-cons 40 (choice_spelling c ++ 41 ∷ []) (omega arith) (IsAscii-append (choice_spelling c) (41 ∷ []) (choice_ascii c h) (one_ascii 41 (omega arith)))

pub pattern_utf8 : (text : List ℕ) → IsSpelled (tree_of text) text → IsUtf8 text
pattern_utf8 text spelled =
    IsUtf8-from_ascii text (subst IsAscii (sym spelled.spelled) (choice_ascii (tree_of text) spelled.pattern.written))

pub match_utf8 : (text : List ℕ) → IsMatch text → IsUtf8 text
match_utf8 text is = by is.formed
  where
    by : IsFormed text → IsUtf8 text
    by (inl path) = path.utf8
    by (inr (inl oid)) = oid_utf8 text oid
    by (inr (inr other)) = pattern_utf8 text other.pattern
