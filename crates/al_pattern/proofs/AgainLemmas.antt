-- What is spelled so is read again: tests and quantifiers.
use Rattle.std.proofs.Common.{◌≡◌, ◌≤◌, ◌<◌, ◌+◌, ℕ, zero, suc, Bool, true, false, not, cond, ◌&&◌, ◌||◌, ◌==◌, ◌⊎◌, inl, inr, nat_lt, nat_le, List, [], ◌∷◌, ◌++◌, length, drop, Some, None, Ok, refl, ap, sym, ◌∙◌, subst, append_assoc, length-append, arith}
use Rattle.std.proofs.lemmas.List.{append-nil}
use Rattle.std.proofs.lemmas.Bool.Decides.{nat_tests}
use Rattle.al_pattern.specs.declared.letter.Letter.{Letter}
use Rattle.al_pattern.specs.declared.letter.Letter.TheVariants.{Plain, Escaped}
use Rattle.al_pattern.specs.declared.letter.Item.{Item}
use Rattle.al_pattern.specs.declared.letter.Item.TheVariants.{One, Range, Digit, Space}
use Rattle.al_pattern.specs.declared.token.Quantifier.{Quantifier}
use Rattle.al_pattern.specs.declared.token.Quantifier.TheVariants.{Once, Optional, Star, Plus}
use Rattle.al_pattern.specs.Bytes.{among, is_printable, is_char, is_plain, is_escape, is_left_out, begins_with}
use Rattle.al_pattern.specs.Faults.{◌>>=◌}
use Rattle.al_pattern.specs.Letters.{value_of, escape_at}
use Rattle.al_pattern.specs.Tests.{Test, letter, dot, digit, space, class, letter_spelling, item_spelling, items_spelling, negation, test_spelling, is_class_letter, is_hyphen, is_item, are_items_after, are_items, begins_negated, is_test}
use Rattle.al_pattern.specs.Classes.{is_unsupported_in_class, only_letter, last_at, range_of, range_at, item_behind, item_at, items_from, items_at, class_at}
use Rattle.al_pattern.specs.Trees.{quantifier_spelling, quantifier_nodes}
use Rattle.al_pattern.specs.Tokens.{escape_test, test_at, quantifier_of, quantifier_read, quantifier_at}
use Rattle.al_pattern.proofs.CutLemmas.{and_true, or_true, or_left, or_right}
use Rattle.al_pattern.proofs.TestLemmas.{differs, among_all, eq_from, not_true}

-- ---- quantifiers

abbrev pub no_quantifier : List ℕ → Type 0
no_quantifier [] = Unit {0}
no_quantifier (b ∷ rest) = quantifier_of b ≡ None

room_for : (nodes : ℕ) → nodes + 1 ≤ 256 → nat_lt nodes 256 ≡ true
room_for nodes le = grind (arith, nat_tests)

quantifier_once : (nodes : ℕ) (rest : List ℕ) → no_quantifier rest → quantifier_at nodes rest ≡ Ok (Once, nodes, rest)
unfolding quantifier_at
quantifier_once nodes [] none = refl
quantifier_once nodes (b ∷ rest) none = ap (quantifier_read nodes b rest) none

quantifier_some : (q : Quantifier) (b nodes : ℕ) (rest : List ℕ) → quantifier_of b ≡ Some q → nodes + 1 ≤ 256 → quantifier_at nodes (b ∷ rest) ≡ Ok (q, nodes + 1, rest)
unfolding quantifier_at
quantifier_some q b nodes rest is le = ap (quantifier_read nodes b rest) is ∙ rw (room_for nodes le) refl

pub quantifier_again : (q : Quantifier) (nodes : ℕ) (rest : List ℕ) → nodes + quantifier_nodes q ≤ 256 → no_quantifier rest
    → quantifier_at nodes (quantifier_spelling q ++ rest) ≡ Ok (q, nodes + quantifier_nodes q, rest)
quantifier_again Once nodes rest le none =
    let same : nodes ≡ nodes + 0 = omega arith in
    quantifier_once nodes rest none ∙ ap (λ (n : ℕ). Ok (Once, n, rest)) same
quantifier_again Optional nodes rest le none = quantifier_some Optional 63 nodes rest refl le
quantifier_again Star nodes rest le none = quantifier_some Star 42 nodes rest refl le
quantifier_again Plus nodes rest le none = quantifier_some Plus 43 nodes rest refl le

-- ---- escapes

pub escape_again : (b : ℕ) (rest : List ℕ) → is_escape b ≡ true → escape_at (b ∷ rest) ≡ Ok (One (Escaped b), rest)
unfolding escape_at
escape_again b rest e = rw e refl

pub escape_digit : (rest : List ℕ) → escape_at (100 ∷ rest) ≡ Ok (Digit, rest)
unfolding escape_at is_escape
escape_digit rest = refl

pub escape_space : (rest : List ℕ) → escape_at (115 ∷ rest) ≡ Ok (Space, rest)
unfolding escape_at is_escape
escape_space rest = refl

pub escape_kept : (b : ℕ) → is_escape b ≡ true → is_left_out b ≡ false
unfolding is_escape is_left_out
escape_kept b e = not_true (is_left_out b) (among_all (λ n. not (is_left_out n))
    (110 ∷ 114 ∷ 116 ∷ 92 ∷ 124 ∷ 46 ∷ 63 ∷ 42 ∷ 43 ∷ 40 ∷ 41 ∷ 123 ∷ 125 ∷ 45 ∷ 91 ∷ 93 ∷ 94 ∷ []) b e refl)

-- ---- what the first byte of an item isn't

pub letter_head : (k : ℕ) (l : Letter) (rest : List ℕ) → is_plain k ≡ false → (92 == k) ≡ false → is_class_letter l ≡ true → begins_with k (letter_spelling l ++ rest) ≡ false
letter_head k (Plain b) rest p q l = differs is_plain b k l p
letter_head k (Escaped b) rest p q l = q

item_head : (k : ℕ) (item : Item) (rest : List ℕ) → is_plain k ≡ false → (92 == k) ≡ false → is_item item ≡ true → begins_with k (item_spelling item ++ rest) ≡ false
item_head k (One l) rest p q i = letter_head k l rest p q i
item_head k (Range first last) rest p q i =
    let ends = (and_true (is_class_letter first && is_class_letter last) (nat_le (value_of first) (value_of last)) i).0 in
    ap (begins_with k) (append_assoc (letter_spelling first) (45 ∷ letter_spelling last) rest)
    ∙ letter_head k first (45 ∷ (letter_spelling last ++ rest)) p q (and_true (is_class_letter first) (is_class_letter last) ends).0
item_head k Digit rest p q i = q
item_head k Space rest p q i = q

plain_hyphen : is_plain 45 ≡ false
unfolding is_plain
plain_hyphen = refl

plain_open : is_plain 91 ≡ false
unfolding is_plain
plain_open = refl

plain_close : is_plain 93 ≡ false
unfolding is_plain
plain_close = refl

plain_slash : is_plain 92 ≡ false
unfolding is_plain
plain_slash = refl

plain_printable : (b : ℕ) → is_plain b ≡ true → is_printable b ≡ true
unfolding is_plain
plain_printable b e = (and_true (is_printable b) (not (among (91 ∷ 93 ∷ 92 ∷ 45 ∷ []) b)) e).0

plain_supported : (b : ℕ) (rest : List ℕ) → is_plain b ≡ true → is_unsupported_in_class (b ∷ rest) ≡ false
unfolding is_unsupported_in_class
plain_supported b rest e = rw (plain_printable b e, differs is_plain b 92 e plain_slash, differs is_plain b 45 e plain_hyphen) refl

slash_supported : (b : ℕ) (rest : List ℕ) → is_left_out b ≡ false → is_unsupported_in_class (92 ∷ b ∷ rest) ≡ false
unfolding is_unsupported_in_class
slash_supported b rest e = rw e refl

hyphen_supported : (rest : List ℕ) → begins_with 91 rest ≡ false → is_unsupported_in_class (45 ∷ rest) ≡ false
unfolding is_unsupported_in_class
hyphen_supported rest e = rw e refl

-- ---- ranges

last_again : (l : Letter) (rest : List ℕ) → is_class_letter l ≡ true → last_at (letter_spelling l ++ rest) ≡ Ok (l, rest)
unfolding last_at
last_again (Plain b) rest e = rw (plain_supported b rest e, e) refl
last_again (Escaped b) rest e =
    rw (slash_supported b rest (escape_kept b e), plain_slash) (ap (λ r. r >>= only_letter (b ∷ rest)) (escape_again b rest e))

-- a letter is followed by no hyphen that makes a range
abbrev pub EndsLetter : List ℕ → Type 0
EndsLetter [] = Unit {0}
EndsLetter (b ∷ rest) = (b == 45 && not (begins_with 93 rest)) ≡ false

range_single : (from : List ℕ) (l : Letter) (rest : List ℕ) → EndsLetter rest → range_at from l rest ≡ Ok (One l, rest)
unfolding range_at
range_single from l [] e = refl
range_single from l (b ∷ rest) e = rw e refl

not_below : (a b : ℕ) → nat_le a b ≡ true → nat_lt b a ≡ false
not_below a b e = grind (arith, nat_tests)

range_again : (from : List ℕ) (first last : Letter) (rest : List ℕ) → is_class_letter last ≡ true → nat_le (value_of first) (value_of last) ≡ true
    → range_at from first (45 ∷ (letter_spelling last ++ rest)) ≡ Ok (Range first last, rest)
unfolding range_at
range_again from first last rest l order =
    rw (letter_head 93 last rest plain_close refl l, letter_head 91 last rest plain_open refl l)
    (ap (λ r. r >>= range_of from first) (last_again last rest l) ∙ rw (not_below (value_of first) (value_of last) order) refl)

-- ---- items

plain_item : (is_first : Bool) (b : ℕ) (rest : List ℕ) → is_plain b ≡ true → item_at is_first (b ∷ rest) ≡ range_at (b ∷ rest) (Plain b) rest
unfolding item_at
plain_item is_first b rest e = rw (plain_supported b rest e, e) refl

escaped_item : (is_first : Bool) (b : ℕ) (rest : List ℕ) → is_left_out b ≡ false → item_at is_first (92 ∷ b ∷ rest) ≡ (escape_at (b ∷ rest) >>= item_behind (92 ∷ b ∷ rest))
unfolding item_at
escaped_item is_first b rest e = rw (slash_supported b rest e, plain_slash) refl

kept_digit : is_left_out 100 ≡ false
unfolding is_left_out
kept_digit = refl

kept_space : is_left_out 115 ≡ false
unfolding is_left_out
kept_space = refl

letter_item : (is_first : Bool) (l : Letter) (rest : List ℕ) → is_class_letter l ≡ true → item_at is_first (letter_spelling l ++ rest) ≡ range_at (letter_spelling l ++ rest) l rest
letter_item is_first (Plain b) rest e = plain_item is_first b rest e
letter_item is_first (Escaped b) rest e =
    escaped_item is_first b rest (escape_kept b e) ∙ ap (λ r. r >>= item_behind (92 ∷ b ∷ rest)) (escape_again b rest e)

item_again : (is_first : Bool) (item : Item) (rest : List ℕ) → is_item item ≡ true → EndsLetter rest → item_at is_first (item_spelling item ++ rest) ≡ Ok (item, rest)
item_again is_first (One l) rest e ends = letter_item is_first l rest e ∙ range_single (letter_spelling l ++ rest) l rest ends
item_again is_first (Range first last) rest e ends =
    let both = and_true (is_class_letter first && is_class_letter last) (nat_le (value_of first) (value_of last)) e in
    let letters = and_true (is_class_letter first) (is_class_letter last) both.0 in
    ap (item_at is_first) (append_assoc (letter_spelling first) (45 ∷ letter_spelling last) rest)
    ∙ letter_item is_first first (45 ∷ (letter_spelling last ++ rest)) letters.0
    ∙ range_again (letter_spelling first ++ (45 ∷ (letter_spelling last ++ rest))) first last rest letters.1 both.1
item_again is_first Digit rest e ends = escaped_item is_first 100 rest kept_digit ∙ ap (λ r. r >>= item_behind (92 ∷ 100 ∷ rest)) (escape_digit rest)
item_again is_first Space rest e ends = escaped_item is_first 115 rest kept_space ∙ ap (λ r. r >>= item_behind (92 ∷ 115 ∷ rest)) (escape_space rest)

hyphen_again : (is_first : Bool) (rest : List ℕ) → begins_with 91 rest ≡ false → (is_first || begins_with 93 rest) ≡ true → item_at is_first (45 ∷ rest) ≡ Ok (One (Plain 45), rest)
unfolding item_at
hyphen_again is_first rest e f = rw (hyphen_supported rest e, plain_hyphen, f) refl

-- ---- the items of a class

-- what stands behind an item: more items and the bracket
abbrev body : List Item → List ℕ → List ℕ
body items rest = items_spelling items ++ 93 ∷ rest

hyphen_is : (item : Item) (rest : List ℕ) → is_hyphen item ≡ true → (item ≡ One (Plain 45)) × (item_spelling item ++ rest ≡ 45 ∷ rest)
hyphen_is (One (Plain b)) rest e = (ap (λ n. One (Plain n)) (eq_from b 45 e), ap (λ n. n ∷ rest) (eq_from b 45 e))
hyphen_is (One (Escaped b)) rest e = absurd (cc)
hyphen_is (Range first last) rest e = absurd (cc)
hyphen_is Digit rest e = absurd (cc)
hyphen_is Space rest e = absurd (cc)

-- a further item that is a bare hyphen is the last
further : (item : Item) (items : List Item) → are_items_after false (item ∷ items) ≡ true → (is_item item ≡ true) ⊎ ((is_hyphen item ≡ true) × (items ≡ []))
further item [] e = elim (or_true (is_item item) (is_hyphen item) e) [ inl h ↦ inl h | inr h ↦ inr (h, refl) ]
further item (next ∷ items) e =
    elim (or_true (is_item item) (is_hyphen item && false) (and_true (is_item item || (is_hyphen item && false)) (are_items_after false (next ∷ items)) e).0) [
      | inl h ↦ inl h
      | inr h ↦ absurd (let k = (and_true (is_hyphen item) false h).1 in cc)
    ]

ends_unless_hyphen : (text : List ℕ) → begins_with 45 text ≡ false → EndsLetter text
ends_unless_hyphen [] e = tt
ends_unless_hyphen (b ∷ rest) e = rw e refl

body_ends_letter : (items : List Item) (rest : List ℕ) → are_items_after false items ≡ true → EndsLetter (body items rest)
body_ends_letter [] rest e = refl
body_ends_letter (item ∷ items) rest e = elim (further item items e) [
  | inl h ↦ ends_unless_hyphen (body (item ∷ items) rest)
      (ap (begins_with 45) (append_assoc (item_spelling item) (items_spelling items) (93 ∷ rest)) ∙ item_head 45 item (body items rest) plain_hyphen refl h)
  | inr h ↦
      let whole : body (item ∷ items) rest ≡ 45 ∷ 93 ∷ rest =
      append_assoc (item_spelling item) (items_spelling items) (93 ∷ rest) ∙ (hyphen_is item (body items rest) h.0).1 ∙ ap (λ i. 45 ∷ body i rest) h.1 in
      subst EndsLetter (sym whole) refl
]

body_no_open : (items : List Item) (rest : List ℕ) → are_items_after false items ≡ true → begins_with 91 (body items rest) ≡ false
body_no_open [] rest e = refl
body_no_open (item ∷ items) rest e =
    ap (begins_with 91) (append_assoc (item_spelling item) (items_spelling items) (93 ∷ rest)) ∙ elim (further item items e) [
      | inl h ↦ item_head 91 item (body items rest) plain_open refl h
      | inr h ↦ ap (begins_with 91) (hyphen_is item (body items rest) h.0).1
    ]

-- what the first of some items is, and that the others are items
first_of_items : (is_first : Bool) (item : Item) (items : List Item) → are_items_after is_first (item ∷ items) ≡ true
    → ((is_item item ≡ true) ⊎ ((is_hyphen item ≡ true) × ((is_first ≡ true) ⊎ (items ≡ [])))) × (are_items_after false items ≡ true)
first_of_items is_first item [] e = (elim (or_true (is_item item) (is_hyphen item) e) [ inl h ↦ inl h | inr h ↦ inr (h, inr refl) ], refl)
first_of_items is_first item (next ∷ items) e =
    let both = and_true (is_item item || (is_hyphen item && is_first)) (are_items_after false (next ∷ items)) e in (
      elim (or_true (is_item item) (is_hyphen item && is_first) both.0) [
        | inl h ↦ inl h
        | inr h ↦ let k = and_true (is_hyphen item) is_first h in inr (k.0, inl k.1)
      ],
      both.1,
    )

item_read : (is_first : Bool) (item : Item) (items : List Item) (rest : List ℕ) → are_items_after is_first (item ∷ items) ≡ true
    → item_at is_first (item_spelling item ++ body items rest) ≡ Ok (item, body items rest)
item_read is_first item items rest e =
    let f = first_of_items is_first item items e in
    elim f.0 [
      | inl h ↦ item_again is_first item (body items rest) h (body_ends_letter items rest f.1)
      | inr h ↦
          let is = hyphen_is item (body items rest) h.0 in
          let allowed : (is_first || begins_with 93 (body items rest)) ≡ true = elim h.1 [
            | inl k ↦ or_left is_first (begins_with 93 (body items rest)) k
            | inr k ↦ or_right is_first (begins_with 93 (body items rest)) (ap (λ i. begins_with 93 (body i rest)) k)
          ] in
          ap (item_at is_first) is.1 ∙ hyphen_again is_first (body items rest) (body_no_open items rest f.1) allowed
          ∙ ap (λ (i : Item). Ok (i, body items rest)) (sym is.0)
    ]

-- before an item the class doesn't end
goes_on : (is_first : Bool) (item : Item) (items : List Item) (rest : List ℕ) → are_items_after is_first (item ∷ items) ≡ true
    → (not is_first && begins_with 93 (item_spelling item ++ body items rest)) ≡ false
goes_on true item items rest e = refl
goes_on false item items rest e = elim (further item items e) [
  | inl h ↦ item_head 93 item (body items rest) plain_close refl h
  | inr h ↦ ap (begins_with 93) (hyphen_is item (body items rest) h.0).1
]

pub items_again : (steps : ℕ) (is_first : Bool) (before items : List Item) (rest : List ℕ) → are_items_after is_first items ≡ true → length items < steps
    → items_from steps is_first before (body items rest) ≡ Ok (before ++ items, rest)
unfolding items_from
items_again zero is_first before items rest e enough = absurd (omega arith)
items_again (suc steps) true before [] rest e enough = absurd (cc)
items_again (suc steps) false before [] rest e enough = ap (λ (i : List Item). Ok (i, rest)) (sym (append-nil before))
items_again (suc steps) is_first before (item ∷ items) rest e enough =
    let regroup = append_assoc (item_spelling item) (items_spelling items) (93 ∷ rest) in
    let text = item_spelling item ++ body items rest in
    ap (λ t. cond (not is_first && begins_with 93 t) (Ok (before, drop 1 t)) (item_at is_first t >>= λ x. items_from steps false (before ++ x.0 ∷ []) x.1)) regroup
    ∙ ap (λ b. cond b (Ok (before, drop 1 text)) (item_at is_first text >>= λ x. items_from steps false (before ++ x.0 ∷ []) x.1)) (goes_on is_first item items rest e)
    ∙ ap (λ r. r >>= λ x. items_from steps false (before ++ x.0 ∷ []) x.1) (item_read is_first item items rest e)
    ∙ items_again steps false (before ++ item ∷ []) items rest (first_of_items is_first item items e).1 (omega arith)
    ∙ ap (λ (i : List Item). Ok (i, rest)) (append_assoc before (item ∷ []) items)

letter_takes : (l : Letter) → 1 ≤ length (letter_spelling l)
letter_takes (Plain b) = omega arith
letter_takes (Escaped b) = omega arith

pub item_takes : (item : Item) → 1 ≤ length (item_spelling item)
item_takes (One l) = letter_takes l
item_takes (Range first last) = omega (arith, length-append (letter_spelling first) (45 ∷ letter_spelling last), letter_takes first)
item_takes Digit = omega arith
item_takes Space = omega arith

items_take : (items : List Item) (rest : List ℕ) → length items < suc (length (body items rest))
items_take [] rest = omega arith
items_take (item ∷ items) rest =
    omega (
      arith,
      items_take items rest,
      item_takes item,
      ap length (append_assoc (item_spelling item) (items_spelling items) (93 ∷ rest)),
      length-append (item_spelling item) (body items rest),
    )

-- a class that isn't negated doesn't begin with a caret
no_caret : (items : List Item) (rest : List ℕ) → are_items items ≡ true → begins_negated items ≡ false → begins_with 94 (body items rest) ≡ false
no_caret [] rest e f = absurd (cc)
no_caret (One (Plain b) ∷ items) rest e f = f
no_caret (One (Escaped b) ∷ items) rest e f = refl
no_caret (Range (Plain b) last ∷ items) rest e f = f
no_caret (Range (Escaped b) last ∷ items) rest e f = refl
no_caret (Digit ∷ items) rest e f = refl
no_caret (Space ∷ items) rest e f = refl

pub class_again : (negated : Bool) (items : List Item) (rest : List ℕ) → are_items items ≡ true → (negated || not (begins_negated items)) ≡ true
    → class_at (negation negated ++ body items rest) ≡ Ok (class negated items, rest)
unfolding class_at
class_again true items rest e f =
    ap (λ r. r >>= λ x. Ok (class true x.0, x.1)) (items_again (suc (length (body items rest))) true [] items rest e (items_take items rest))
class_again false items rest e f =
    let plain = no_caret items rest e (not_true (begins_negated items) f) in
    ap (λ b. items_at (cond b (drop 1 (body items rest)) (body items rest)) >>= λ x. Ok (class b x.0, x.1)) plain
    ∙ ap (λ r. r >>= λ x. Ok (class false x.0, x.1)) (items_again (suc (length (body items rest))) true [] items rest e (items_take items rest))

-- ---- tests

char_is_not : (b k : ℕ) → is_char b ≡ true → is_char k ≡ false → (b == k) ≡ false
char_is_not b k e f = differs is_char b k e f

pub test_again : (t : Test) (rest : List ℕ) → is_test t ≡ true → test_at (test_spelling t ++ rest) ≡ Ok (t, rest)
unfolding test_at test_spelling is_test is_char
test_again (letter (Plain b)) rest e =
    rw (char_is_not b 46 e refl, char_is_not b 92 e refl, char_is_not b 91 e refl) refl
test_again (letter (Escaped b)) rest e = ap (λ r. r >>= λ x. Ok (escape_test x.0, x.1)) (escape_again b rest e)
test_again dot rest e = refl
test_again digit rest e = ap (λ r. r >>= λ x. Ok (escape_test x.0, x.1)) (escape_digit rest)
test_again space rest e = ap (λ r. r >>= λ x. Ok (escape_test x.0, x.1)) (escape_space rest)
test_again (class negated items) rest e =
    let both = and_true (are_items items) (negated || not (begins_negated items)) e in
    ap class_at (append_assoc (negation negated) (items_spelling items ++ 93 ∷ []) rest ∙ ap (λ t. negation negated ++ t) (append_assoc (items_spelling items) (93 ∷ []) rest))
    ∙ class_again negated items rest both.0 both.1
