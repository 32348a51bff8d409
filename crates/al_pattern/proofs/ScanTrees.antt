-- The spelling of a class and of a whole tree is scanned to its end, where the limits allow the tree.
use Rattle.std.proofs.Common.{◌≡◌, ◌≤◌, ◌+◌, ℕ, suc, Bool, true, false, not, cond, ◌&&◌, ◌||◌, ◌==◌, ◌⊎◌, inl, inr, nat_lt, List, [], ◌∷◌, ◌++◌, Some, None, refl, ap, sym, ◌∙◌, subst, append_assoc, arith}
use Rattle.std.proofs.lemmas.List.{append-nil}
use Rattle.al_pattern.specs.declared.letter.Letter.{Letter}
use Rattle.al_pattern.specs.declared.letter.Letter.TheVariants.{Plain, Escaped}
use Rattle.al_pattern.specs.declared.letter.Item.{Item}
use Rattle.al_pattern.specs.declared.letter.Item.TheVariants.{One, Range, Digit, Space}
use Rattle.al_pattern.specs.declared.token.Quantifier.{Quantifier}
use Rattle.al_pattern.specs.declared.token.Quantifier.TheVariants.{Once, Optional, Star, Plus}
use Rattle.al_pattern.specs.Bytes.{is_char, is_plain, is_escape, begins_with}
use Rattle.al_pattern.specs.Letters.{value_of}
use Rattle.al_pattern.specs.Tests.{Test, letter, dot, digit, space, class, letter_spelling, item_spelling, items_spelling, negation, test_spelling, is_class_letter, is_hyphen, is_item, are_items_after, are_items, begins_negated, is_test}
use Rattle.al_pattern.specs.Trees.{Choice, single, either, Branch, nothing, followed, Atom, character, group, quantifier_spelling, quantifier_nodes, choice_spelling, branch_spelling, atom_spelling, choice_nodes, branch_nodes, atom_nodes, choice_depth, branch_depth, atom_depth, is_choice, is_branch, is_atom}
use Rattle.al_pattern.specs.Places.{is_item_form, are_item_forms, is_test_form, is_form, is_branch_form, is_atom_form}
use Rattle.al_pattern.proofs.CutLemmas.{and_true, or_right}
use Rattle.al_pattern.proofs.TestLemmas.{differs, eq_from, not_true}
use Rattle.al_pattern.proofs.AgainLemmas.{EndsLetter, letter_head}
use Rattle.al_pattern.proofs.Scan.{Mode, fresh, behind_atom, opened, first_item, next_item, item_slash, behind_letter, range_hyphen, range_slash, Limits, State, at, item_begin, range_end, class_step, inside, run, begun, run-append, run-none}
use Rattle.al_pattern.proofs.ScanLemmas.{Good, good_and, good_or, good_same, good_form, good_order, Ready, below, Runs, step_runs, char_runs, dot_runs, slash_runs, open_runs, bar_runs, group_runs, close_runs, escape_runs, Before, in_class, item_mode}

-- ---- items

plain_begin : (is_first : Bool) (b : ℕ) → is_plain b ≡ true → item_begin is_first b ≡ Some (behind_letter b)
unfolding item_begin
plain_begin is_first b e = rw e refl

slash_begin : (is_first : Bool) → item_begin is_first 92 ≡ Some item_slash
unfolding item_begin is_plain
slash_begin is_first = refl

pub item_slash_runs : (L : Limits) (is_first : Bool) (m : Mode) (d n : ℕ) (rest : List ℕ) → Before is_first m (92 ∷ rest) → Runs L (at m d n) (92 ∷ rest) (at item_slash d n) rest
item_slash_runs L is_first m d n rest before =
    let c = in_class is_first m 92 rest before in
    step_runs L m d n 92 rest (at item_slash d n) (c.steps L d n ∙ ap (inside d n) (c.begins L.rising (or_right is_first true refl) refl ∙ slash_begin is_first))

item_escape_runs : (L : Limits) (d n b : ℕ) (rest : List ℕ) → is_escape b ≡ true → Runs L (at item_slash d n) (b ∷ rest) (at (behind_letter (value_of (Escaped b))) d n) rest
unfolding class_step
item_escape_runs L d n b rest e = step_runs L item_slash d n b rest (at (behind_letter (value_of (Escaped b))) d n) (rw e refl)

item_digit_runs : (L : Limits) (d n : ℕ) (rest : List ℕ) → Runs L (at item_slash d n) (100 ∷ rest) (at next_item d n) rest
unfolding class_step is_escape
item_digit_runs L d n rest = refl

item_space_runs : (L : Limits) (d n : ℕ) (rest : List ℕ) → Runs L (at item_slash d n) (115 ∷ rest) (at next_item d n) rest
unfolding class_step is_escape
item_space_runs L d n rest = refl

pub letter_runs : (L : Limits) (is_first : Bool) (m : Mode) (d n : ℕ) (l : Letter) (rest : List ℕ) → is_class_letter l ≡ true → Before is_first m (letter_spelling l ++ rest)
    → Runs L (at m d n) (letter_spelling l ++ rest) (at (behind_letter (value_of l)) d n) rest
unfolding is_plain
letter_runs L is_first m d n (Plain b) rest e before =
    let c = in_class is_first m b rest before in
    step_runs L m d n b rest (at (behind_letter b) d n)
    (c.steps L d n
    ∙ ap (inside d n) (c.begins L.rising (or_right is_first (not (b == 93)) (ap not (differs is_plain b 93 e refl))) (differs is_plain b 45 e refl) ∙ plain_begin is_first b e))
letter_runs L is_first m d n (Escaped b) rest e before =
    item_slash_runs L is_first m d n (b ∷ rest) before ∙ item_escape_runs L d n b rest e

pub range_hyphen_runs : (L : Limits) (v d n : ℕ) (rest : List ℕ) → Runs L (at (behind_letter v) d n) (45 ∷ rest) (at (range_hyphen v) d n) rest
unfolding class_step
range_hyphen_runs L v d n rest = refl

pub range_slash_runs : (L : Limits) (v d n : ℕ) (rest : List ℕ) → Runs L (at (range_hyphen v) d n) (92 ∷ rest) (at (range_slash v) d n) rest
unfolding class_step is_plain
range_slash_runs L v d n rest = refl

plain_last : (L : Limits) (v d n b : ℕ) → is_plain b ≡ true → inside d n (class_step L.rising (range_hyphen v) b) ≡ inside d n (range_end L.rising v b)
unfolding class_step is_plain
plain_last L v d n b e = rw (differs is_plain b 93 e refl, e) refl

escaped_last : (L : Limits) (v d n b : ℕ) → is_escape b ≡ true → inside d n (class_step L.rising (range_slash v) b) ≡ inside d n (range_end L.rising v (value_of (Escaped b)))
unfolding class_step
escaped_last L v d n b e = rw e refl

-- what the last end of a range gives
pub range_last : (L : Limits) (v d n : ℕ) (last : Letter) → is_class_letter last ≡ true
    → run L (Some (at (range_hyphen v) d n)) (letter_spelling last) ≡ inside d n (range_end L.rising v (value_of last))
range_last L v d n (Plain b) e = plain_last L v d n b e
range_last L v d n (Escaped b) e = range_slash_runs L v d n (b ∷ []) ∙ escaped_last L v d n b e

range_runs : (L : Limits) (v d n : ℕ) (last : Letter) (rest : List ℕ) → is_class_letter last ≡ true → (L.rising && nat_lt (value_of last) v) ≡ false
    → Runs L (at (behind_letter v) d n) (45 ∷ (letter_spelling last ++ rest)) (at next_item d n) rest
range_runs L v d n last rest e order =
    range_hyphen_runs L v d n (letter_spelling last ++ rest) ∙ run-append L (Some (at (range_hyphen v) d n)) (letter_spelling last) rest
    ∙ ap (λ o. run L o rest) (range_last L v d n last e ∙ ap (λ b. inside d n (cond b None (Some next_item))) order)

pub item_runs : (L : Limits) (is_first : Bool) (m : Mode) (d n : ℕ) (item : Item) (rest : List ℕ) → Good L.rising (is_item item) (is_item_form item) → Before is_first m (item_spelling item ++ rest)
    → Runs L (at m d n) (item_spelling item ++ rest) (at (item_mode item) d n) rest
item_runs L is_first m d n (One l) rest e before = letter_runs L is_first m d n l rest (good_form L.rising (One l) e) before
item_runs L is_first m d n (Range first last) rest e before =
    let ends = and_true (is_class_letter first) (is_class_letter last) (good_form L.rising (Range first last) e) in
    let regroup : (letter_spelling first ++ 45 ∷ letter_spelling last) ++ rest ≡ letter_spelling first ++ 45 ∷ (letter_spelling last ++ rest) =
    append_assoc (letter_spelling first) (45 ∷ letter_spelling last) rest in
    ap (λ t. run L (Some (at m d n)) t) regroup
    ∙ letter_runs L is_first m d n first (45 ∷ (letter_spelling last ++ rest)) ends.0 (subst (Before is_first m) regroup before)
    ∙ range_runs L (value_of first) d n last rest ends.1 (good_order L.rising first last e)
item_runs L is_first m d n Digit rest e before = item_slash_runs L is_first m d n (100 ∷ rest) before ∙ item_digit_runs L d n rest
item_runs L is_first m d n Space rest e before = item_slash_runs L is_first m d n (115 ∷ rest) before ∙ item_space_runs L d n rest

pub hyphen_runs : (L : Limits) (m : Mode) (d n : ℕ) (rest : List ℕ) → Before true m (45 ∷ rest) → Runs L (at m d n) (45 ∷ rest) (at next_item d n) rest
unfolding class_step item_begin is_plain
hyphen_runs L opened d n rest before = refl
hyphen_runs L first_item d n rest before = refl
hyphen_runs L m d n rest before = absurd before

hyphen_ends : (L : Limits) (m : Mode) (d n : ℕ) (rest : List ℕ) → Before false m (45 ∷ 93 ∷ rest) → Runs L (at m d n) (45 ∷ 93 ∷ rest) (at behind_atom d n) rest
unfolding class_step item_begin is_plain
hyphen_ends L next_item d n rest before = refl
hyphen_ends L (behind_letter v) d n rest before = refl
hyphen_ends L m d n rest before = absurd before

class_ends : (L : Limits) (m : Mode) (d n : ℕ) (rest : List ℕ) → Before false m (93 ∷ rest) → Runs L (at m d n) (93 ∷ rest) (at behind_atom d n) rest
unfolding class_step
class_ends L next_item d n rest before = refl
class_ends L (behind_letter v) d n rest before = refl
class_ends L m d n rest before = absurd before

-- ---- the items of a class

abbrev pub body : List Item → List ℕ → List ℕ
body items rest = items_spelling items ++ 93 ∷ rest

pub hyphen_is : (item : Item) (rest : List ℕ) → is_hyphen item ≡ true → item_spelling item ++ rest ≡ 45 ∷ rest
hyphen_is (One (Plain b)) rest e = ap (λ n. n ∷ rest) (eq_from b 45 e)
hyphen_is (One (Escaped b)) rest e = absurd (cc)
hyphen_is (Range first last) rest e = absurd (cc)
hyphen_is Digit rest e = absurd (cc)
hyphen_is Space rest e = absurd (cc)

-- the first of some items, and the others
first_of : (r is_first : Bool) (item : Item) (items : List Item) → Good r (are_items_after is_first (item ∷ items)) (are_item_forms is_first (item ∷ items))
    → (Good r (is_item item) (is_item_form item) ⊎ ((is_hyphen item ≡ true) × ((is_first ≡ true) ⊎ (items ≡ [])))) × Good r (are_items_after false items) (are_item_forms false items)
first_of r is_first item [] e = (
  elim (good_or r (is_item item) (is_item_form item) (is_hyphen item) e) [ inl h ↦ inl h | inr h ↦ inr (h, inr refl) ],
  always r,
) where
  always : (r : Bool) → Good r true true
  always true = refl
  always false = refl
first_of r is_first item (next ∷ items) e =
    let both = good_and r (is_item item || (is_hyphen item && is_first)) (is_item_form item || (is_hyphen item && is_first)) (are_items_after false (next ∷ items)) (are_item_forms false (next ∷ items)) e in (
      elim (good_or r (is_item item) (is_item_form item) (is_hyphen item && is_first) both.0) [
        | inl h ↦ inl h
        | inr h ↦ let k = and_true (is_hyphen item) is_first h in inr (k.0, inl k.1)
      ],
      both.1,
    )

form_head : (k : ℕ) (item : Item) (rest : List ℕ) → is_plain k ≡ false → (92 == k) ≡ false → is_item_form item ≡ true → begins_with k (item_spelling item ++ rest) ≡ false
form_head k (One l) rest p q i = letter_head k l rest p q i
form_head k (Range first last) rest p q i =
    ap (begins_with k) (append_assoc (letter_spelling first) (45 ∷ letter_spelling last) rest)
    ∙ letter_head k first (45 ∷ (letter_spelling last ++ rest)) p q (and_true (is_class_letter first) (is_class_letter last) i).0
form_head k Digit rest p q i = q
form_head k Space rest p q i = q

pub plain_hyphen : is_plain 45 ≡ false
unfolding is_plain
plain_hyphen = refl

ends_unless_hyphen : (text : List ℕ) → begins_with 45 text ≡ false → EndsLetter text
ends_unless_hyphen [] e = tt
ends_unless_hyphen (b ∷ rest) e = rw e refl

body_ends_letter : (r : Bool) (items : List Item) (rest : List ℕ) → Good r (are_items_after false items) (are_item_forms false items) → EndsLetter (body items rest)
body_ends_letter r [] rest e = refl
body_ends_letter r (item ∷ items) rest e =
    let regroup = append_assoc (item_spelling item) (items_spelling items) (93 ∷ rest) in
    elim (first_of r false item items e).0 [
      | inl h ↦ ends_unless_hyphen (body (item ∷ items) rest)
          (ap (begins_with 45) regroup ∙ form_head 45 item (body items rest) plain_hyphen refl (good_form r item h))
      | inr h ↦ elim h.1 [
        | inl k ↦ absurd (cc)
        | inr k ↦
            let whole : body (item ∷ items) rest ≡ 45 ∷ 93 ∷ rest = regroup ∙ hyphen_is item (body items rest) h.0 ∙ ap (λ i. 45 ∷ body i rest) k in
            subst EndsLetter (sym whole) refl
      ]
    ]

before_next : (r : Bool) (item : Item) (items : List Item) (rest : List ℕ) → Good r (are_items_after false items) (are_item_forms false items) → Before false (item_mode item) (body items rest)
before_next r (One l) items rest e = body_ends_letter r items rest e
before_next r (Range first last) items rest e = tt
before_next r Digit items rest e = tt
before_next r Space items rest e = tt

none_first : (r : Bool) → Good r (not true) (not true) → ⊥
none_first true e = cc
none_first false e = cc

pub items_runs : (L : Limits) (is_first : Bool) (m : Mode) (d n : ℕ) (items : List Item) (rest : List ℕ)
    → Good L.rising (are_items_after is_first items) (are_item_forms is_first items) → Before is_first m (body items rest)
    → Runs L (at m d n) (body items rest) (at behind_atom d n) rest
items_runs L true m d n [] rest e before = absurd (none_first L.rising e)
items_runs L false m d n [] rest e before = class_ends L m d n rest before
items_runs L is_first m d n (item ∷ items) rest e before =
    let regroup = append_assoc (item_spelling item) (items_spelling items) (93 ∷ rest) in
    let f = first_of L.rising is_first item items e in
    let before' : Before is_first m (item_spelling item ++ body items rest) = subst (Before is_first m) regroup before in
    ap (λ t. run L (Some (at m d n)) t) regroup ∙ elim f.0 [
      | inl h ↦ item_runs L is_first m d n item (body items rest) h before'
          ∙ items_runs L false (item_mode item) d n items rest f.1 (before_next L.rising item items rest f.1)
      | inr h ↦
          let is = hyphen_is item (body items rest) h.0 in
          ap (λ t. run L (Some (at m d n)) t) is ∙ elim h.1 [
            | inl k ↦ hyphen_runs L m d n (body items rest) (subst (λ f. Before f m (45 ∷ body items rest)) k (subst (Before is_first m) is before'))
                ∙ items_runs L false next_item d n items rest f.1 tt
            | inr k ↦ by_first L is_first m d n items rest k f.1 (subst (Before is_first m) is before')
          ]
    ] where
      by_first : (L : Limits) (is_first : Bool) (m : Mode) (d n : ℕ) (items : List Item) (rest : List ℕ) → items ≡ []
          → Good L.rising (are_items_after false items) (are_item_forms false items) → Before is_first m (45 ∷ body items rest)
          → Runs L (at m d n) (45 ∷ body items rest) (at behind_atom d n) rest
      by_first L true m d n items rest k e before =
          hyphen_runs L m d n (body items rest) before ∙ ap (λ i. run L (Some (at next_item d n)) (body i rest)) k ∙ class_ends L next_item d n rest tt
      by_first L false m d n items rest k e before =
          ap (λ i. run L (Some (at m d n)) (45 ∷ body i rest)) k
          ∙ hyphen_ends L m d n rest (subst (λ i. Before false m (45 ∷ body i rest)) k before)

-- a class that isn't negated doesn't begin with a caret
pub no_caret : (r : Bool) (items : List Item) (rest : List ℕ) → Good r (are_items items) (are_item_forms true items) → begins_negated items ≡ false → begins_with 94 (body items rest) ≡ false
no_caret r [] rest e f = absurd (none_first r e)
no_caret r (One (Plain b) ∷ items) rest e f = f
no_caret r (One (Escaped b) ∷ items) rest e f = refl
no_caret r (Range (Plain b) last ∷ items) rest e f = f
no_caret r (Range (Escaped b) last ∷ items) rest e f = refl
no_caret r (Digit ∷ items) rest e f = refl
no_caret r (Space ∷ items) rest e f = refl

-- ---- tests

pub caret_runs : (L : Limits) (d n : ℕ) (rest : List ℕ) → Runs L (at opened d n) (94 ∷ rest) (at first_item d n) rest
unfolding class_step
caret_runs L d n rest = refl

class_runs : (L : Limits) (negated : Bool) (items : List Item) (d n : ℕ) (rest : List ℕ) → Good L.rising (are_items items) (are_item_forms true items) → (negated || not (begins_negated items)) ≡ true
    → Runs L (at opened d n) (negation negated ++ body items rest) (at behind_atom d n) rest
class_runs L true items d n rest e f = caret_runs L d n (body items rest) ∙ items_runs L true first_item d n items rest e tt
class_runs L false items d n rest e f = items_runs L true opened d n items rest e (no_caret L.rising items rest e (not_true (begins_negated items) f))

good_class : (r : Bool) (negated : Bool) (items : List Item) → Good r (are_items items && (negated || not (begins_negated items))) (is_test_form (class negated items))
    → Good r (are_items items) (are_item_forms true items) × ((negated || not (begins_negated items)) ≡ true)
good_class r negated items e =
    let rest = negated || not (begins_negated items) in
    let both = good_and r (are_items items) (are_item_forms true items) rest rest e in
    (both.0, good_same r rest both.1)

pub test_runs : (L : Limits) (m : Mode) (d n : ℕ) (t : Test) (rest : List ℕ) → Good L.rising (is_test t) (is_test_form t) → Ready m → n + 1 ≤ L.most
    → Runs L (at m d n) (test_spelling t ++ rest) (at behind_atom d (n + 1)) rest
unfolding test_spelling is_test
test_runs L m d n (letter (Plain b)) rest e ready room = char_runs L m d n b rest ready (good_same L.rising (is_char b) e) room
test_runs L m d n (letter (Escaped b)) rest e ready room =
    slash_runs L m d n (b ∷ rest) ready room ∙ escape_runs L d (n + 1) b rest (or_first (is_escape b) (b == 100 || b == 115) (good_same L.rising (is_escape b) e)) where
      or_first : (a b : Bool) → a ≡ true → (a || b) ≡ true
      or_first a b e = rw e refl
test_runs L m d n dot rest e ready room = dot_runs L m d n rest ready room
test_runs L m d n digit rest e ready room = slash_runs L m d n (100 ∷ rest) ready room ∙ escape_runs L d (n + 1) 100 rest (or_right (is_escape 100) true refl)
test_runs L m d n space rest e ready room = slash_runs L m d n (115 ∷ rest) ready room ∙ escape_runs L d (n + 1) 115 rest (or_right (is_escape 115) true refl)
test_runs L m d n (class negated items) rest e ready room =
    let both = good_class L.rising negated items e in
    let regroup : (negation negated ++ (items_spelling items ++ 93 ∷ [])) ++ rest ≡ negation negated ++ body items rest =
    append_assoc (negation negated) (items_spelling items ++ 93 ∷ []) rest ∙ ap (λ t. negation negated ++ t) (append_assoc (items_spelling items) (93 ∷ []) rest) in
    open_runs L m d n ((negation negated ++ (items_spelling items ++ 93 ∷ [])) ++ rest) ready room
    ∙ ap (λ t. run L (Some (at opened d (n + 1))) t) regroup
    ∙ class_runs L negated items d (n + 1) rest both.0 both.1

-- ---- whole trees

abbrev pub quantifier_mode : Quantifier → Mode
quantifier_mode Once = behind_atom
quantifier_mode Optional = fresh
quantifier_mode Star = fresh
quantifier_mode Plus = fresh

abbrev pub branch_mode : Mode → Branch → Mode
branch_mode m nothing = m
branch_mode m (followed b a q) = quantifier_mode q

abbrev pub choice_mode : Mode → Choice → Mode
choice_mode m (single b) = branch_mode m b
choice_mode m (either x b) = branch_mode fresh b

quantifier_ready : (q : Quantifier) → Ready (quantifier_mode q)
quantifier_ready Once = tt
quantifier_ready Optional = tt
quantifier_ready Star = tt
quantifier_ready Plus = tt

branch_ready : (m : Mode) (b : Branch) → Ready m → Ready (branch_mode m b)
branch_ready m nothing ready = ready
branch_ready m (followed b a q) ready = quantifier_ready q

pub choice_ready : (m : Mode) (x : Choice) → Ready m → Ready (choice_mode m x)
choice_ready m (single b) ready = branch_ready m b ready
choice_ready m (either x b) ready = branch_ready fresh b tt

pub quantifier_runs : (L : Limits) (d n : ℕ) (q : Quantifier) (rest : List ℕ) → n + quantifier_nodes q ≤ L.most
    → Runs L (at behind_atom d n) (quantifier_spelling q ++ rest) (at (quantifier_mode q) d (n + quantifier_nodes q)) rest
quantifier_runs L d n Once rest room = let same : n ≡ n + 0 = omega arith in ap (λ (k : ℕ). run L (Some (at behind_atom d k)) rest) same
quantifier_runs L d n Optional rest room = step_runs L behind_atom d n 63 rest (at fresh d (n + 1)) (rw (below n L.most room) refl)
quantifier_runs L d n Star rest room = step_runs L behind_atom d n 42 rest (at fresh d (n + 1)) (rw (below n L.most room) refl)
quantifier_runs L d n Plus rest room = step_runs L behind_atom d n 43 rest (at fresh d (n + 1)) (rw (below n L.most room) refl)

counts : (L : Limits) (s : State) (text : List ℕ) (m : Mode) (d k k' : ℕ) (rest : List ℕ) → k ≡ k' → Runs L s text (at m d k) rest → Runs L s text (at m d k') rest
counts L s text m d k k' rest same runs = runs ∙ ap (λ (j : ℕ). run L (Some (at m d j)) rest) same

mutual
  pub choice_runs : (L : Limits) (x : Choice) (m : Mode) (d n : ℕ) (rest : List ℕ) → Good L.rising (is_choice x) (is_form x) → Ready m → n + choice_nodes x ≤ L.most → choice_depth x + d ≤ L.deepest
      → Runs L (at m d n) (choice_spelling x ++ rest) (at (choice_mode m x) d (n + choice_nodes x)) rest
  choice_runs L (single b) m d n rest e ready few deep = branch_runs L b m d n rest e ready few deep
  choice_runs L (either x b) m d n rest e ready few deep =
      let both = good_and L.rising (is_choice x) (is_form x) (is_branch b) (is_branch_form b) e in
      let tail = branch_spelling b ++ rest in
      let n1 = n + choice_nodes x in
      ap (λ t. run L (Some (at m d n)) t) (append_assoc (choice_spelling x) (124 ∷ branch_spelling b) rest)
      ∙ choice_runs L x m d n (124 ∷ tail) both.0 ready (omega arith) (omega arith)
      ∙ bar_runs L (choice_mode m x) d n1 tail (choice_ready m x ready) (omega arith)
      ∙ counts L (at fresh d (n1 + 1)) tail (branch_mode fresh b) d (n1 + 1 + branch_nodes b) (n + (choice_nodes x + 1 + branch_nodes b)) rest (omega arith)
      (branch_runs L b fresh d (n1 + 1) rest both.1 tt (omega arith) (omega arith))

  branch_runs : (L : Limits) (b : Branch) (m : Mode) (d n : ℕ) (rest : List ℕ) → Good L.rising (is_branch b) (is_branch_form b) → Ready m → n + branch_nodes b ≤ L.most → branch_depth b + d ≤ L.deepest
      → Runs L (at m d n) (branch_spelling b ++ rest) (at (branch_mode m b) d (n + branch_nodes b)) rest
  branch_runs L nothing m d n rest e ready few deep = counts L (at m d n) rest m d n (n + 0) rest (omega arith) refl
  branch_runs L (followed b a q) m d n rest e ready few deep =
      let both = good_and L.rising (is_branch b) (is_branch_form b) (is_atom a) (is_atom_form a) e in
      let back = quantifier_spelling q ++ rest in
      let n1 = n + branch_nodes b in
      ap (λ t. run L (Some (at m d n)) t) (append_assoc (branch_spelling b) (atom_spelling a ++ quantifier_spelling q) rest ∙ ap (λ t. branch_spelling b ++ t) (append_assoc (atom_spelling a) (quantifier_spelling q) rest))
      ∙ branch_runs L b m d n (atom_spelling a ++ back) both.0 ready (omega arith) (omega arith)
      ∙ atom_runs L a (branch_mode m b) d n1 back both.1 (branch_ready m b ready) (omega arith) (omega arith)
      ∙ counts L (at behind_atom d (n1 + atom_nodes a)) back (quantifier_mode q) d (n1 + atom_nodes a + quantifier_nodes q) (n + (branch_nodes b + (atom_nodes a + quantifier_nodes q))) rest (omega arith)
      (quantifier_runs L d (n1 + atom_nodes a) q rest (omega arith))

  atom_runs : (L : Limits) (a : Atom) (m : Mode) (d n : ℕ) (rest : List ℕ) → Good L.rising (is_atom a) (is_atom_form a) → Ready m → n + atom_nodes a ≤ L.most → atom_depth a + d ≤ L.deepest
      → Runs L (at m d n) (atom_spelling a ++ rest) (at behind_atom d (n + atom_nodes a)) rest
  atom_runs L (character t) m d n rest e ready few deep = test_runs L m d n t rest e ready few
  atom_runs L (group x) m d n rest e ready few deep =
      let inner = choice_spelling x ++ (41 ∷ rest) in
      let n1 = n + 1 + choice_nodes x in
      ap (λ t. run L (Some (at m d n)) (40 ∷ t)) (append_assoc (choice_spelling x) (41 ∷ []) rest)
      ∙ group_runs L m d n inner ready (omega arith) (omega arith)
      ∙ choice_runs L x fresh (suc d) (n + 1) (41 ∷ rest) e tt (omega arith) (omega arith)
      ∙ close_runs L (choice_mode fresh x) d n1 rest (choice_ready fresh x tt)
      ∙ counts L (at behind_atom d n1) rest behind_atom d n1 (n + (1 + choice_nodes x)) rest (omega arith) refl

pub tree_runs : (L : Limits) (x : Choice) → Good L.rising (is_choice x) (is_form x) → choice_nodes x ≤ L.most → choice_depth x ≤ L.deepest
    → run L begun (choice_spelling x) ≡ Some (at (choice_mode fresh x) 0 (choice_nodes x))
tree_runs L x e few deep =
    ap (λ t. run L begun t) (sym (append-nil (choice_spelling x)))
    ∙ counts L (at fresh 0 0) (choice_spelling x ++ []) (choice_mode fresh x) 0 (0 + choice_nodes x) (choice_nodes x) [] (omega arith)
    (choice_runs L x fresh 0 0 [] e tt (omega arith) (omega arith))

-- ---- what is barred

-- a text at which the scan within the limits stops begins no tree within them
pub barred : (L : Limits) (front rest : List ℕ) (x : Choice) → run L begun front ≡ None → front ++ rest ≡ choice_spelling x
    → Good L.rising (is_choice x) (is_form x) → choice_nodes x ≤ L.most → choice_depth x ≤ L.deepest → ⊥
barred L front rest x stops spelled e few deep =
    let goes = tree_runs L x e few deep in
    let none = ap (λ t. run L begun t) (sym spelled) ∙ run-append L begun front rest ∙ ap (λ o. run L o rest) stops ∙ run-none L rest in
    cc
