-- Where reading a class fails, the fault stands where the grammar says: item by item.
use Rattle.std.proofs.Common.{◌≡◌, ◌≤◌, ◌<◌, ◌+◌, ℕ, zero, suc, Bool, true, false, not, cond, ◌&&◌, ◌||◌, ◌==◌, ◌⊎◌, inl, inr, nat_lt, List, [], ◌∷◌, ◌++◌, length, drop, Some, Result, Ok, Err, IfOk, refl, ap, sym, ◌∙◌, subst, append_assoc, length-append, arith}
use Rattle.std.proofs.lemmas.List.{append-nil}
use Rattle.al_pattern.specs.declared.letter.Letter.{Letter}
use Rattle.al_pattern.specs.declared.letter.Letter.TheVariants.{Plain, Escaped}
use Rattle.al_pattern.specs.declared.letter.Item.{Item}
use Rattle.al_pattern.specs.declared.letter.Item.TheVariants.{One, Range, Digit, Space}
use Rattle.al_pattern.specs.declared.fault.Fault.{Fault}
use Rattle.al_pattern.specs.Bytes.{is_plain, is_escape, begins_with}
use Rattle.al_pattern.specs.Faults.{◌>>=◌}
use Rattle.al_pattern.specs.Letters.{value_of, escape_at}
use Rattle.al_pattern.specs.Classes.{is_unsupported_in_class, last_at, range_of, range_at, item_behind, item_at, items_from, items_at, class_at}
use Rattle.al_pattern.specs.Tests.{Test, class, letter_spelling, item_spelling, items_spelling, test_spelling, is_class_letter, is_hyphen, is_item, are_items_after, are_items, begins_negated, is_test}
use Rattle.al_pattern.specs.Trees.{Choice}
use Rattle.al_pattern.specs.Places.{is_item_form, are_item_forms, IsForm, IsRising, IsWithin, Begins}
use Rattle.al_pattern.proofs.CutLemmas.{and_true, true_and, or_true, or_left, or_right}
use Rattle.al_pattern.proofs.TestLemmas.{if_read, bind_read, differs, eq_from, drop_begins}
use Rattle.al_pattern.proofs.AgainLemmas.{item_takes}
use Rattle.al_pattern.proofs.FoundLemmas.{ItemRead, item_found}
use Rattle.al_pattern.proofs.GrammarLemmas.{IsProgress}
use Rattle.al_pattern.proofs.Scan.{Mode, opened, first_item, next_item, at, run}
use Rattle.al_pattern.proofs.ScanLemmas.{Ready, open_runs, Before, item_mode, Good, item_is_form}
use Rattle.al_pattern.proofs.ScanTrees.{item_runs, hyphen_runs, hyphen_is, caret_runs, plain_hyphen}
use Rattle.al_pattern.proofs.CloseLemmas.{begins_shorter, read_spelling, more_within, more_rising}
use Rattle.al_pattern.proofs.StopLemmas.{Fails, if_fails, bind_fails, Located, limits, Reached, reached_more, snoc_same}
use Rattle.al_pattern.proofs.ClassFaults.{no_caret, ClassFront, before_letter, before_slash, before_caret, part_begins, range_caret, not_and, item_fails}
use Rattle.al_pattern.proofs.ClassStops.{in_class_kept, EscapeIs, escape_is}
use Rattle.al_pattern.proofs.FaultLemmas.{form_of}

-- ---- behind an item

letter_no_hyphen : (l : Letter) → is_class_letter l ≡ true → is_hyphen (One l) ≡ false
unfolding is_plain
letter_no_hyphen (Plain b) e = differs is_plain b 45 e refl
letter_no_hyphen (Escaped b) e = refl

-- behind an item that was read no range is begun, or it is a hyphen, and no bracket stands behind it
abbrev Calms : Item → List ℕ → Type 0
Calms item rest = (Before false (item_mode item) rest × (is_hyphen item ≡ false)) ⊎ ((is_hyphen item ≡ true) × (begins_with 91 rest ≡ false))

any_read : {A : Type 0} (r : Result A Fault) → IfOk r (λ x. Unit {0})
any_read (Ok x) = tt
any_read (Err f) = tt

range_calm : (from : List ℕ) (first : Letter) (text : List ℕ) → is_class_letter first ≡ true → IfOk (range_at from first text) (λ x. Calms x.0 x.1)
unfolding range_at
range_calm from first [] ok = inl (tt, letter_no_hyphen first ok)
range_calm from first (b ∷ rest) ok =
    let P : Item × List ℕ → Type 0 = λ x. Calms x.0 x.1 in
    if_read P (b == 45 && not (begins_with 93 rest)) _ _
    (λ h. if_read P (begins_with 91 rest) _ _ (λ k. tt)
    (λ k. bind_read (λ x. Unit {0}) P (last_at rest) (range_of from first) (any_read (last_at rest))
    (λ x found. if_read P (nat_lt (value_of x.0) (value_of first)) _ _ (λ j. tt) (λ j. inl (tt, refl)))))
    (λ h. inl (h, letter_no_hyphen first ok))

escaped_calm : (from behind : List ℕ) (item : Item) (rest : List ℕ) → EscapeIs behind item rest → IfOk (item_behind from (item, rest)) (λ x. Calms x.0 x.1)
escaped_calm from behind (One (Plain b)) rest is = absurd is
escaped_calm from behind (One (Escaped b)) rest is = range_calm from (Escaped b) rest is.1
escaped_calm from behind (Range l k) rest is = absurd is
escaped_calm from behind Digit rest is = inl (tt, refl)
escaped_calm from behind Space rest is = inl (tt, refl)

item_calm : (is_first : Bool) (text : List ℕ) → IfOk (item_at is_first text) (λ x. Calms x.0 x.1)
unfolding item_at
item_calm is_first [] = tt
item_calm is_first (b ∷ rest) =
    let P : Item × List ℕ → Type 0 = λ x. Calms x.0 x.1 in
    if_read P (is_unsupported_in_class (b ∷ rest)) _ _ (λ h. tt)
    (λ h. if_read P (is_plain b) _ _ (λ k. range_calm (b ∷ rest) (Plain b) rest k)
    (λ k. if_read P (b == 92) _ _
    (λ j. bind_read (λ x. EscapeIs rest x.0 x.1) P (escape_at rest) (item_behind (b ∷ rest)) (escape_is rest) (λ x is. escaped_calm (b ∷ rest) rest x.0 x.1 is))
    (λ j. if_read P (b == 45) _ _
    (λ i. if_read P (is_first || begins_with 93 rest) _ _ (λ g. inr (refl, not_and (b == 45) (begins_with 91 rest) i (in_class_kept b rest h).no_subtraction)) (λ g. tt))
    (λ i. tt))))

pub both_read : {A : Type 0} (P Q : A → Type 0) (r : Result A Fault) → IfOk r P → IfOk r Q → IfOk r (λ x. P x × Q x)
both_read P Q (Ok x) p q = (p, q)
both_read P Q (Err f) p q = tt

before_item : (is_first : Bool) (m : Mode) (item : Item) (x y : List ℕ) → is_item_form item ≡ true → Before is_first m (item_spelling item ++ x) → Before is_first m (item_spelling item ++ y)
before_item is_first m (One l) x y ok e = before_letter is_first m l x y ok e
before_item is_first m (Range l k) x y ok e =
    subst (Before is_first m) (sym (append_assoc (letter_spelling l) (45 ∷ letter_spelling k) y))
    (before_letter is_first m l ((45 ∷ letter_spelling k) ++ x) ((45 ∷ letter_spelling k) ++ y) (and_true (is_class_letter l) (is_class_letter k) ok).0
    (subst (Before is_first m) (append_assoc (letter_spelling l) (45 ∷ letter_spelling k) x) e))
before_item is_first m Digit x y ok e = before_slash is_first m (100 ∷ x) (100 ∷ y) e
before_item is_first m Space x y ok e = before_slash is_first m (115 ∷ x) (115 ∷ y) e

good_item : (r : Bool) (item : Item) → is_item item ≡ true → Good r (is_item item) (is_item_form item)
good_item true item e = e
good_item false item e = item_is_form item e

forms_more : (is_first : Bool) (item : Item) (more : List Item) → is_item_form item ≡ true → are_item_forms false more ≡ true → are_item_forms is_first (item ∷ more) ≡ true
forms_more is_first item [] e f = or_left (is_item_form item) (is_hyphen item) e
forms_more is_first item (next ∷ more) e f =
    true_and (is_item_form item || (is_hyphen item && is_first)) (are_item_forms false (next ∷ more)) (or_left (is_item_form item) (is_hyphen item && is_first) e) f

items_more : (is_first : Bool) (item : Item) (more : List Item) → is_item item ≡ true → are_items_after false more ≡ true → are_items_after is_first (item ∷ more) ≡ true
items_more is_first item [] e f = or_left (is_item item) (is_hyphen item) e
items_more is_first item (next ∷ more) e f =
    true_and (is_item item || (is_hyphen item && is_first)) (are_items_after false (next ∷ more)) (or_left (is_item item) (is_hyphen item && is_first) e) f

plain_no_hyphen : (b : ℕ) → is_plain b ≡ true → b ≡ 45 → ⊥
plain_no_hyphen b ok e =
    let never = plain_hyphen in
    let plain : is_plain 45 ≡ true = subst (λ (i : ℕ). is_plain i ≡ true) e ok in
    cc

range_letters : (l k : Letter) → is_item (Range l k) ≡ true → (is_class_letter l ≡ true) × (is_class_letter k ≡ true)
range_letters l k ok = and_true (is_class_letter l) (is_class_letter k) (item_is_form (Range l k) ok)

joins : (front x y z : List ℕ) → (front ++ (x ++ y)) ++ z ≡ front ++ (x ++ (y ++ z))
joins front x y z = append_assoc front (x ++ y) z ∙ ap (λ t. front ++ t) (append_assoc x y z)

-- behind an item that ends with a hyphen, the hyphen was escaped, and so might a bracket be
escaped_bracket : (front : List ℕ) (is_first : Bool) (m : Mode) (d n : ℕ) (item : Item) (rest : List ℕ) → ClassFront front is_first m d n (item_spelling item ++ rest) → is_item item ≡ true
    → (before : List ℕ) → front ++ item_spelling item ≡ before ++ 45 ∷ [] → Begins IsForm (before ++ 91 ∷ [])
unfolding is_escape
escaped_bracket front is_first m d n (One (Plain b)) rest c ok before e = absurd (plain_no_hyphen b ok (snoc_same b 45 front before e).1)
escaped_bracket front is_first m d n (One (Escaped b)) rest c ok before e =
    let there : front ++ 92 ∷ [] ≡ before = (snoc_same b 45 (front ++ 92 ∷ []) before (append_assoc front (92 ∷ []) (b ∷ []) ∙ e)).0 in
    subst (λ t. Begins IsForm (t ++ 91 ∷ [])) there (subst (Begins IsForm) (sym (append_assoc front (92 ∷ []) (91 ∷ [])))
    (form_of (front ++ 92 ∷ 91 ∷ []) (c.within (One (Escaped 91) ∷ []) refl (no_caret m (One (Escaped 91) ∷ []) refl))))
escaped_bracket front is_first m d n (Range l (Plain b)) rest c ok before e =
    let ends = range_letters l (Plain b) ok in
    absurd (plain_no_hyphen b ends.1 (snoc_same b 45 (front ++ (letter_spelling l ++ 45 ∷ [])) before (joins front (letter_spelling l) (45 ∷ []) (b ∷ []) ∙ e)).1)
escaped_bracket front is_first m d n (Range l (Escaped b)) rest c ok before e =
    let ends = range_letters l (Escaped b) ok in
    let more = Range l (Escaped 91) ∷ [] in
    let there : front ++ (letter_spelling l ++ 45 ∷ 92 ∷ []) ≡ before = (snoc_same b 45 (front ++ (letter_spelling l ++ 45 ∷ 92 ∷ [])) before (joins front (letter_spelling l) (45 ∷ 92 ∷ []) (b ∷ []) ∙ e)).0 in
    let calm = subst (Before is_first m) (append_assoc (letter_spelling l) (45 ∷ 92 ∷ b ∷ []) rest) c.before in
    let within = part_begins IsWithin front (letter_spelling l ++ 45 ∷ 92 ∷ 91 ∷ []) [] more refl
    (c.within more (or_left (is_class_letter l && true) false (true_and (is_class_letter l) true ends.0 refl)) (range_caret is_first m l (Escaped 91) ((45 ∷ 92 ∷ b ∷ []) ++ rest) ends.0 calm)) in
    subst (λ t. Begins IsForm (t ++ 91 ∷ [])) there
    (subst (Begins IsForm) (sym (joins front (letter_spelling l) (45 ∷ 92 ∷ []) (91 ∷ []))) (form_of (front ++ (letter_spelling l ++ 45 ∷ 92 ∷ 91 ∷ [])) within))
escaped_bracket front is_first m d n Digit rest c ok before e =
    absurd (omega (arith, (snoc_same 100 45 (front ++ 92 ∷ []) before (append_assoc front (92 ∷ []) (100 ∷ []) ∙ e)).1))
escaped_bracket front is_first m d n Space rest c ok before e =
    absurd (omega (arith, (snoc_same 115 45 (front ++ 92 ∷ []) before (append_assoc front (92 ∷ []) (115 ∷ []) ∙ e)).1))

next_front : (front : List ℕ) (is_first : Bool) (m : Mode) (d n : ℕ) (item : Item) (rest : List ℕ) → ClassFront front is_first m d n (item_spelling item ++ rest) → is_item item ≡ true
    → Before false (item_mode item) rest → ClassFront (front ++ item_spelling item) false (item_mode item) d n rest
next_front front is_first m d n item rest c ok calm = record {
  reached = reached_more front (item_spelling item) m (item_mode item) d d n n c.reached
      (λ rising most deepest few deep.
      ap (λ t. run (limits rising most deepest) (Some (at m d n)) t) (sym (append-nil (item_spelling item)))
      ∙ item_runs (limits rising most deepest) is_first m d n item [] (good_item rising item ok) (before_item is_first m item rest [] (item_is_form item ok) c.before));
  before = calm;
  within = λ more e caret.
      subst (Begins IsWithin) (sym (append_assoc front (item_spelling item) (items_spelling more)))
      (c.within (item ∷ more) (forms_more is_first item more (item_is_form item ok) e) (before_caret is_first m item rest more c.before));
  rising = λ more e caret.
      subst (Begins IsRising) (sym (append_assoc front (item_spelling item) (items_spelling more)))
      (c.rising (item ∷ more) (items_more is_first item more ok e) (before_caret is_first m item rest more c.before));
  bracket = λ before e open'. escaped_bracket front is_first m d n item rest c ok before e;
}

-- a hyphen that is the first item
first_forms : (more : List Item) → are_item_forms false more ≡ true → are_item_forms true (One (Plain 45) ∷ more) ≡ true
first_forms [] e = or_right (is_plain 45) true refl
first_forms (next ∷ more) e = true_and (is_plain 45 || true) (are_item_forms false (next ∷ more)) (or_right (is_plain 45) true refl) e

first_items : (more : List Item) → are_items_after false more ≡ true → are_items_after true (One (Plain 45) ∷ more) ≡ true
first_items [] e = or_right (is_plain 45) true refl
first_items (next ∷ more) e = true_and (is_plain 45 || true) (are_items_after false (next ∷ more)) (or_right (is_plain 45) true refl) e

before_hyphen : (m : Mode) (x y : List ℕ) → Before true m (45 ∷ x) → Before true m (45 ∷ y)
before_hyphen opened x y e = e
before_hyphen first_item x y e = tt
before_hyphen m x y e = absurd e

hyphen_front : (front : List ℕ) (m : Mode) (d n : ℕ) (rest : List ℕ) → ClassFront front true m d n (45 ∷ rest) → begins_with 91 rest ≡ false → ClassFront (front ++ 45 ∷ []) false next_item d n rest
hyphen_front front m d n rest c no_open = record {
  reached = reached_more front (45 ∷ []) m next_item d d n n c.reached
      (λ rising most deepest few deep. hyphen_runs (limits rising most deepest) m d n [] (before_hyphen m rest [] c.before));
  before = tt;
  within = λ more e caret.
      subst (Begins IsWithin) (sym (append_assoc front (45 ∷ []) (items_spelling more)))
      (c.within (One (Plain 45) ∷ more) (first_forms more e) (before_caret true m (One (Plain 45)) rest more c.before));
  rising = λ more e caret.
      subst (Begins IsRising) (sym (append_assoc front (45 ∷ []) (items_spelling more)))
      (c.rising (One (Plain 45) ∷ more) (first_items more e) (before_caret true m (One (Plain 45)) rest more c.before));
  bracket = λ before e open'. absurd (let both = sym no_open ∙ open' in cc);
}

-- ---- items

items_closed : (Q : Fault → Type 0) (steps : ℕ) (items : List Item) (text : List ℕ) → length text < steps → begins_with 93 text ≡ true → Fails (items_from steps false items text) Q
unfolding items_from
items_closed Q zero items text enough e = absurd (omega arith)
items_closed Q (suc steps) items text enough e = if_fails Q (begins_with 93 text) _ _ (λ h. tt) (λ h. absurd (cc))

no_hyphen : (item : Item) → is_item item ≡ true → is_hyphen item ≡ true → ⊥
no_hyphen (One (Plain b)) e f =
    let never = plain_hyphen in
    let plain : is_plain 45 ≡ true = subst (λ n. is_plain n ≡ true) (eq_from b 45 f) e in
    cc
no_hyphen (One (Escaped b)) e f = cc
no_hyphen (Range l k) e f = cc
no_hyphen Digit e f = cc
no_hyphen Space e f = cc

-- what is left is shorter
shorter : (item : Item) (text rest : List ℕ) (steps : ℕ) → text ≡ item_spelling item ++ rest → length text < suc steps → length rest < steps
shorter item text rest steps e enough = omega (arith, ap length e, length-append (item_spelling item) rest, item_takes item, enough)

pub items_fail : (steps : ℕ) (whole front : List ℕ) (is_first : Bool) (m : Mode) (d n : ℕ) (items : List Item) (text : List ℕ) → length text < steps → whole ≡ front ++ text
    → ClassFront front is_first m d n text → Fails (items_from steps is_first items text) (Located whole)
unfolding items_from
items_fail zero whole front is_first m d n items text enough split c = absurd (omega arith)
items_fail (suc steps) whole front is_first m d n items text enough split c =
    let Q = Located whole in
    if_fails Q (not is_first && begins_with 93 text) _ _ (λ h. tt)
    (λ h. bind_fails (λ x. ItemRead is_first text x.0 x.1 × Calms x.0 x.1) Q (item_at is_first text) (λ x. items_from steps false (items ++ x.0 ∷ []) x.1)
    (both_read (λ x. ItemRead is_first text x.0 x.1) (λ x. Calms x.0 x.1) (item_at is_first text) (item_found is_first text) (item_calm is_first text))
    (item_fails whole front is_first m d n text split c h)
    (λ x found.
    let e = found.0.spelled in
    let enough' = shorter x.0 text x.1 steps e enough in
    elim found.0.allowed [
      | inl ok ↦ elim found.1 [
        | inl calm ↦ items_fail steps whole (front ++ item_spelling x.0) false (item_mode x.0) d n (items ++ x.0 ∷ []) x.1 enough'
            (split ∙ ap (λ t. front ++ t) e ∙ sym (append_assoc front (item_spelling x.0) x.1))
            (next_front front is_first m d n x.0 x.1 (subst (ClassFront front is_first m d n) e c) ok calm.0)
        | inr hyphen ↦ absurd (no_hyphen x.0 ok hyphen.0)
      ]
      | inr hyphen ↦ elim (or_true is_first (begins_with 93 x.1) hyphen.1) [
        | inl first ↦
            let is : text ≡ 45 ∷ x.1 = e ∙ hyphen_is x.0 x.1 hyphen.0 in
            elim found.1 [
              | inl calm ↦ absurd (let both = sym hyphen.0 ∙ calm.1 in cc)
              | inr no_open ↦ items_fail steps whole (front ++ 45 ∷ []) false next_item d n (items ++ x.0 ∷ []) x.1 enough'
                  (split ∙ ap (λ t. front ++ t) is ∙ sym (append_assoc front (45 ∷ []) x.1))
                  (hyphen_front front m d n x.1 (subst (ClassFront front true m d n) is (subst (λ f. ClassFront front f m d n text) first c)) no_open.1)
            ]
        | inr ends ↦ items_closed Q steps (items ++ x.0 ∷ []) x.1 enough' ends
      ]
    ]))

-- ---- the class

pub then_fails : {A B : Type 0} (Q : Fault → Type 0) (r : Result A Fault) (f : A → B) → Fails r Q → Fails (r >>= λ x. Ok (f x)) Q
then_fails Q (Ok x) f q = tt
then_fails Q (Err e) f q = q

class_front : (top : Choice) (outer : List Choice) (n : ℕ) (m : Mode) (d : ℕ) (text : List ℕ) → IsProgress top outer n → n + 1 ≤ 256 → Reached (read_spelling top outer) m d n → Ready m
    → begins_with 94 text ≡ false → ClassFront (read_spelling top outer ++ 91 ∷ []) true opened d (n + 1) text
unfolding test_spelling is_test
class_front top outer n m d text p room reached ready plain =
    let front = read_spelling top outer in record {
      reached = reached_more front (91 ∷ []) m opened d d n (n + 1) reached (λ rising most deepest few deep. open_runs (limits rising most deepest) m d n [] ready (omega arith));
      before = plain;
      within = λ more e caret.
          begins_shorter IsWithin ((front ++ 91 ∷ []) ++ items_spelling more) (93 ∷ [])
          (subst (Begins IsWithin) (regroup front (91 ∷ []) (items_spelling more))
          (more_within top outer n (class false more) p (true_and (are_item_forms true more) (not (begins_negated more)) e (ap not caret)) room));
      rising = λ more e caret.
          begins_shorter IsRising ((front ++ 91 ∷ []) ++ items_spelling more) (93 ∷ [])
          (subst (Begins IsRising) (regroup front (91 ∷ []) (items_spelling more))
          (more_rising top outer n (class false more) p (true_and (are_items more) (not (begins_negated more)) e (ap not caret))));
      bracket = λ before e open'. absurd (let k = (snoc_same 91 45 front before e).1 in omega (arith, k));
    } where
      regroup : (front sign items : List ℕ) → front ++ (sign ++ (items ++ 93 ∷ [])) ≡ ((front ++ sign) ++ items) ++ 93 ∷ []
      regroup front sign items = sym (append_assoc front sign (items ++ 93 ∷ [])) ∙ sym (append_assoc (front ++ sign) items (93 ∷ []))

negated_front : (top : Choice) (outer : List Choice) (n : ℕ) (m : Mode) (d : ℕ) (text : List ℕ) → IsProgress top outer n → n + 1 ≤ 256 → Reached (read_spelling top outer) m d n → Ready m
    → ClassFront (read_spelling top outer ++ 91 ∷ 94 ∷ []) true first_item d (n + 1) text
unfolding test_spelling is_test
negated_front top outer n m d text p room reached ready =
    let front = read_spelling top outer in record {
      reached = reached_more front (91 ∷ 94 ∷ []) m first_item d d n (n + 1) reached
          (λ rising most deepest few deep. open_runs (limits rising most deepest) m d n (94 ∷ []) ready (omega arith) ∙ caret_runs (limits rising most deepest) d (n + 1) []);
      before = tt;
      within = λ more e caret.
          begins_shorter IsWithin ((front ++ 91 ∷ 94 ∷ []) ++ items_spelling more) (93 ∷ [])
          (subst (Begins IsWithin) (regroup front (91 ∷ 94 ∷ []) (items_spelling more))
          (more_within top outer n (class true more) p (true_and (are_item_forms true more) true e refl) room));
      rising = λ more e caret.
          begins_shorter IsRising ((front ++ 91 ∷ 94 ∷ []) ++ items_spelling more) (93 ∷ [])
          (subst (Begins IsRising) (regroup front (91 ∷ 94 ∷ []) (items_spelling more))
          (more_rising top outer n (class true more) p (true_and (are_items more) true e refl)));
      bracket = λ before e open'. absurd (let k = (snoc_same 94 45 (front ++ 91 ∷ []) before (append_assoc front (91 ∷ []) (94 ∷ []) ∙ e)).1 in omega (arith, k));
    } where
      regroup : (front sign items : List ℕ) → front ++ (sign ++ (items ++ 93 ∷ [])) ≡ ((front ++ sign) ++ items) ++ 93 ∷ []
      regroup front sign items = sym (append_assoc front sign (items ++ 93 ∷ [])) ∙ sym (append_assoc (front ++ sign) items (93 ∷ []))

pub class_fails : (whole : List ℕ) (top : Choice) (outer : List Choice) (n : ℕ) (m : Mode) (d : ℕ) (text : List ℕ) → whole ≡ read_spelling top outer ++ 91 ∷ text → IsProgress top outer n → n + 1 ≤ 256
    → Reached (read_spelling top outer) m d n → Ready m → Fails (class_at text) (Located whole)
unfolding class_at
class_fails whole top outer n m d text split p room reached ready = by_sign (begins_with 94 text) refl where
  by_sign : (negated : Bool) → begins_with 94 text ≡ negated → Fails {A = Test × List ℕ} (items_at (cond negated (drop 1 text) text) >>= λ x. Ok (class negated x.0, x.1)) (Located whole)
  by_sign true e =
      then_fails (Located whole) (items_at (drop 1 text)) (λ x. (class true x.0, x.1))
      (items_fail (suc (length (drop 1 text))) whole (read_spelling top outer ++ 91 ∷ 94 ∷ []) true first_item d (n + 1) [] (drop 1 text) (omega arith)
      (split ∙ ap (λ t. read_spelling top outer ++ 91 ∷ t) (drop_begins 94 text e) ∙ sym (append_assoc (read_spelling top outer) (91 ∷ 94 ∷ []) (drop 1 text)))
      (negated_front top outer n m d (drop 1 text) p room reached ready))
  by_sign false e =
      then_fails (Located whole) (items_at text) (λ x. (class false x.0, x.1))
      (items_fail (suc (length text)) whole (read_spelling top outer ++ 91 ∷ []) true opened d (n + 1) [] text (omega arith)
      (split ∙ sym (append_assoc (read_spelling top outer) (91 ∷ []) text))
      (class_front top outer n m d text p room reached ready e))
