-- The counts of the alarms of one severity, one alarm after the other, and what the summary makes of them.
use Rattle.std.proofs.Common.{◌≡◌, ℕ, ◌+◌, ◌<◌, ◌≤◌, ◌==◌, ◌||◌, Bool, true, false, cond, not, ◌&&◌, List, [], ◌∷◌, ◌++◌, length, take, get_or, refl, sym, ap, ◌∙◌, subst, arith, length-take, take_all}
use Rattle.std.specs.Bool.{nat_lt}
use Rattle.std.specs.List.{AllByRecursion, count_by, filter, list_any}
use Rattle.std.proofs.lemmas.List.{append-nil, length-map, map-append, take_more}
use Rattle.std.proofs.lemmas.List.Elements.{filter-append}
use Rattle.std.proofs.lemmas.List.Filters.{length-filter_both}
use Rattle.std.proofs.lemmas.List.Sums.{count_by-le-length, length-filter, sum_by-cons, sum_by_push}
use Rattle.al_base.specs.Limits.{most_alarms}
use Rattle.al_base.specs.Names.{rank_of}
use Rattle.al_base.specs.declared.severity.Severity.{Severity}
use Rattle.al_model.specs.State.{AlarmState, State, is_shelved, listed}
use Rattle.al_model.specs.Summary.{counts_of, has_shelved, is_closed}
use Rattle.al_model.specs.Validity.{IsValid}
use Rattle.al_model.proofs.Bounds.{length_filter}
use Rattle.al_model.proofs.Validity.{marked_alarms}
use Rattle.al_contents.proofs.Positions.{length_states}
use Rattle.al_contents.proofs.Sides.{listed_is, marks_shelve}
use Rattle.al_contents.specs.Views.{AlarmView, is_marked, is_unmarked, states}
use Rattle.al_lists.specs.Summaries.{AreAtMost, counted, is_selected, row_of, selected, tallied, tally_of}
use Rattle.al_lists.specs.declared.summary.Tally.{Tally}
use Rattle.al_lists.proofs.Counting.{some_counted}

-- ---- one more alarm

counted_yes : (p : AlarmState → Bool) (f : List AlarmState) (a : AlarmState) → p a ≡ true → count_by p (f ++ a ∷ []) ≡ count_by p f + 1
counted_yes p f a is = sum_by_push (λ x. cond (p x) 1 0) f a ∙ ap (λ b. count_by p f + cond b 1 0) is

counted_no : (p : AlarmState → Bool) (f : List AlarmState) (a : AlarmState) → p a ≡ false → count_by p (f ++ a ∷ []) ≡ count_by p f
counted_no p f a is = let e = sum_by_push (λ x. cond (p x) 1 0) f a ∙ ap (λ b. count_by p f + cond b 1 0) is in omega arith

counted_more : (f : List AlarmState) (a : AlarmState) → tally_of (f ++ a ∷ []) ≡ counted a.cleared (is_closed a.operators) (tally_of f)
counted_more f a = by a.cleared refl (is_closed a.operators) refl
  where
    test : (cleared closed : Bool) → a.cleared ≡ cleared → is_closed a.operators ≡ closed → (p : Bool → Bool → Bool) → p a.cleared (is_closed a.operators) ≡ p cleared closed
    test cleared closed c k p = ap (λ b. p b (is_closed a.operators)) c ∙ ap (p cleared) k

    by : (cleared : Bool) → a.cleared ≡ cleared → (closed : Bool) → is_closed a.operators ≡ closed → tally_of (f ++ a ∷ []) ≡ counted cleared closed (tally_of f)
    by false c false k = λ i. record {
      active = counted_yes (λ x. not x.cleared && not (is_closed x.operators)) f a (test false false c k (λ b d. not b && not d)) i;
      active_closed = counted_no (λ x. not x.cleared && is_closed x.operators) f a (test false false c k (λ b d. not b && d)) i;
      cleared = counted_no (λ x. x.cleared && not (is_closed x.operators)) f a (test false false c k (λ b d. b && not d)) i;
      cleared_closed = counted_no (λ x. x.cleared && is_closed x.operators) f a (test false false c k (λ b d. b && d)) i;
    }
    by false c true k = λ i. record {
      active = counted_no (λ x. not x.cleared && not (is_closed x.operators)) f a (test false true c k (λ b d. not b && not d)) i;
      active_closed = counted_yes (λ x. not x.cleared && is_closed x.operators) f a (test false true c k (λ b d. not b && d)) i;
      cleared = counted_no (λ x. x.cleared && not (is_closed x.operators)) f a (test false true c k (λ b d. b && not d)) i;
      cleared_closed = counted_no (λ x. x.cleared && is_closed x.operators) f a (test false true c k (λ b d. b && d)) i;
    }
    by true c false k = λ i. record {
      active = counted_no (λ x. not x.cleared && not (is_closed x.operators)) f a (test true false c k (λ b d. not b && not d)) i;
      active_closed = counted_no (λ x. not x.cleared && is_closed x.operators) f a (test true false c k (λ b d. not b && d)) i;
      cleared = counted_yes (λ x. x.cleared && not (is_closed x.operators)) f a (test true false c k (λ b d. b && not d)) i;
      cleared_closed = counted_no (λ x. x.cleared && is_closed x.operators) f a (test true false c k (λ b d. b && d)) i;
    }
    by true c true k = λ i. record {
      active = counted_no (λ x. not x.cleared && not (is_closed x.operators)) f a (test true true c k (λ b d. not b && not d)) i;
      active_closed = counted_no (λ x. not x.cleared && is_closed x.operators) f a (test true true c k (λ b d. not b && d)) i;
      cleared = counted_no (λ x. x.cleared && not (is_closed x.operators)) f a (test true true c k (λ b d. b && not d)) i;
      cleared_closed = counted_yes (λ x. x.cleared && is_closed x.operators) f a (test true true c k (λ b d. b && d)) i;
    }

-- the counts with one more alarm at the end
pub tally_push : (severity : Severity) (alarms : List AlarmState) (a : AlarmState) → tally_of (selected severity (alarms ++ a ∷ [])) ≡ tallied severity a (tally_of (selected severity alarms))
tally_push severity alarms a = ap tally_of (filter-append (is_selected severity) alarms (a ∷ [])) ∙ by (is_selected severity a)
  where
    by : (b : Bool) → tally_of (selected severity alarms ++ cond b (a ∷ []) []) ≡ cond b (counted a.cleared (is_closed a.operators) (tally_of (selected severity alarms))) (tally_of (selected severity alarms))
    by true = counted_more (selected severity alarms) a
    by false = ap tally_of (append-nil (selected severity alarms))

-- there are no more than alarms
pub tally_few : (severity : Severity) (alarms : List AlarmState) (most : ℕ) → length alarms ≤ most → AreAtMost most (tally_of (selected severity alarms))
tally_few severity alarms most le =
    let few = length_filter (is_selected severity) alarms in
    let f = selected severity alarms in
    record {
      active = omega (arith, count_by-le-length (λ x. not x.cleared && not (is_closed x.operators)) f);
      active_closed = omega (arith, count_by-le-length (λ x. not x.cleared && is_closed x.operators) f);
      cleared = omega (arith, count_by-le-length (λ x. x.cleared && not (is_closed x.operators)) f);
      cleared_closed = omega (arith, count_by-le-length (λ x. x.cleared && is_closed x.operators) f);
    }

-- ---- the row of a severity

-- what passes one test passes another one as well, or doesn't
count_split : (p q : AlarmState → Bool) (xs : List AlarmState) → count_by (λ x. p x && q x) xs + count_by (λ x. p x && not (q x)) xs ≡ count_by p xs
count_split p q [] = refl
count_split p q (x ∷ xs) =
    let all = sum_by-cons (λ y. cond (p y) 1 0) x xs in
    let with = sum_by-cons (λ y. cond (p y && q y) 1 0) x xs in
    let rest = sum_by-cons (λ y. cond (p y && not (q y)) 1 0) x xs in
    let here = one (p x) (q x) in
    let more = count_split p q xs in
    omega arith
  where
    one : (a b : Bool) → cond (a && b) 1 0 + cond (a && not b) 1 0 ≡ cond a 1 0
    one true true = refl
    one true false = refl
    one false b = refl

row_is : (f : List AlarmState) → row_of (tally_of f) ≡ counts_of f
row_is f =
    let active = count_split (λ a. not a.cleared) (λ a. is_closed a.operators) f in
    let cleared = count_split (λ a. a.cleared) (λ a. is_closed a.operators) f in
    let both = length-filter_both (λ (a : AlarmState). a.cleared) (λ a. not a.cleared) (λ a. refl) f in
    let of_active = length-filter (λ (a : AlarmState). not a.cleared) f in
    let of_cleared = length-filter (λ (a : AlarmState). a.cleared) f in
    let t = tally_of f in
    let all : t.active_closed + t.active + (t.cleared_closed + t.cleared) ≡ length f = omega arith in
    ap (λ n. n ∷ (t.active_closed + t.active) ∷ (t.cleared_closed + t.cleared) ∷ t.cleared ∷ t.cleared_closed ∷ t.active_closed ∷ t.active ∷ []) all
    ∙ ap (λ n. length f ∷ n ∷ (t.cleared_closed + t.cleared) ∷ t.cleared ∷ t.cleared_closed ∷ t.active_closed ∷ t.active ∷ []) active
    ∙ ap (λ n. length f ∷ count_by (λ a. not a.cleared) f ∷ n ∷ t.cleared ∷ t.cleared_closed ∷ t.active_closed ∷ t.active ∷ []) cleared

filter_filter : {X : Type 0} (p q : X → Bool) (xs : List X) → filter (λ x. p x && q x) xs ≡ filter q (filter p xs)
filter_filter p q [] = refl
filter_filter {X} p q (x ∷ xs) = by (p x) (filter_filter p q xs)
  where
    by : (b : Bool) → filter (λ y. p y && q y) xs ≡ filter q (filter p xs) → cond (b && q x) (x ∷ filter (λ y. p y && q y) xs) (filter (λ y. p y && q y) xs) ≡ filter q (cond b (x ∷ filter p xs) (filter p xs))
    by true more = ap (λ ys. cond (q x) (x ∷ ys) ys) more
    by false more = more

-- the summary's row of a severity
pub summary_row : (s : State) (severity : Severity) → IsValid s → row_of (tally_of (selected severity s.alarms)) ≡ counts_of (filter (λ a. rank_of a.severity == rank_of severity) (listed s))
summary_row s severity valid =
    row_is (selected severity s.alarms)
    ∙ ap counts_of (filter_filter is_unmarked (λ a. rank_of a.severity == rank_of severity) s.alarms ∙ ap (filter (λ a. rank_of a.severity == rank_of severity)) (listed_is s valid))

-- ---- the loop over all alarms

states_more : (views : List AlarmView) (i : ℕ) (v : AlarmView) → i < length views → v ≡ get_or views i v → states (take (i + 1) views) ≡ states (take i views) ++ v.state ∷ []
states_more views i v within is =
    ap states (take_more views i v within) ∙ map-append (λ (w : AlarmView). w.state) (take i views) (get_or views i v ∷ [])
    ∙ ap (λ w. states (take i views) ++ w.state ∷ []) (sym is)

-- the counts after one more alarm
pub tally_more : (severity : Severity) (views : List AlarmView) (i : ℕ) (v : AlarmView) (before after : Tally) → i < length views → v ≡ get_or views i v → before ≡ tally_of (selected severity (states (take i views))) → after ≡ tallied severity v.state before → after ≡ tally_of (selected severity (states (take (i + 1) views)))
tally_more severity views i v before after within is was gives =
    gives ∙ ap (tallied severity v.state) was ∙ sym (ap (λ alarms. tally_of (selected severity alarms)) (states_more views i v within is) ∙ tally_push severity (states (take i views)) v.state)

-- the counts so far are few
pub tally_so_few : (severity : Severity) (views : List AlarmView) (i most : ℕ) (t : Tally) → length views ≤ most → t ≡ tally_of (selected severity (states (take i views))) → AreAtMost most t
tally_so_few severity views i most t few is =
    let seen = take i views in
    let short : length (states seen) ≤ most = omega (arith, length-map seen (λ (v : AlarmView). v.state), length-take i views) in
    subst (AreAtMost most) (sym is) (tally_few severity (states seen) most short)

-- the counts after the last alarm
pub tally_all : (s : State) (severity : Severity) (views : List AlarmView) (i : ℕ) (t : Tally) (row : List ℕ) → IsValid s → states views ≡ s.alarms → length views ≤ i → t ≡ tally_of (selected severity (states (take i views))) → row ≡ row_of t → row ≡ counts_of (filter (λ a. rank_of a.severity == rank_of severity) (listed s))
tally_all s severity views i t row valid all end is row_is =
    row_is ∙ ap row_of (is ∙ ap (λ vs. tally_of (selected severity (states vs))) (take_all i views end) ∙ ap (λ alarms. tally_of (selected severity alarms)) all)
    ∙ summary_row s severity valid

-- there are no more than there may be
pub views_few : (s : State) (views : List AlarmView) → IsValid s → states views ≡ s.alarms → length views ≤ most_alarms
views_few s views valid all =
    let few = valid.few in
    let same : length views ≡ length s.alarms = sym (length_states views) ∙ ap length all in
    omega arith

-- some alarm is on a shelf exactly where the shelves' count isn't 0
pub shelves_active : (s : State) → IsValid s → (count : ℕ) → count ≡ length (filter is_marked s.alarms) → nat_lt 0 count ≡ has_shelved s
shelves_active s valid count is = ap (nat_lt 0) is ∙ some_counted is_marked s.alarms ∙ any_like is_marked (λ a. is_shelved s a.key) s.alarms (marks_shelve s s.alarms (marked_alarms s valid))
  where
    any_like : (p q : AlarmState → Bool) (xs : List AlarmState) → AllByRecursion (λ a. p a ≡ q a) xs → list_any p xs ≡ list_any q xs
    any_like p q [] h = refl
    any_like p q (x ∷ xs) h = ap (λ b. b || list_any p xs) h.0 ∙ ap (λ b. q x || b) (any_like p q xs h.1)

-- five rows are the same where each is
pub rows_are : (a b c d e v w x y z : List ℕ) → a ≡ v → b ≡ w → c ≡ x → d ≡ y → e ≡ z → a ∷ b ∷ c ∷ d ∷ e ∷ [] ≡ v ∷ w ∷ x ∷ y ∷ z ∷ []
rows_are a b c d e v w x y z p q r s t = λ i. p i ∷ q i ∷ r i ∷ s i ∷ t i ∷ []
