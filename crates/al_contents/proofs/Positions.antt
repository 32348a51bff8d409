-- What stands at the position that a search found.
use Rattle.std.proofs.Common.{◌≡◌, ℕ, ◌<◌, ◌≤◌, zero, suc, cond, Bool, true, false, Some, None, Result, Ok, Err, List, [], ◌∷◌, ◌++◌, length, refl, ap, sym, ◌∙◌, subst, arith, ltb, lit≤}
use Rattle.std.specs.List.{AllByRecursion, AllWithin, HoldsAt, filter, slice_index_or, insert}
use Rattle.std.specs.List.Sorted.{IsStrictlySortedBy, IsBinarySearchResult, IsSearchInRange, IsNonDecreasingBy}
use Rattle.std.specs.Ordering.{is_lt, is_eq, is_gt, ordering_index}
use Rattle.std.specs.declared.cmp.Ordering.{Ordering}
use Rattle.std.specs.declared.cmp.Ordering.TheVariants.{Less, Equal, Greater}
use Rattle.std.proofs.lemmas.Bool.Decides.{nat_tests}
use Rattle.std.proofs.lemmas.List.Elements.{All-from_all_within, All-from_recursion, recursion_from_All}
use Rattle.std.proofs.lemmas.Map.Keys.{Less-from_sorted}
use Rattle.al_ids.proofs.Keyed.{exact_key}
use Rattle.al_ids.specs.Keys.{key_cmp}
use Rattle.al_ids.specs.declared.key.AlarmKey.{AlarmKey}
use Rattle.al_model.specs.Alarms.{alarm_of}
use Rattle.al_model.specs.State.{AlarmState}
use Rattle.al_model.specs.Validity.{IsInOrder}
use Rattle.al_model.proofs.Order.{keys_total}
use Rattle.al_contents.specs.Positions.{IsKnownAt, IsPositionOf}
use Rattle.al_contents.specs.Views.{AlarmView, states}

-- the alarms below a key, and those above it
abbrev below : AlarmKey → List AlarmState → List AlarmState
below key alarms = filter (λ x. is_lt (key_cmp x.key key)) alarms

abbrev above : AlarmKey → List AlarmState → List AlarmState
above key alarms = filter (λ x. is_gt (key_cmp x.key key)) alarms

-- the alarms below a key, then a, then those above it
abbrev around : AlarmKey → AlarmState → List AlarmState → List AlarmState
around key a alarms = below key alarms ++ a ∷ above key alarms

-- one more alarm at the front
around_less : (key : AlarmKey) (a x : AlarmState) (xs : List AlarmState) → key_cmp x.key key ≡ Less → around key a (x ∷ xs) ≡ x ∷ around key a xs
around_less key a x xs is =
    ap (λ o. cond (is_lt o) (x ∷ below key xs) (below key xs) ++ a ∷ cond (is_gt o) (x ∷ above key xs) (above key xs)) is

found_later : (key : AlarmKey) (x : AlarmState) (xs : List AlarmState) (o : Ordering) → key_cmp x.key key ≡ o → is_eq o ≡ false → alarm_of key (x ∷ xs) ≡ alarm_of key xs
found_later key x xs o is unequal = ap (λ b. cond b (Some x) (alarm_of key xs)) (ap is_eq is ∙ unequal)

-- where all alarms are above the key
record IsBefore (key : AlarmKey) (xs : List AlarmState) : Type 0 where
  nothing_below : below key xs ≡ []
  all_above : above key xs ≡ xs
  none : alarm_of key xs ≡ None

before_all : (key : AlarmKey) (xs : List AlarmState) → AllByRecursion (λ y. key_cmp y.key key ≡ Greater) xs → IsBefore key xs
before_all key [] h = record { nothing_below = refl; all_above = refl; none = refl }
before_all key (x ∷ xs) h =
    let more = before_all key xs h.1 in
    record {
      nothing_below = ap (λ o. cond (is_lt o) (x ∷ below key xs) (below key xs)) h.0 ∙ more.nothing_below;
      all_above = ap (λ o. cond (is_gt o) (x ∷ above key xs) (above key xs)) h.0 ∙ ap (λ ys. x ∷ ys) more.all_above;
      none = found_later key x xs Greater h.0 refl ∙ more.none;
    }

around_before : (key : AlarmKey) (a : AlarmState) (xs : List AlarmState) → IsBefore key xs → around key a xs ≡ a ∷ xs
around_before key a xs h = ap (λ ys. ys ++ a ∷ above key xs) h.nothing_below ∙ ap (λ ys. a ∷ ys) h.all_above

-- the key stands between the alarms that are below it and those that are above it
absent : (key : AlarmKey) (xs : List AlarmState) (i : ℕ) → i ≤ length xs → AllWithin (λ y. key_cmp y.key key ≡ Less) xs 0 i → AllWithin (λ y. key_cmp y.key key ≡ Greater) xs i (length xs) → (alarm_of key xs ≡ None) × ((a : AlarmState) → around key a xs ≡ insert xs i a)
absent key xs zero le less greater =
    let b = before_all key xs (recursion_from_All (λ y. key_cmp y.key key ≡ Greater) xs (All-from_all_within (λ y. key_cmp y.key key ≡ Greater) xs greater)) in
    (b.none, λ a. around_before key a xs b)
absent key [] (suc i) le less greater = absurd (omega arith)
absent key (x ∷ xs) (suc i) le less greater =
    let is : key_cmp x.key key ≡ Less = less 0 x (omega arith) (omega arith) in
    let more = absent key xs i (omega arith) (λ k d low high. less (suc k) d (omega arith) (omega arith)) (λ k d low high. greater (suc k) d (omega arith) (omega arith)) in
    (found_later key x xs Less is refl ∙ more.0, λ a. around_less key a x xs is ∙ ap (λ ys. x ∷ ys) (more.1 a))

-- an alarm below one of the key is below the key
below_of : (key : AlarmKey) (x y : AlarmState) → key_cmp x.key y.key ≡ Less → key_cmp y.key key ≡ Equal → key_cmp x.key key ≡ Less
below_of key x y less is = subst (λ k. key_cmp x.key k ≡ Less) (exact_key y.key key is) less

-- the key stands where its alarm is
known : (key : AlarmKey) (xs : List AlarmState) (i : ℕ) → IsInOrder xs → i < length xs → HoldsAt (λ y. key_cmp y.key key ≡ Equal) xs i → IsKnownAt key xs i
unfolding IsStrictlySortedBy
known key [] i order within here = absurd (omega arith)
known key (x ∷ xs) zero order within here =
    record { alarm = x; stands = refl; key_is = exact_key x.key key (here x); found = ap (λ b. cond b (Some x) (alarm_of key xs)) (ap is_eq (here x)) }
known key (x ∷ xs) (suc i) order within here =
    let later = All-from_recursion (λ y. key_cmp x.key y.key ≡ Less) xs order.0 i x (omega arith) in
    let is : key_cmp x.key key ≡ Less = below_of key x (slice_index_or xs i x) later (here x) in
    let more = known key xs i order.1 (omega arith) (λ d. here d) in
    record { alarm = more.alarm; stands = more.stands; key_is = more.key_is; found = found_later key x xs Less is refl ∙ more.found }

index_small : (o : Ordering) → ordering_index o ≤ 2
index_small Less = lit≤ tt
index_small Equal = lit≤ tt
index_small Greater = lit≤ tt

-- against the key, an alarm doesn't stand higher than a later one
rises_to : (key : AlarmKey) (x y : AlarmState) → key_cmp x.key y.key ≡ Less → ordering_index (key_cmp x.key key) ≤ ordering_index (key_cmp y.key key)
rises_to key x y less = by (key_cmp y.key key) refl
  where
    by : (o : Ordering) → key_cmp y.key key ≡ o → ordering_index (key_cmp x.key key) ≤ ordering_index o
    by Less is = let e = ap ordering_index (keys_total.trans x.key y.key key less is) in omega arith
    by Equal is = let e = ap ordering_index (below_of key x y less is) in omega arith
    by Greater is = index_small (key_cmp x.key key)

rises : (key : AlarmKey) (xs : List AlarmState) → IsInOrder xs → IsNonDecreasingBy (λ y. ordering_index (key_cmp y.key key)) xs
rises key xs order i j d le within = by (ltb i j) refl
  where
    by : (b : Bool) → ltb i j ≡ b → ordering_index (key_cmp (slice_index_or xs i d).key key) ≤ ordering_index (key_cmp (slice_index_or xs j d).key key)
    by true is =
        let lt : i < j = grind (arith, nat_tests) in
        rises_to key (slice_index_or xs i d) (slice_index_or xs j d) (Less-from_sorted _ xs i j d order lt within)
    by false is = let same : i ≡ j = grind (arith, nat_tests) in subst (λ k. ordering_index (key_cmp (slice_index_or xs i d).key key) ≤ ordering_index (key_cmp (slice_index_or xs k d).key key)) same (omega arith)

-- ---- the alarms as the tables have them

index_states : (views : List AlarmView) (i : ℕ) (d : AlarmView) → (slice_index_or views i d).state ≡ slice_index_or (states views) i d.state
index_states [] i d = refl
index_states (v ∷ views) zero d = refl
index_states (v ∷ views) (suc i) d = index_states views i d

pub length_states : (views : List AlarmView) → length (states views) ≡ length views
length_states [] = refl
length_states (v ∷ views) = ap suc (length_states views)

-- some view of a state
view_of : AlarmState → AlarmView
view_of a = record { state = a; max = None; status_room = 0; operator_room = 0 }

within_states : (P : AlarmState → Type 0) (views : List AlarmView) (low high : ℕ) → AllWithin (λ v. P v.state) views low high → AllWithin P (states views) low high
unfolding view_of
within_states P views low high h k d le lt = subst P (index_states views k (view_of d)) (h k (view_of d) le lt)

holds_states : (P : AlarmState → Type 0) (views : List AlarmView) (i : ℕ) → HoldsAt (λ v. P v.state) views i → HoldsAt P (states views) i
unfolding view_of
holds_states P views i h d = subst P (index_states views i (view_of d)) (h (view_of d))

rises_in : (key : AlarmKey) (views : List AlarmView) → IsInOrder (states views) → IsNonDecreasingBy (λ v. ordering_index (key_cmp v.state.key key)) views
rises_in key views order i j d le within =
    let at : AlarmState → ℕ = λ a. ordering_index (key_cmp a.key key) in
    let lt : j < length (states views) = subst (λ n. j < n) (sym (length_states views)) within in
    subst (λ a. at a ≤ at (slice_index_or views j d).state) (sym (index_states views i d))
    (subst (λ a. at (slice_index_or (states views) i d.state) ≤ at a) (sym (index_states views j d)) (rises key (states views) order i j d.state le lt))

-- What a binary search by key answers is the position of the key.
pub position_is : (key : AlarmKey) (views : List AlarmView) (result : Result ℕ ℕ) → IsInOrder (states views) → IsSearchInRange result (length views) → IsBinarySearchResult (λ v. key_cmp v.state.key key) views result → IsPositionOf key (states views) result
position_is key views (Ok i) order within here =
    known key (states views) i order (subst (λ n. i < n) (sym (length_states views)) within) (holds_states (λ a. key_cmp a.key key ≡ Equal) views i here)
position_is key views (Err i) order within parted =
    let p = parted (rises_in key views order) in
    let le : i ≤ length (states views) = subst (λ n. i ≤ n) (sym (length_states views)) within in
    let greater = within_states (λ a. key_cmp a.key key ≡ Greater) views i (length views) p.1 in
    let k = absent key (states views) i le (within_states (λ a. key_cmp a.key key ≡ Less) views 0 i p.0) (subst (λ n. AllWithin (λ a. key_cmp a.key key ≡ Greater) (states views) i n) (sym (length_states views)) greater) in
    record {
      within = le;
      none = k.0;
      put_there = λ a is. subst (λ q. around q a (states views) ≡ insert (states views) i a) (sym is) (k.1 a);
    }
