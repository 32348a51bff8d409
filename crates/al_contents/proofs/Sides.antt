-- The places of a side.
use Rattle.std.proofs.Common.{◌≡◌, ℕ, zero, suc, ◌+◌, ◌<◌, ◌≤◌, Bool, true, false, cond, not, List, [], ◌∷◌, ◌++◌, length, map, take, Option, None, Some, refl, ap, sym, ◌∙◌, subst, arith, length-take}
use Rattle.std.specs.List.{AllByRecursion, filter, find, insert, slice_get, slice_index_or, slice_set}
use Rattle.std.specs.Option.{is_some, option_and_then, option_map}
use Rattle.std.proofs.lemmas.List.{map-append, take_more}
use Rattle.std.proofs.lemmas.Option.{slice_get-map}
use Rattle.al_base.specs.declared.operator.OperatorState.{OperatorState}
use Rattle.al_base.specs.declared.operator.OperatorState.TheVariants.{None0, Ack, Closed, Shelved, UnShelved}
use Rattle.al_base.specs.declared.text.Text.{Text}
use Rattle.al_ids.specs.declared.key.AlarmKey.{AlarmKey}
use Rattle.al_model.specs.Alarms.{alarm_of, is_of}
use Rattle.al_model.specs.State.{AlarmState, State, is_listed, is_shelved, shelf_name}
use Rattle.al_model.specs.Validity.{IsMarked, shelved_by, shelving}
use Rattle.al_model.specs.declared.entry.OperatorEntry.{OperatorEntry}
use Rattle.al_model.proofs.Moves.{of_key}
use Rattle.al_contents.specs.Places.{AreParted, AreSides, places_of}
use Rattle.al_contents.specs.Views.{AlarmView, is_at, is_marked, is_unmarked, mark_of, marked, states}
use Rattle.al_model.specs.State.{alarms_on, is_on, listed, shelved}
use Rattle.al_model.specs.Validity.{IsValid}
use Rattle.al_model.specs.declared.event.Side.{Side}
use Rattle.al_model.specs.declared.event.Side.TheVariants as sides
use Rattle.al_model.proofs.Validity.{marked_alarms}

-- ---- what stands at the places

-- the alarm at the i-th place of a side is the i-th of the side
pub at_side : (p : AlarmState → Bool) (views : List AlarmView) (i : ℕ) → option_map (λ v. v.state) (option_and_then (slice_get views) (slice_get (places_of p (states views)) i)) ≡ slice_get (filter p (states views)) i
at_side p [] i = refl
at_side p (v ∷ views) i = by (at_side p views) (p v.state) i
  where
    rest : List ℕ
    rest = places_of p (states views)

    further : List AlarmState
    further = filter p (states views)

    over : (o : Option ℕ) → option_map (λ w. w.state) (option_and_then (slice_get (v ∷ views)) (option_map suc o)) ≡ option_map (λ w. w.state) (option_and_then (slice_get views) o)
    over None = refl
    over (Some k) = refl

    shifted : ((i : ℕ) → option_map (λ w. w.state) (option_and_then (slice_get views) (slice_get rest i)) ≡ slice_get further i) → (i : ℕ) → option_map (λ w. w.state) (option_and_then (slice_get (v ∷ views)) (slice_get (map suc rest) i)) ≡ slice_get further i
    shifted more i = ap (λ o. option_map (λ w. w.state) (option_and_then (slice_get (v ∷ views)) o)) (slice_get-map suc rest i) ∙ over (slice_get rest i) ∙ more i

    by : ((i : ℕ) → option_map (λ w. w.state) (option_and_then (slice_get views) (slice_get rest i)) ≡ slice_get further i) → (b : Bool) (i : ℕ) → option_map (λ w. w.state) (option_and_then (slice_get (v ∷ views)) (slice_get (cond b (0 ∷ map suc rest) (map suc rest)) i)) ≡ slice_get (cond b (v.state ∷ further) further) i
    by more true zero = refl
    by more true (suc i) = shifted more i
    by more false i = shifted more i

pub length-map : {X Y : Type 0} (f : X → Y) (xs : List X) → length (map f xs) ≡ length xs
length-map f [] = refl
length-map f (x ∷ xs) = ap suc (length-map f xs)

pub count_side : {X : Type 0} (p : X → Bool) (xs : List X) → length (places_of p xs) ≡ length (filter p xs)
count_side p [] = refl
count_side {X} p (x ∷ xs) = by (p x) (length-map suc (places_of p xs) ∙ count_side p xs)
  where
    by : (b : Bool) → length (map suc (places_of p xs)) ≡ length (filter p xs) → length (cond b (0 ∷ map suc (places_of p xs)) (map suc (places_of p xs))) ≡ length (cond b (x ∷ filter p xs) (filter p xs))
    by true e = ap suc e
    by false e = e

-- ---- how they are made

pub places-append : {X : Type 0} (p : X → Bool) (xs : List X) (x : X) → places_of p (xs ++ x ∷ []) ≡ places_of p xs ++ cond (p x) (length xs ∷ []) []
places-append p [] x = refl
places-append {X} p (y ∷ ys) x = by (p y) (ap (map suc) (places-append p ys x) ∙ map-append suc (places_of p ys) (cond (p x) (length ys ∷ []) []) ∙ ap (λ zs. map suc (places_of p ys) ++ zs) (one (p x)))
  where
    one : (b : Bool) → map suc (cond b (length ys ∷ []) []) ≡ cond b (length (y ∷ ys) ∷ []) []
    one true = refl
    one false = refl

    by : (b : Bool) → map suc (places_of p (ys ++ x ∷ [])) ≡ map suc (places_of p ys) ++ cond (p x) (length (y ∷ ys) ∷ []) [] → cond b (0 ∷ map suc (places_of p (ys ++ x ∷ []))) (map suc (places_of p (ys ++ x ∷ []))) ≡ cond b (0 ∷ map suc (places_of p ys)) (map suc (places_of p ys)) ++ cond (p x) (length (y ∷ ys) ∷ []) []
    by true e = ap (λ zs. 0 ∷ zs) e
    by false e = e

-- ---- what leaves them

pub places-at : (p : AlarmState → Bool) (views : List AlarmView) (i : ℕ) (v w : AlarmView) → slice_get views i ≡ Some v → p w.state ≡ p v.state → places_of p (states (slice_set views i w)) ≡ places_of p (states views)
places-at p [] i v w is same = refl
places-at p (x ∷ xs) zero v w is same =
    let first : x ≡ v = cc in
    ap (λ b. cond b (0 ∷ map suc (places_of p (states xs))) (map suc (places_of p (states xs)))) (same ∙ ap (λ y. p y.state) (sym first))
places-at p (x ∷ xs) (suc i) v w is same = ap (λ ys. cond (p x.state) (0 ∷ map suc ys) (map suc ys)) (places-at p xs i v w is same)

pub places-map : {X : Type 0} (p : X → Bool) (f : X → X) → ((x : X) → p (f x) ≡ p x) → (xs : List X) → places_of p (map f xs) ≡ places_of p xs
places-map p f same [] = refl
places-map p f same (x ∷ xs) =
    ap (λ b. cond b (0 ∷ map suc (places_of p (map f xs))) (map suc (places_of p (map f xs)))) (same x)
    ∙ ap (λ ys. cond (p x) (0 ∷ map suc ys) (map suc ys)) (places-map p f same xs)

-- ---- marks

shelving_marks : (state : OperatorState) (text : Option Text) (name : Option Text) → shelving state text ≡ option_map Some name → marked state text ≡ name
shelving_marks None0 text None h = refl
shelving_marks None0 text (Some name) h = absurd (cc)
shelving_marks Ack text None h = refl
shelving_marks Ack text (Some name) h = absurd (cc)
shelving_marks Closed text None h = refl
shelving_marks Closed text (Some name) h = absurd (cc)
shelving_marks Shelved text None h = absurd (cc)
shelving_marks Shelved text (Some name) h = cc
shelving_marks UnShelved text None h = refl
shelving_marks UnShelved text (Some name) h = absurd (cc)

marks_name : (operators : List OperatorEntry) (name : Option Text) → shelved_by operators ≡ option_map Some name → mark_of operators ≡ name
marks_name [] None h = refl
marks_name [] (Some name) h = absurd (cc)
marks_name (e ∷ rest) name h = shelving_marks e.state e.text name h

-- the mark of an alarm is the name of its first shelf
pub mark_is : (s : State) (a : AlarmState) → IsMarked s a → mark_of a.operators ≡ shelf_name s a.key
mark_is s a h = marks_name a.operators (shelf_name s a.key) h

pub filter_like : {X : Type 0} (p q : X → Bool) (xs : List X) → AllByRecursion (λ x. p x ≡ q x) xs → filter p xs ≡ filter q xs
filter_like p q [] h = refl
filter_like p q (x ∷ xs) h =
    ap (λ b. cond b (x ∷ filter p xs) (filter p xs)) h.0 ∙ ap (λ ys. cond (q x) (x ∷ ys) ys) (filter_like p q xs h.1)

pub marks_shelve : (s : State) (alarms : List AlarmState) → AllByRecursion (IsMarked s) alarms → AllByRecursion (λ a. is_marked a ≡ is_shelved s a.key) alarms
marks_shelve s [] h = tt
marks_shelve s (a ∷ rest) h = (ap is_some (mark_is s a h.0), marks_shelve s rest h.1)

pub marks_list : (s : State) (alarms : List AlarmState) → AllByRecursion (IsMarked s) alarms → AllByRecursion (λ a. is_unmarked a ≡ is_listed s a.key) alarms
marks_list s [] h = tt
marks_list s (a ∷ rest) h = (ap (λ o. not (is_some o)) (mark_is s a h.0), marks_list s rest h.1)

-- ---- the alarm of a key on a side

-- It is the one of all, if that is on the side.
pub find_side : (p : AlarmKey → Bool) (key : AlarmKey) (alarms : List AlarmState) → alarm_of key (filter (λ a. p a.key) alarms) ≡ cond (p key) (alarm_of key alarms) None
find_side p key [] = by (p key)
  where
    by : (b : Bool) → None ≡ cond b (alarm_of key []) None
    by true = refl
    by false = refl
find_side p key (x ∷ xs) = by (is_of key x) refl (p x.key) refl (find_side p key xs)
  where
    none : (b : Bool) → p key ≡ b → alarm_of key (filter (λ a. p a.key) xs) ≡ cond (p key) (alarm_of key xs) None → b ≡ false → alarm_of key (filter (λ a. p a.key) xs) ≡ cond (p key) (Some x) None
    none b is more out = more ∙ ap (λ c. cond c (alarm_of key xs) None) (is ∙ out) ∙ sym (ap (λ c. cond c (Some x) None) (is ∙ out))

    by : (of : Bool) → is_of key x ≡ of → (on : Bool) → p x.key ≡ on → alarm_of key (filter (λ a. p a.key) xs) ≡ cond (p key) (alarm_of key xs) None → alarm_of key (cond on (x ∷ filter (λ a. p a.key) xs) (filter (λ a. p a.key) xs)) ≡ cond (p key) (cond of (Some x) (alarm_of key xs)) None
    by true is true on more =
        let here : p key ≡ true = sym (ap p (of_key key x is)) ∙ on in
        ap (λ b. cond b (Some x) (alarm_of key (filter (λ a. p a.key) xs))) is ∙ sym (ap (λ c. cond c (Some x) None) here)
    by true is false on more = none (p key) refl more (sym (ap p (of_key key x is)) ∙ on)
    by false is true on more = ap (λ b. cond b (Some x) (alarm_of key (filter (λ a. p a.key) xs))) is ∙ more
    by false is false on more = more

-- ---- the sides of a valid state

pub listed_is : (s : State) → IsValid s → filter is_unmarked s.alarms ≡ listed s
listed_is s v = filter_like is_unmarked (λ a. is_listed s a.key) s.alarms (marks_list s s.alarms (marked_alarms s v))

pub shelved_is : (s : State) → IsValid s → filter is_marked s.alarms ≡ shelved s
shelved_is s v = filter_like is_marked (λ a. is_shelved s a.key) s.alarms (marks_shelve s s.alarms (marked_alarms s v))

found_has : {X : Type 0} (P : X → Type 0) (p : X → Bool) (xs : List X) (x : X) → AllByRecursion P xs → find p xs ≡ Some x → P x × (p x ≡ true)
found_has P p [] x h is = absurd (cc)
found_has {X} P p (y ∷ ys) x h is = by (p y) refl is (found_has P p ys x h.1)
  where
    by : (b : Bool) → p y ≡ b → cond b (Some y) (find p ys) ≡ Some x → (find p ys ≡ Some x → P x × (p x ≡ true)) → P x × (p x ≡ true)
    by true passes e more = let first : y ≡ x = cc in (subst P first h.0, subst (λ z. p z ≡ true) first passes)
    by false passes e more = more e

pub at_is_on : (s : State) (side : Side) (a : AlarmState) → IsMarked s a → is_at side a ≡ is_on s side a.key
at_is_on s sides.List a h = ap (λ o. not (is_some o)) (mark_is s a h)
at_is_on s sides.Shelf a h = ap is_some (mark_is s a h)

-- the alarm of a key, if it is on the side
abbrev pub if_at : Side → Option AlarmState → Option AlarmState
if_at side found = option_and_then (λ a. cond (is_at side a) (Some a) None) found

pub states_at : (side : Side) (found : Option AlarmView) → option_map (λ v. v.state) (option_and_then (λ v. cond (is_at side v.state) (Some v) None) found) ≡ if_at side (option_map (λ v. v.state) found)
states_at side None = refl
states_at side (Some v) = by (is_at side v.state)
  where
    by : (b : Bool) → option_map (λ w. w.state) (cond b (Some v) None) ≡ cond b (Some v.state) None
    by true = refl
    by false = refl

either_same : {X : Type 0} (b : Bool) (x : X) → x ≡ cond b x x
either_same true x = refl
either_same false x = refl

pub alarm_on : (s : State) (side : Side) (key : AlarmKey) → IsValid s → if_at side (alarm_of key s.alarms) ≡ alarm_of key (alarms_on s side)
alarm_on s side key valid = by (alarm_of key s.alarms) refl ∙ sym (find_side (is_on s side) key s.alarms)
  where
    by : (o : Option AlarmState) → alarm_of key s.alarms ≡ o → if_at side (alarm_of key s.alarms) ≡ cond (is_on s side key) (alarm_of key s.alarms) None
    by None is = subst (λ o. if_at side o ≡ cond (is_on s side key) o None) (sym is) (either_same (is_on s side key) (if_at side None))
    by (Some a) is =
        let has = found_has (IsMarked s) (is_of key) s.alarms a (marked_alarms s valid) is in
        let same : is_at side a ≡ is_on s side key = at_is_on s side a has.0 ∙ ap (is_on s side) (of_key key a has.1) in
        subst (λ o. if_at side o ≡ cond (is_on s side key) o None) (sym is) (ap (λ b. cond b (Some a) None) same)

-- ---- one more alarm

-- the places of one more alarm, at the end of its side
sides_more : (views : List AlarmView) (v : AlarmView) (list shelf : List ℕ) → AreSides views list shelf → AreSides (views ++ v ∷ []) (list ++ cond (is_unmarked v.state) (length (states views) ∷ []) []) (shelf ++ cond (is_marked v.state) (length (states views) ∷ []) [])
sides_more views v list shelf sides =
    record {
      listed = ap (λ places. places ++ cond (is_unmarked v.state) (length (states views) ∷ []) []) sides.listed
          ∙ sym (ap (places_of is_unmarked) (map-append (λ (w : AlarmView). w.state) views (v ∷ [])) ∙ places-append is_unmarked (states views) v.state);
      shelved = ap (λ places. places ++ cond (is_marked v.state) (length (states views) ∷ []) []) sides.shelved
          ∙ sym (ap (places_of is_marked) (map-append (λ (w : AlarmView). w.state) views (v ∷ [])) ∙ places-append is_marked (states views) v.state);
    }

-- the same at a loop's step
pub sides_next : (alarms : List AlarmView) (place : ℕ) (v : AlarmView) (list shelf list' shelf' : List ℕ) → place < length alarms → v ≡ slice_index_or alarms place v → AreSides (take place alarms) list shelf → list' ≡ list ++ cond (is_unmarked v.state) (place ∷ []) [] → shelf' ≡ shelf ++ cond (is_marked v.state) (place ∷ []) [] → AreSides (take (place + 1) alarms) list' shelf'
sides_next alarms place v list shelf list' shelf' lt read sides put_list put_shelf =
    let before : List AlarmView = take place alarms in
    let one_more : take (place + 1) alarms ≡ before ++ v ∷ [] = take_more alarms place v lt ∙ ap (λ w. before ++ w ∷ []) (sym read) in
    let count : length (states before) ≡ place = length-states before ∙ (simp length-take (omega arith)) in
    let more = sides_more before v list shelf sides in
    record {
      listed = put_list ∙ ap (λ n. list ++ cond (is_unmarked v.state) (n ∷ []) []) (sym count) ∙ more.listed ∙ sym (ap (λ views. places_of is_unmarked (states views)) one_more);
      shelved = put_shelf ∙ ap (λ n. shelf ++ cond (is_marked v.state) (n ∷ []) []) (sym count) ∙ more.shelved ∙ sym (ap (λ views. places_of is_marked (states views)) one_more);
    }
  where
    length-states : (views : List AlarmView) → length (states views) ≡ length views
    length-states [] = refl
    length-states (w ∷ views) = ap suc (length-states views)

-- ---- a new alarm among them

up_below : (k : ℕ) (places : List ℕ) → AllByRecursion (λ i. i < k) places → AllByRecursion (λ i. i < suc k) (map suc places)
up_below k [] h = tt
up_below k (i ∷ rest) h = (omega (arith, h.0), up_below k rest h.1)

up_above : (k : ℕ) (places : List ℕ) → AllByRecursion (λ i. k ≤ i) places → AllByRecursion (λ i. suc k ≤ i) (map suc places)
up_above k [] h = tt
up_above k (i ∷ rest) h = (omega (arith, h.0), up_above k rest h.1)

all_above : (places : List ℕ) → AllByRecursion (λ i. 0 ≤ i) places
all_above [] = tt
all_above (i ∷ rest) = (omega arith, all_above rest)

pub places_within : {X : Type 0} (p : X → Bool) (xs : List X) → AllByRecursion (λ i. i < length xs) (places_of p xs)
places_within p [] = tt
places_within {X} p (x ∷ xs) = by (p x) (up_below (length xs) (places_of p xs) (places_within p xs))
  where
    by : (b : Bool) → AllByRecursion (λ i. i < suc (length xs)) (map suc (places_of p xs)) → AllByRecursion (λ i. i < suc (length xs)) (cond b (0 ∷ map suc (places_of p xs)) (map suc (places_of p xs)))
    by true h = (omega arith, h)
    by false h = h

pub places_few : {X : Type 0} (p : X → Bool) (xs : List X) → length (places_of p xs) ≤ length xs
places_few p [] = omega arith
places_few {X} p (x ∷ xs) = by (p x) (omega (arith, length-map suc (places_of p xs), places_few p xs))
  where
    by : (b : Bool) → length (map suc (places_of p xs)) ≤ length xs → length (cond b (0 ∷ map suc (places_of p xs)) (map suc (places_of p xs))) ≤ suc (length xs)
    by true h = omega (arith, h)
    by false h = omega (arith, h)

-- the places of a side, parted where a new one comes
pub record PartedAt {X : Type 0} (p : X → Bool) (xs : List X) (k : ℕ) (x : X) : Type 0 where
  pub before : List ℕ
  pub after : List ℕ
  pub parted : AreParted k (places_of p xs) before after
  pub inserted : places_of p (insert xs k x) ≡ before ++ (cond (p x) (k ∷ []) [] ++ map suc after)

-- one more alarm before all
parted_more : {X : Type 0} (p : X → Bool) (y : X) (ys : List X) (k : ℕ) (x : X) → PartedAt p ys k x → PartedAt p (y ∷ ys) (suc k) x
parted_more {X} p y ys k x more = further (p y) refl
  where
    one : (b : Bool) → map suc (cond b (k ∷ []) []) ≡ cond b (suc k ∷ []) []
    one true = refl
    one false = refl

    all_up : map suc (places_of p ys) ≡ map suc more.before ++ map suc more.after
    all_up = ap (map suc) more.parted.all ∙ map-append suc more.before more.after

    new_up : map suc (places_of p (insert ys k x)) ≡ map suc more.before ++ (cond (p x) (suc k ∷ []) [] ++ map suc (map suc more.after))
    new_up =
        ap (map suc) more.inserted ∙ map-append suc more.before (cond (p x) (k ∷ []) [] ++ map suc more.after)
        ∙ ap (λ zs. map suc more.before ++ zs) (map-append suc (cond (p x) (k ∷ []) []) (map suc more.after) ∙ ap (λ zs. zs ++ map suc (map suc more.after)) (one (p x)))

    further : (b : Bool) → p y ≡ b → PartedAt p (y ∷ ys) (suc k) x
    further true is =
        record {
          before = 0 ∷ map suc more.before;
          after = map suc more.after;
          parted = record {
            all = ap (λ b. cond b (0 ∷ map suc (places_of p ys)) (map suc (places_of p ys))) is ∙ ap (λ zs. 0 ∷ zs) all_up;
            below = (omega arith, up_below k more.before more.parted.below);
            above = up_above k more.after more.parted.above;
          };
          inserted = ap (λ b. cond b (0 ∷ map suc (places_of p (insert ys k x))) (map suc (places_of p (insert ys k x)))) is ∙ ap (λ zs. 0 ∷ zs) new_up;
        }
    further false is =
        record {
          before = map suc more.before;
          after = map suc more.after;
          parted = record {
            all = ap (λ b. cond b (0 ∷ map suc (places_of p ys)) (map suc (places_of p ys))) is ∙ all_up;
            below = up_below k more.before more.parted.below;
            above = up_above k more.after more.parted.above;
          };
          inserted = ap (λ b. cond b (0 ∷ map suc (places_of p (insert ys k x))) (map suc (places_of p (insert ys k x)))) is ∙ new_up;
        }

pub places-insert : {X : Type 0} (p : X → Bool) (xs : List X) (k : ℕ) (x : X) → k ≤ length xs → PartedAt p xs k x
places-insert {X} p xs zero x le =
    record {
      before = [];
      after = places_of p xs;
      parted = record { all = refl; below = tt; above = all_above (places_of p xs) };
      inserted = by (p x);
    }
  where
    by : (b : Bool) → cond b (0 ∷ map suc (places_of p xs)) (map suc (places_of p xs)) ≡ cond b (0 ∷ []) [] ++ map suc (places_of p xs)
    by true = refl
    by false = refl
places-insert p [] (suc k) x le = absurd (omega arith)
places-insert p (y ∷ ys) (suc k) x le = parted_more p y ys k x (places-insert p ys k x (omega arith))
