-- The time of a side moves exactly where the alarms of the side do.
use Rattle.std.proofs.Common.{◌≡◌, ◌≢◌, ℕ, ◌<◌, Bool, true, false, cond, not, ◌&&◌, ◌||◌, Option, None, Some, List, [], ◌∷◌, ◌++◌, map, refl, sym, ap, ◌∙◌}
use Rattle.std.specs.List.{AllByRecursion, filter, filter_map, list_any}
use Rattle.std.specs.List.Sorted.{IsStrictlySortedBy}
use Rattle.std.specs.Option.{IfSome, is_some, option_map, option_to_list}
use Rattle.std.specs.Ordering.{is_eq, is_gt, is_lt, ordering_reverse}
use Rattle.std.specs.declared.cmp.Ordering.{Ordering}
use Rattle.std.specs.declared.cmp.Ordering.TheVariants.{Less, Equal, Greater}
use Rattle.al_base.specs.declared.severity.Status.TheVariants.{Cleared, Active}
use Rattle.al_base.specs.declared.text.Text.{Text}
use Rattle.al_base.specs.declared.operator.OperatorState.TheVariants.{Shelved}
use Rattle.al_ids.proofs.Keyed.{equal_key}
use Rattle.al_ids.specs.Keys.{key_cmp}
use Rattle.al_ids.specs.declared.key.AlarmKey.{AlarmKey}
use Rattle.al_base.specs.Texts.{same_text}
use Rattle.al_model.specs.Alarms.{alarm_of, is_of, move_entry, new_alarm, own_entry, says_more, with_newcomer}
use Rattle.al_model.specs.Events.{after_event, fate, newcomer, set_by, touches}
use Rattle.al_model.specs.State.{AlarmState, State, alarms_on, is_on, shelf_name}
use Rattle.al_model.specs.Step.{moved, step, touches_side}
use Rattle.al_model.specs.Validity.{IsInOrder}
use Rattle.al_model.specs.declared.entry.Entry.{Entry}
use Rattle.al_model.specs.declared.event.Event.{Event}
use Rattle.al_model.specs.declared.event.Event.TheVariants as events
use Rattle.al_model.specs.declared.event.Side.{Side}
use Rattle.al_model.specs.declared.event.Side.TheVariants as sides
use Rattle.al_model.proofs.Living.{all_live, any_append, found, map-filter_map, none_of_both}
use Rattle.al_model.proofs.Moves.{fate_key, moved_key, same_is, unmoved}
use Rattle.al_model.proofs.Order.{keys_total}
use Rattle.al_model.proofs.Sameness.{alarms_after}
use Rattle.al_model.proofs.Sides.{AreSided, same_side, untouched_side}
use Rattle.al_model.proofs.Tools.{either, none_true}
use Rattle.al_model.proofs.Touched.{life, touched, untouched}

-- ---- what becomes of each alarm, by its sides

-- a first shelf of the same name is the same side
side_of_name : Option Text → Side → Bool
side_of_name name sides.List = not (is_some name)
side_of_name name sides.Shelf = is_some name

on_by_name : (s : State) (side : Side) (key : AlarmKey) → is_on s side key ≡ side_of_name (shelf_name s key) side
unfolding side_of_name
on_by_name s sides.List key = refl
on_by_name s sides.Shelf key = refl

no_move_same : (time : ℕ) (before after : Option Text) → is_some (move_entry time before after) ≡ false → before ≡ after
no_move_same time None None h = refl
no_move_same time None (Some new) h = absurd (cc)
no_move_same time (Some old) None h = absurd (cc)
no_move_same time (Some old) (Some new) h = by (same_text old new) refl h
  where
    by : (b : Bool) → same_text old new ≡ b → is_some (cond b None (Some (own_entry time Shelved new))) ≡ false → Some old ≡ Some new
    by true is h = ap Some (same_is old new is)
    by false is h = absurd (cc)

stays_on : (s after : State) (side : Side) (time : ℕ) (a : AlarmState) → is_some (move_entry time (shelf_name s a.key) (shelf_name after a.key)) ≡ false → is_on s side a.key ≡ is_on after side a.key
stays_on s after side time a h =
    on_by_name s side a.key ∙ ap (λ name. side_of_name name side) (no_move_same time (shelf_name s a.key) (shelf_name after a.key) h)
    ∙ sym (on_by_name after side a.key)

untouched_on : (s : State) (time : ℕ) (event : Event) (side : Side) (a : AlarmState) → touches s time event a ≡ false → is_on s side a.key ≡ is_on (set_by s event) side a.key
untouched_on s time (events.Report key status text) side a h = refl
untouched_on s time (events.Operate key state operator text) side a h = refl
untouched_on s time (events.SetMax max) sides.List a h = refl
untouched_on s time (events.SetMax max) sides.Shelf a h = refl
untouched_on s time (events.SetNotify rule) sides.List a h = refl
untouched_on s time (events.SetNotify rule) sides.Shelf a h = refl
untouched_on s time (events.PutShelf shelf at) side a h = stays_on s (set_by s (events.PutShelf shelf at)) side time a h
untouched_on s time (events.DropShelf name) side a h = stays_on s (set_by s (events.DropShelf name)) side time a h
untouched_on s time (events.Purge purged filter) side a h = refl
untouched_on s time (events.Compress compressed filter) side a h = refl
untouched_on s time (events.Install inventory) side a h = stays_on s (set_by s (events.Install inventory)) side time a h

-- an alarm goes by a purge alone, which leaves the sides
gone_on : (s : State) (time : ℕ) (event : Event) (side : Side) (a : AlarmState) → life s time event a ≡ None → is_on s side a.key ≡ is_on (set_by s event) side a.key
gone_on s time (events.Report key status text) side a h = absurd (cc)
gone_on s time (events.Operate key state operator text) side a h = absurd (cc)
gone_on s time (events.SetMax max) side a h = absurd (cc)
gone_on s time (events.SetNotify rule) side a h = absurd (cc)
gone_on s time (events.PutShelf shelf at) side a h = absurd (cc)
gone_on s time (events.DropShelf name) side a h = absurd (cc)
gone_on s time (events.Purge purged filter) side a h = refl
gone_on s time (events.Compress compressed filter) side a h = absurd (cc)
gone_on s time (events.Install inventory) side a h = absurd (cc)

life_key : (s : State) (time : ℕ) (event : Event) (a : AlarmState) → IfSome (life s time event a) (λ y. y.key ≡ a.key)
life_key s time event a = by (fate s time event a) (fate_key s time event a)
  where
    by : (o : Option AlarmState) → IfSome o (λ b. b.key ≡ a.key) → IfSome (option_map (moved s (after_event s time event) time) o) (λ y. y.key ≡ a.key)
    by None same = tt
    by (Some b) same = moved_key s (after_event s time event) time b ∙ same

sided : (s : State) (time : ℕ) (event : Event) (side : Side) → AreSided (life s time event) (touches s time event) (is_on s side) (is_on (set_by s event) side) (λ a. a.changed < time)
sided s time event side =
    record {
      lives = untouched s time event;
      differs = touched s time event;
      key = life_key s time event;
      side = untouched_on s time event side;
      gone = gone_on s time event side;
    }

-- ---- a newcomer

-- An event that makes an alarm does nothing else.
record IsAlone (s : State) (time : ℕ) (event : Event) (new : AlarmState) : Type 0 where
  pub none : list_any (touches s time event) s.alarms ≡ false
  pub unset : set_by s event ≡ s
  pub unknown : list_any (is_of new.key) s.alarms ≡ false

alone : (s : State) (time : ℕ) (event : Event) → IfSome (newcomer s time event) (IsAlone s time event)
alone s time (events.Report key (Active severity) text) =
    either (λ o. IfSome o (IsAlone s time (events.Report key (Active severity) text))) (is_some (alarm_of key s.alarms)) None
    (Some (new_alarm (shelf_name s key) time key severity text)) (λ _. tt)
    (λ unknown.
    let none : list_any (is_of key) s.alarms ≡ false = sym (found (is_of key) s.alarms) ∙ unknown in
    record { none = none_of_both (is_of key) (λ a. says_more a (Active severity) text) s.alarms none; unset = refl; unknown = none })
alone s time (events.Report key Cleared text) = tt
alone s time (events.Operate key state operator text) = tt
alone s time (events.SetMax max) = tt
alone s time (events.SetNotify rule) = tt
alone s time (events.PutShelf shelf at) = tt
alone s time (events.DropShelf name) = tt
alone s time (events.Purge side filter) = tt
alone s time (events.Compress side filter) = tt
alone s time (events.Install inventory) = tt

map_itself : {X : Type 0} (f : X → X) → ((x : X) → f x ≡ x) → (xs : List X) → map f xs ≡ xs
map_itself f same [] = refl
map_itself f same (x ∷ xs) = ap (λ y. y ∷ map f xs) (same x) ∙ ap (λ ys. x ∷ ys) (map_itself f same xs)

-- the alarms after it are those before and the new one
with_one : (s : State) (time : ℕ) (event : Event) (new : AlarmState) → newcomer s time event ≡ Some new → IsAlone s time event new → alarms_after s time event ≡ with_newcomer (Some new) s.alarms
with_one s time event new is a =
    let g = moved s (after_event s time event) time in
    let still : (x : AlarmState) → g x ≡ x =
    λ x. unmoved (λ b. b ≡ x) s (after_event s time event) time x (sym (ap (λ t. shelf_name t x.key) a.unset)) refl in
    let live : filter_map (fate s time event) s.alarms ≡ s.alarms =
    sym (map_itself g still (filter_map (fate s time event) s.alarms)) ∙ map-filter_map g (fate s time event) s.alarms
    ∙ all_live (life s time event) (touches s time event) (untouched s time event) s.alarms a.none in
    map_itself g still (with_newcomer (newcomer s time event) (filter_map (fate s time event) s.alarms))
    ∙ ap (λ o. with_newcomer o (filter_map (fate s time event) s.alarms)) is ∙ ap (with_newcomer (Some new)) live

-- ---- lists with a newcomer

filter_append : {X : Type 0} (p : X → Bool) (xs ys : List X) → filter p (xs ++ ys) ≡ filter p xs ++ filter p ys
filter_append p [] ys = refl
filter_append {X} p (x ∷ xs) ys = by (p x) (filter_append p xs ys)
  where
    by : (b : Bool) → filter p (xs ++ ys) ≡ filter p xs ++ filter p ys → cond b (x ∷ filter p (xs ++ ys)) (filter p (xs ++ ys)) ≡ cond b (x ∷ filter p xs) (filter p xs) ++ filter p ys
    by true same = ap (λ zs. x ∷ zs) same
    by false same = same

all_upper : (key below : AlarmKey) (xs : List AlarmState) → key_cmp key below ≡ Less → AllByRecursion (λ a. key_cmp below a.key ≡ Less) xs → (filter (λ a. is_lt (key_cmp a.key key)) xs ≡ []) × (filter (λ a. is_gt (key_cmp a.key key)) xs ≡ xs)
all_upper key below [] lt h = (refl, refl)
all_upper key below (x ∷ xs) lt h =
    let more = all_upper key below xs lt h.1 in
    let above : key_cmp x.key key ≡ Greater =
    keys_total.antisymm x.key key ∙ ap ordering_reverse (keys_total.trans key below x.key lt h.0) in (
      ap (λ o. cond (is_lt o) (x ∷ filter (λ a. is_lt (key_cmp a.key key)) xs) (filter (λ a. is_lt (key_cmp a.key key)) xs)) above ∙ more.0,
      ap (λ o. cond (is_gt o) (x ∷ filter (λ a. is_gt (key_cmp a.key key)) xs) (filter (λ a. is_gt (key_cmp a.key key)) xs)) above
          ∙ ap (λ ys. x ∷ ys) more.1,
    )

-- alarms in order, none of them of a key, are those below it and those above it
parted : (key : AlarmKey) (xs : List AlarmState) → IsInOrder xs → list_any (is_of key) xs ≡ false → filter (λ a. is_lt (key_cmp a.key key)) xs ++ filter (λ a. is_gt (key_cmp a.key key)) xs ≡ xs
unfolding IsStrictlySortedBy
parted key [] order none = refl
parted key (x ∷ xs) order none =
    let parts = none_true (is_of key x) (list_any (is_of key) xs) none in
    by (key_cmp x.key key) refl parts.0 (parted key xs order.1 parts.1)
  where
    lower : List AlarmState
    lower = filter (λ a. is_lt (key_cmp a.key key)) xs

    upper : List AlarmState
    upper = filter (λ a. is_gt (key_cmp a.key key)) xs

    by : (o : Ordering) → key_cmp x.key key ≡ o → is_eq o ≡ false → lower ++ upper ≡ xs → cond (is_lt o) (x ∷ lower) lower ++ cond (is_gt o) (x ∷ upper) upper ≡ x ∷ xs
    by Less is other same = ap (λ ys. x ∷ ys) same
    by Equal is other same = absurd (cc)
    by Greater is other same =
        let lt : key_cmp key x.key ≡ Less = keys_total.antisymm key x.key ∙ ap ordering_reverse is in
        let all = all_upper key x.key xs lt order.0 in
        ap (λ ys. ys ++ x ∷ upper) all.0 ∙ ap (λ ys. x ∷ ys) all.1

-- a newcomer of the other side leaves this one
other_side : (p : AlarmKey → Bool) (new : AlarmState) (xs : List AlarmState) → IsInOrder xs → list_any (is_of new.key) xs ≡ false → p new.key ≡ false → filter (λ a. p a.key) (with_newcomer (Some new) xs) ≡ filter (λ a. p a.key) xs
other_side p new xs order none out =
    let lower = filter (λ a. is_lt (key_cmp a.key new.key)) xs in
    let upper = filter (λ a. is_gt (key_cmp a.key new.key)) xs in
    let on = λ (a : AlarmState). p a.key in
    filter_append on lower (new ∷ upper) ∙ ap (λ b. filter on lower ++ cond b (new ∷ filter on upper) (filter on upper)) out
    ∙ sym (filter_append on lower upper) ∙ ap (filter on) (parted new.key xs order none)

-- one of this side changes it
this_side : (p : AlarmKey → Bool) (new : AlarmState) (xs : List AlarmState) → list_any (is_of new.key) xs ≡ false → p new.key ≡ true → filter (λ a. p a.key) (with_newcomer (Some new) xs) ≢ filter (λ a. p a.key) xs
this_side p new xs none here same =
    let lower = filter (λ a. is_lt (key_cmp a.key new.key)) xs in
    let upper = filter (λ a. is_gt (key_cmp a.key new.key)) xs in
    let on = λ (a : AlarmState). p a.key in
    let shown : filter on (with_newcomer (Some new) xs) ≡ filter on lower ++ new ∷ filter on upper =
    filter_append on lower (new ∷ upper) ∙ ap (λ b. filter on lower ++ cond b (new ∷ filter on upper) (filter on upper)) here in
    let found_after : list_any (is_of new.key) (filter on (with_newcomer (Some new) xs)) ≡ true =
    ap (list_any (is_of new.key)) shown ∙ any_append (is_of new.key) (filter on lower) new (filter on upper) (ap is_eq (equal_key new.key new.key refl)) in
    let both : true ≡ false = sym found_after ∙ ap (list_any (is_of new.key)) same ∙ none_kept (is_of new.key) on xs none in
    cc
  where
    none_kept : (q on : AlarmState → Bool) (ys : List AlarmState) → list_any q ys ≡ false → list_any q (filter on ys) ≡ false
    none_kept q on [] h = refl
    none_kept q on (y ∷ ys) h =
        let parts = none_true (q y) (list_any q ys) h in
        either (λ zs. list_any q zs ≡ false) (on y) (y ∷ filter on ys) (filter on ys)
        (λ _. ap (λ b. b || list_any q (filter on ys)) parts.0 ∙ none_kept q on ys parts.1) (λ _. none_kept q on ys parts.1)

-- ---- the step

-- the alarms of a side after the step, and whether the event touched it
abbrev on_after : State → ℕ → Event → Side → Option AlarmState → List AlarmState
on_after s time event side new =
    filter (λ a. is_on (set_by s event) side a.key) (map (moved s (after_event s time event) time) (with_newcomer new (filter_map (fate s time event) s.alarms)))

side_stays : (s : State) (time : ℕ) (event : Event) (side : Side) (new : Option AlarmState) → newcomer s time event ≡ new → IfSome new (IsAlone s time event) → IsInOrder s.alarms → (list_any (λ a. touches s time event a && (is_on s side a.key || is_on (set_by s event) side a.key)) s.alarms || list_any (λ a. is_on s side a.key) (option_to_list new)) ≡ false → on_after s time event side new ≡ alarms_on s side
side_stays s time event side None is none order h =
    let parts = none_true (list_any (λ a. touches s time event a && (is_on s side a.key || is_on (set_by s event) side a.key)) s.alarms) false h in
    ap (filter (λ a. is_on (set_by s event) side a.key)) (map-filter_map (moved s (after_event s time event) time) (fate s time event) s.alarms)
    ∙ untouched_side (life s time event) (touches s time event) (is_on s side) (is_on (set_by s event) side) (λ a. a.changed < time) (sided s time event side) s.alarms parts.0
side_stays s time event side (Some new) is a order h =
    let parts = none_true (list_any (λ x. touches s time event x && (is_on s side x.key || is_on (set_by s event) side x.key)) s.alarms) (is_on s side new.key || false) h in
    let out = none_true (is_on s side new.key) false parts.1 in
    let one = sym (ap (λ o. map (moved s (after_event s time event) time) (with_newcomer o (filter_map (fate s time event) s.alarms))) is) ∙ with_one s time event new is a in
    ap (filter (λ x. is_on (set_by s event) side x.key)) one
    ∙ ap (λ t. filter (λ x. is_on t side x.key) (with_newcomer (Some new) s.alarms)) a.unset
    ∙ other_side (is_on s side) new s.alarms order a.unknown out.0

side_same : (s : State) (time : ℕ) (event : Event) (side : Side) (new : Option AlarmState) → newcomer s time event ≡ new → IfSome new (IsAlone s time event) → IsInOrder s.alarms → AllByRecursion (λ a. a.changed < time) s.alarms → on_after s time event side new ≡ alarms_on s side → (list_any (λ a. touches s time event a && (is_on s side a.key || is_on (set_by s event) side a.key)) s.alarms || list_any (λ a. is_on s side a.key) (option_to_list new)) ≡ false
side_same s time event side None is none order earlier same =
    ap (λ b. b || false)
    (same_side (life s time event) (touches s time event) (is_on s side) (is_on (set_by s event) side) (λ a. a.changed < time) (sided s time event side) s.alarms order earlier
    (sym (ap (filter (λ a. is_on (set_by s event) side a.key)) (map-filter_map (moved s (after_event s time event) time) (fate s time event) s.alarms)) ∙ same))
side_same s time event side (Some new) is a order earlier same =
    ap (λ b. b || (is_on s side new.key || false)) (none_of_both (touches s time event) (λ x. is_on s side x.key || is_on (set_by s event) side x.key) s.alarms a.none)
    ∙ by (is_on s side new.key) refl
  where
    one : map (moved s (after_event s time event) time) (with_newcomer (Some new) (filter_map (fate s time event) s.alarms)) ≡ with_newcomer (Some new) s.alarms
    one = sym (ap (λ o. map (moved s (after_event s time event) time) (with_newcomer o (filter_map (fate s time event) s.alarms))) is) ∙ with_one s time event new is a

    shown : filter (λ x. is_on s side x.key) (with_newcomer (Some new) s.alarms) ≡ alarms_on s side
    shown =
        sym (ap (filter (λ x. is_on (set_by s event) side x.key)) one ∙ ap (λ t. filter (λ x. is_on t side x.key) (with_newcomer (Some new) s.alarms)) a.unset)
        ∙ same

    by : (b : Bool) → is_on s side new.key ≡ b → (b || false) ≡ false
    by true here = absurd (this_side (is_on s side) new s.alarms a.unknown here shown)
    by false here = refl

-- The alarms of a side stay exactly where the event doesn't touch it.
pub side_law : (s : State) (e : Entry) (side : Side) → IsInOrder s.alarms → AllByRecursion (λ a. a.changed < e.time) s.alarms → (touches_side s e.time e.event side ≡ false → alarms_on (step s e) side ≡ alarms_on s side) × (alarms_on (step s e) side ≡ alarms_on s side → touches_side s e.time e.event side ≡ false)
unfolding step
side_law s e sides.List order earlier = (
  side_stays s e.time e.event sides.List (newcomer s e.time e.event) refl (alone s e.time e.event) order,
  side_same s e.time e.event sides.List (newcomer s e.time e.event) refl (alone s e.time e.event) order earlier,
)
side_law s e sides.Shelf order earlier = (
  side_stays s e.time e.event sides.Shelf (newcomer s e.time e.event) refl (alone s e.time e.event) order,
  side_same s e.time e.event sides.Shelf (newcomer s e.time e.event) refl (alone s e.time e.event) order earlier,
)
