-- How many entries, alarms and shelves there are.
use Rattle.std.proofs.Common.{◌≡◌, ◌≢◌, ℕ, ◌+◌, ◌≤◌, zero, suc, Bool, true, false, cond, not, ◌||◌, ◌==◌, Option, None, Some, List, [], ◌∷◌, length, refl, sym, ap, ◌∙◌, arith, length-append, length-take}
use Rattle.std.specs.Bool.{nat_le, nat_lt}
use Rattle.std.specs.List.{AllByRecursion, cons_option, filter, filter_map, slice_get}
use Rattle.std.specs.Option.{IfSome, is_none, is_some, option_map, option_or}
use Rattle.std.specs.Ordering.{is_lt, is_gt}
use Rattle.std.specs.declared.cmp.Ordering.{Ordering}
use Rattle.std.specs.declared.cmp.Ordering.TheVariants.{Less, Equal, Greater}
use Rattle.std.proofs.lemmas.List.Edits.{length-insert}
use Rattle.std.proofs.lemmas.List.{length-map}
use Rattle.std.proofs.lemmas.Bool.Decides.{Decides-eqb, Decides-ltb}
use Rattle.std.proofs.lemmas.Bool.{leb-true}
use Rattle.std.proofs.lemmas.Option.{slice_get_within}
use Rattle.al_base.specs.Limits.{last_stamp}
use Rattle.al_base.specs.declared.severity.Severity.{Severity}
use Rattle.al_base.specs.declared.severity.Status.{Status}
use Rattle.al_base.specs.declared.severity.Status.TheVariants.{Cleared, Active}
use Rattle.al_base.specs.declared.text.Text.{Text}
use Rattle.al_ids.specs.Keys.{key_cmp}
use Rattle.al_ids.specs.declared.key.AlarmKey.{AlarmKey}
use Rattle.al_shelf.proofs.Puts.{others_sound, put_sound}
use Rattle.al_shelf.specs.Places.{AreShelves, without}
use Rattle.al_shelf.specs.declared.shelf.Shelf.{Shelf}
use Rattle.al_shelf.specs.declared.spot.Spot.TheVariants.{After}
use Rattle.al_model.specs.Alarms.{alarm_of, bounded, is_of, move_entry, new_alarm, reported, with_newcomer, with_operator}
use Rattle.al_record.specs.Histories.{newest}
use Rattle.al_model.specs.Decision.{full, unless}
use Rattle.al_model.specs.Events.{after_event, fate, newcomer, set_by}
use Rattle.al_model.specs.History.{Fits, asked_for, asked_shelf}
use Rattle.al_model.specs.State.{AlarmState, State, shelf_name}
use Rattle.al_model.specs.Step.{moved, step}
use Rattle.al_model.specs.Validity.{IsBounded, KeepsOne}
use Rattle.al_model.specs.declared.decision.Refusal.{Refusal}
use Rattle.al_model.specs.declared.decision.Refusal.TheVariants.{AlarmsFull, ShelvesFull, ClockEnd}
use Rattle.al_model.specs.declared.entry.Entry.{Entry}
use Rattle.al_model.specs.declared.entry.OperatorEntry.{OperatorEntry}
use Rattle.al_model.specs.declared.event.Event.{Event}
use Rattle.al_model.specs.declared.event.Event.TheVariants as events
use Rattle.al_model.specs.declared.request.Request.{Request}
use Rattle.al_model.specs.declared.request.Request.TheVariants as requests
use Rattle.al_model.proofs.Fitting.{fitting}
use Rattle.al_model.proofs.Lifting.{each_after}
use Rattle.al_model.proofs.Tools.{either, if_weaker, none_of_two}

-- ---- histories

newest_within : {E : Type 0} (max : Option ℕ) (es : List E) → IfSome max (λ most. length (newest max es) ≤ most)
newest_within None es = tt
newest_within (Some n) es = omega (arith, length-take n es)

-- what is cut by another bound is within the first one still
newest_still : {E : Type 0} (max cut : Option ℕ) (es : List E) → IfSome max (λ most. length es ≤ most) → IfSome max (λ most. length (newest cut es) ≤ most)
newest_still None cut es h = tt
newest_still (Some n) None es h = h
newest_still (Some n) (Some m) es h = omega (arith, length-take m es)

operated_bounded : (max : Option ℕ) (m : Option OperatorEntry) (a : AlarmState) → IsBounded max a → IsBounded max (with_operator m a)
operated_bounded max None a h = h
operated_bounded max (Some e) a h = record { statuses = h.statuses; operators = omega (arith, length-take 64 (e ∷ a.operators)) }

reported_bounded : (max : Option ℕ) (time : ℕ) (status : Status) (text : Text) (a : AlarmState) → IsBounded max a → IsBounded max (reported max time status text a)
reported_bounded max time (Active severity) text a h =
    record { statuses = newest_within max ((record { time = time; status = Active severity; text = text }) ∷ a.statuses); operators = h.operators }
reported_bounded max time Cleared text a h =
    record { statuses = newest_within max ((record { time = time; status = Cleared; text = text }) ∷ a.statuses); operators = h.operators }

fate_bounded : (s : State) (time : ℕ) (event : Event) (a : AlarmState) → IsBounded s.max a → IfSome (fate s time event a) (IsBounded (set_by s event).max)
fate_bounded s time (events.Report key status text) a h =
    either (IsBounded s.max) _ (reported s.max time status text a) a (λ _. reported_bounded s.max time status text a h) (λ _. h)
fate_bounded s time (events.Operate key state operator text) a h =
    let m : OperatorEntry = record { time = time; state = state; operator = operator; text = text } in
    either (IsBounded s.max) (is_of key a) (with_operator (Some m) a) a (λ _. operated_bounded s.max (Some m) a h) (λ _. h)
fate_bounded s time (events.SetMax max) a h = record { statuses = newest_within max a.statuses; operators = h.operators }
fate_bounded s time (events.SetNotify rule) a h = h
fate_bounded s time (events.PutShelf shelf at) a h = h
fate_bounded s time (events.DropShelf name) a h = h
fate_bounded s time (events.Purge side filter) a h = either (λ o. IfSome o (IsBounded s.max)) _ None (Some a) (λ _. tt) (λ _. h)
fate_bounded s time (events.Compress side filter) a h =
    either (IsBounded s.max) _ (bounded (Some 1) a) a
    (λ _. record { statuses = newest_still s.max (Some 1) a.statuses h.statuses; operators = h.operators }) (λ _. h)
fate_bounded s time (events.Install inventory) a h = h

new_bounded : (max : Option ℕ) (name : Option Text) (time : ℕ) (key : AlarmKey) (severity : Severity) (text : Text) → KeepsOne max → IsBounded max (new_alarm name time key severity text)
new_bounded None None time key severity text one = record { statuses = tt; operators = omega arith }
new_bounded None (Some name) time key severity text one = record { statuses = tt; operators = omega arith }
new_bounded (Some n) None time key severity text one = record { statuses = one; operators = omega arith }
new_bounded (Some n) (Some name) time key severity text one = record { statuses = one; operators = omega arith }

newcomer_bounded : (s : State) (time : ℕ) (event : Event) → KeepsOne s.max → IfSome (newcomer s time event) (IsBounded (set_by s event).max)
newcomer_bounded s time (events.Report key (Active severity) text) one =
    either (λ o. IfSome o (IsBounded s.max)) (is_some (alarm_of key s.alarms)) None (Some (new_alarm (shelf_name s key) time key severity text)) (λ _. tt)
    (λ _. new_bounded s.max (shelf_name s key) time key severity text one)
newcomer_bounded s time (events.Report key Cleared text) one = tt
newcomer_bounded s time (events.Operate key state operator text) one = tt
newcomer_bounded s time (events.SetMax max) one = tt
newcomer_bounded s time (events.SetNotify rule) one = tt
newcomer_bounded s time (events.PutShelf shelf at) one = tt
newcomer_bounded s time (events.DropShelf name) one = tt
newcomer_bounded s time (events.Purge side filter) one = tt
newcomer_bounded s time (events.Compress side filter) one = tt
newcomer_bounded s time (events.Install inventory) one = tt

pub step_bounded : (s : State) (e : Entry) → KeepsOne s.max → AllByRecursion (IsBounded s.max) s.alarms → AllByRecursion (IsBounded (step s e).max) (step s e).alarms
unfolding step
step_bounded s e one all =
    let after = after_event s e.time e.event in
    let max = (set_by s e.event).max in
    let becomes : AlarmState → Type 0 = λ b. IsBounded max (moved s after e.time b) in
    let move : (b : AlarmState) → IsBounded max b → becomes b = λ b h. operated_bounded max (move_entry e.time (shelf_name s b.key) (shelf_name after b.key)) b h in
    each_after (IsBounded s.max) (IsBounded max) s e
    (λ a h. if_weaker (IsBounded max) becomes move (fate s e.time e.event a) (fate_bounded s e.time e.event a h))
    (if_weaker (IsBounded max) becomes move (newcomer s e.time e.event) (newcomer_bounded s e.time e.event one)) all

-- ---- alarms and shelves

unless_none : (b : Bool) (r : Refusal) → unless b r ≡ None → b ≡ true
unless_none true r h = refl
unless_none false r h = absurd (cc)

-- what there is room for
pub record HasRoom (s : State) (time : ℕ) (event : Event) : Type 0 where
  pub alarms : (is_none (newcomer s time event) || nat_lt (length s.alarms) 10000) ≡ true
  pub shelves : length (set_by s event).shelves ≤ 64
  pub clock : s.time ≢ last_stamp

not_at_end : (b : Bool) (r : Refusal) → unless (not b) r ≡ None → b ≡ true → ⊥
not_at_end true r h is = absurd (cc)
not_at_end false r h is = cc

pub has_room : (s : State) (time : ℕ) (event : Event) → full s time event ≡ None → HasRoom s time event
has_room s time event h =
    let shelves_fit : Bool = nat_le (length (set_by s event).shelves) 64 in
    let alarms_fit : Bool = is_none (newcomer s time event) || nat_lt (length s.alarms) 10000 in
    let clock : Option Refusal = unless (not (s.time == last_stamp)) ClockEnd in
    let first = none_of_two (unless alarms_fit AlarmsFull) (option_or (unless shelves_fit ShelvesFull) clock) h in
    let second = none_of_two (unless shelves_fit ShelvesFull) clock first.1 in
    record {
      alarms = unless_none alarms_fit AlarmsFull first.0;
      shelves = leb-true (length (set_by s event).shelves) 64 (unless_none shelves_fit ShelvesFull second.0);
      clock = λ is. not_at_end (s.time == last_stamp) ClockEnd second.1 ((Decides-eqb s.time last_stamp).1 is);
    }

pub length_filter : {X : Type 0} (p : X → Bool) (xs : List X) → length (filter p xs) ≤ length xs
length_filter p [] = omega arith
length_filter p (x ∷ xs) =
    let more = length_filter p xs in
    either (λ ys. length ys ≤ length (x ∷ xs)) (p x) (x ∷ filter p xs) (filter p xs) (λ _. omega arith) (λ _. omega arith)

length_filter_map : {X Y : Type 0} (f : X → Option Y) (xs : List X) → length (filter_map f xs) ≤ length xs
length_filter_map f [] = omega arith
length_filter_map {X} {Y} f (x ∷ xs) = by (f x) (length_filter_map f xs)
  where
    by : (o : Option Y) → length (filter_map f xs) ≤ length xs → length (cons_option o (filter_map f xs)) ≤ length (x ∷ xs)
    by None h = omega arith
    by (Some y) h = omega arith

-- those below a key and those above it
length_apart : (key : AlarmKey) (xs : List AlarmState) → length (filter (λ a. is_lt (key_cmp a.key key)) xs) + length (filter (λ a. is_gt (key_cmp a.key key)) xs) ≤ length xs
length_apart key [] = omega arith
length_apart key (x ∷ xs) = by (key_cmp x.key key) (length_apart key xs)
  where
    lower : List AlarmState
    lower = filter (λ a. is_lt (key_cmp a.key key)) xs

    upper : List AlarmState
    upper = filter (λ a. is_gt (key_cmp a.key key)) xs

    by : (o : Ordering) → length lower + length upper ≤ length xs → length (cond (is_lt o) (x ∷ lower) lower) + length (cond (is_gt o) (x ∷ upper) upper) ≤ length (x ∷ xs)
    by Less h = omega arith
    by Equal h = omega arith
    by Greater h = omega arith

few_with : (new : Option AlarmState) (n : ℕ) (alarms : List AlarmState) → length alarms ≤ n → n ≤ 10000 → (is_none new || nat_lt n 10000) ≡ true → length (with_newcomer new alarms) ≤ 10000
few_with None n alarms le few room = omega arith
few_with (Some new) n alarms le few room =
    let lt = (Decides-ltb n 10000).0 room in
    let lower = filter (λ a. is_lt (key_cmp a.key new.key)) alarms in
    let upper = filter (λ a. is_gt (key_cmp a.key new.key)) alarms in
    let apart = length_apart new.key alarms in
    omega (arith, length-append lower (new ∷ upper))

pub step_few : (s : State) (e : Entry) → Fits s e → length s.alarms ≤ 10000 → length (step s e).alarms ≤ 10000
unfolding step
step_few s e f few =
    let room = has_room s e.time e.event (fitting s e f).room in
    let alarms = filter_map (fate s e.time e.event) s.alarms in
    let after = after_event s e.time e.event in
    let all = few_with (newcomer s e.time e.event) (length s.alarms) alarms (length_filter_map (fate s e.time e.event) s.alarms) few room.alarms in
    omega (arith, length-map after.alarms (moved s after e.time), all)

-- the position of a shelf that an entry puts
asked_within : (others : List Shelf) (shelf : Shelf) (at : ℕ) (request : Request) → asked_shelf others shelf at ≡ Some request → at ≤ length others
asked_within others shelf zero request h = omega arith
asked_within others shelf (suc before) request h = by (slice_get others before) refl h
  where
    by : (o : Option Shelf) → slice_get others before ≡ o → option_map (λ other. requests.PutShelf shelf (After other.name)) o ≡ Some request → suc before ≤ length others
    by None is h = absurd (cc)
    by (Some other) is h = let lt = slice_get_within others before other is in omega arith

shelves_set : (s : State) (e : Entry) (f : Fits s e) (event : Event) → e.event ≡ event → length (set_by s event).shelves ≤ 64 → AreShelves s.shelves → AreShelves (set_by s event).shelves
shelves_set s e f (events.Report key status text) is few h = h
shelves_set s e f (events.Operate key state operator text) is few h = h
shelves_set s e f (events.SetMax max) is few h = h
shelves_set s e f (events.SetNotify rule) is few h = h
shelves_set s e f (events.PutShelf shelf at) is few h =
    let others = without shelf.name s.shelves in
    let within = asked_within others shelf at f.request (sym (ap (asked_for s) is) ∙ f.asked) in
    put_sound shelf s.shelves at h within (omega (arith, length-insert others at shelf within))
shelves_set s e f (events.DropShelf name) is few h = others_sound name s.shelves h
shelves_set s e f (events.Purge side filter) is few h = h
shelves_set s e f (events.Compress side filter) is few h = h
shelves_set s e f (events.Install inventory) is few h = h

pub step_shelves : (s : State) (e : Entry) → Fits s e → AreShelves s.shelves → AreShelves (step s e).shelves
unfolding step
step_shelves s e f h = shelves_set s e f e.event refl (has_room s e.time e.event (fitting s e f).room).shelves h
