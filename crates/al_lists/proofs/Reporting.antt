-- Reports and operators' actions are what is prepared for them.
use Rattle.std.proofs.Common.{◌≡◌, ℕ, Bool, true, false, cond, ◌&&◌, ◌||◌, List, [], ◌∷◌, map, Option, None, Some, refl, ap, sym, ◌∙◌, subst}
use Rattle.std.specs.List.{filter_map, insert, list_any}
use Rattle.std.specs.Option.{is_some, option_to_list}
use Rattle.al_base.specs.declared.operator.OperatorState.{OperatorState}
use Rattle.al_base.specs.declared.severity.Severity.{Severity}
use Rattle.al_base.specs.declared.severity.Status.{Status}
use Rattle.al_base.specs.declared.severity.Status.TheVariants.{Cleared, Active}
use Rattle.al_base.specs.declared.text.Text.{Text}
use Rattle.al_ids.specs.declared.key.AlarmKey.{AlarmKey}
use Rattle.al_model.specs.Alarms.{alarm_of, is_of, new_alarm, reported, says_more, with_newcomer, with_operator}
use Rattle.al_model.specs.Decision.{changes}
use Rattle.al_model.specs.Events.{after_event, fate, newcomer, set_by, touches}
use Rattle.al_model.specs.State.{AlarmState, State, is_on, shelf_name}
use Rattle.al_model.specs.Step.{moved, touches_side}
use Rattle.al_model.specs.Validity.{IsInOrder}
use Rattle.al_model.specs.declared.event.Event.TheVariants as events
use Rattle.al_model.specs.declared.event.Side.{Side}
use Rattle.al_model.proofs.Living.{all_live, found, none_of_both}
use Rattle.al_model.proofs.Moves.{unmoved}
use Rattle.al_model.proofs.Sameness.{alarms_after}
use Rattle.al_contents.specs.Edits.{at_place}
use Rattle.al_contents.specs.Positions.{IsAbsentAt, IsKnownAt}
use Rattle.al_lists.proofs.Placing.{IsOfOne, any_at, one_alarm, one_side, or_false, own_key}

other_key : (key : AlarmKey) (x a : AlarmState) → x.key ≡ key → is_of x.key a ≡ false → is_of key a ≡ false
other_key key x a is h = subst (λ k. is_of k a ≡ false) is h

-- ---- a report of an alarm that stands

none_new_known : (s : State) (time : ℕ) (key : AlarmKey) (status : Status) (text : Text) (x : AlarmState) → alarm_of key s.alarms ≡ Some x → newcomer s time (events.Report key status text) ≡ None
none_new_known s time key (Active severity) text x found =
    ap (λ o. cond (is_some o) None (Some (new_alarm (shelf_name s key) time key severity text))) found
none_new_known s time key Cleared text x found = refl

-- where it changes anything, it says more
pub report_news : (s : State) (time : ℕ) (key : AlarmKey) (status : Status) (text : Text) (place : ℕ) (k : IsKnownAt key s.alarms place) → IsInOrder s.alarms → changes s time (events.Report key status text) ≡ true → says_more k.alarm status text ≡ true
report_news s time key status text place k order changed =
    let x = k.alarm in
    let touch : AlarmState → Bool = λ a. is_of key a && says_more a status text in
    let any : list_any touch s.alarms ≡ touch x =
    any_at touch s.alarms place x order k.stands (λ a h. ap (λ b. b && says_more a status text) (other_key key x a k.key_is h)) in
    let none = none_new_known s time key status text x k.found in
    sym (ap (λ b. b && says_more x status text) (own_key key x k.key_is)) ∙ sym any ∙ sym (or_false (list_any touch s.alarms))
    ∙ sym (ap (λ o. list_any touch s.alarms || is_some o) none) ∙ changed

pub report_one : (s : State) (time : ℕ) (key : AlarmKey) (status : Status) (text : Text) (place : ℕ) (k : IsKnownAt key s.alarms place) → says_more k.alarm status text ≡ true → IsOfOne s time (events.Report key status text) place k.alarm
report_one s time key status text place k news =
    record {
      stands = k.stands;
      none_new = none_new_known s time key status text k.alarm k.found;
      touched = ap (λ b. b && says_more k.alarm status text) (own_key key k.alarm k.key_is) ∙ news;
      others = λ a h. ap (λ b. b && says_more a status text) (other_key key k.alarm a k.key_is h);
    }

pub report_alarms : (s : State) (time : ℕ) (key : AlarmKey) (status : Status) (text : Text) (place : ℕ) (k : IsKnownAt key s.alarms place) → IsInOrder s.alarms → says_more k.alarm status text ≡ true → alarms_after s time (events.Report key status text) ≡ at_place place (reported s.max time status text) s.alarms
report_alarms s time key status text place k order news =
    let event = events.Report key status text in
    let after = after_event s time event in
    let one = report_one s time key status text place k news in
    one_alarm s time event place k.alarm (reported s.max time status text) order one
    (ap (λ b. Some (moved s after time (cond b (reported s.max time status text k.alarm) k.alarm))) one.touched
    ∙ ap Some (unmoved (λ b. b ≡ reported s.max time status text k.alarm) s after time (reported s.max time status text k.alarm) refl refl))

pub report_side : (s : State) (time : ℕ) (key : AlarmKey) (status : Status) (text : Text) (place : ℕ) (side : Side) (k : IsKnownAt key s.alarms place) → IsInOrder s.alarms → says_more k.alarm status text ≡ true → touches_side s time (events.Report key status text) side ≡ is_on s side k.alarm.key
report_side s time key status text place side k order news =
    one_side s time (events.Report key status text) place k.alarm side order (report_one s time key status text place k news) refl

-- ---- a report of a new alarm

none_of_key : (s : State) (key : AlarmKey) → alarm_of key s.alarms ≡ None → list_any (is_of key) s.alarms ≡ false
none_of_key s key none = sym (found (is_of key) s.alarms) ∙ ap is_some none

one_new : (s : State) (time : ℕ) (key : AlarmKey) (severity : Severity) (text : Text) → alarm_of key s.alarms ≡ None → newcomer s time (events.Report key (Active severity) text) ≡ Some (new_alarm (shelf_name s key) time key severity text)
one_new s time key severity text none =
    ap (λ o. cond (is_some o) None (Some (new_alarm (shelf_name s key) time key severity text))) none

map_itself : {X : Type 0} (f : X → X) → ((x : X) → f x ≡ x) → (xs : List X) → map f xs ≡ xs
map_itself f same [] = refl
map_itself f same (x ∷ xs) = ap (λ y. y ∷ map f xs) (same x) ∙ ap (λ ys. x ∷ ys) (map_itself f same xs)

pub raise_alarms : (s : State) (time : ℕ) (key : AlarmKey) (severity : Severity) (text : Text) (place : ℕ) → IsAbsentAt key s.alarms place → alarms_after s time (events.Report key (Active severity) text) ≡ insert s.alarms place (new_alarm (shelf_name s key) time key severity text)
raise_alarms s time key severity text place h =
    let event = events.Report key (Active severity) text in
    let after = after_event s time event in
    let g = moved s after time in
    let new = new_alarm (shelf_name s key) time key severity text in
    let live : filter_map (fate s time event) s.alarms ≡ s.alarms =
    all_live (fate s time event) (is_of key)
    (λ a other. ap (λ b. Some (cond (b && says_more a (Active severity) text) (reported s.max time (Active severity) text a) a)) other) s.alarms (none_of_key s key h.none) in
    map_itself g (λ a. unmoved (λ b. b ≡ a) s after time a refl refl) (with_newcomer (newcomer s time event) (filter_map (fate s time event) s.alarms))
    ∙ ap (λ o. with_newcomer o (filter_map (fate s time event) s.alarms)) (one_new s time key severity text h.none)
    ∙ ap (with_newcomer (Some new)) live ∙ h.put_there new refl

pub raise_side : (s : State) (time : ℕ) (key : AlarmKey) (severity : Severity) (text : Text) (side : Side) → alarm_of key s.alarms ≡ None → touches_side s time (events.Report key (Active severity) text) side ≡ is_on s side key
raise_side s time key severity text side none =
    let event = events.Report key (Active severity) text in
    let untouched : list_any (touches s time event) s.alarms ≡ false = none_of_both (is_of key) (λ a. says_more a (Active severity) text) s.alarms (none_of_key s key none) in
    ap (λ b. b || list_any (λ a. is_on s side a.key) (option_to_list (newcomer s time event)))
    (none_of_both (touches s time event) (λ a. is_on s side a.key || is_on (set_by s event) side a.key) s.alarms untouched)
    ∙ ap (λ o. list_any (λ a. is_on s side a.key) (option_to_list o)) (one_new s time key severity text none) ∙ or_false (is_on s side key)

-- a clear of a key that has no alarm changes nothing
pub cleared_nothing : (s : State) (time : ℕ) (key : AlarmKey) (text : Text) → alarm_of key s.alarms ≡ None → changes s time (events.Report key Cleared text) ≡ false
cleared_nothing s time key text none =
    let untouched : list_any (touches s time (events.Report key Cleared text)) s.alarms ≡ false =
    none_of_both (is_of key) (λ a. says_more a Cleared text) s.alarms (none_of_key s key none) in
    ap (λ b. b || false) untouched

-- ---- an operator's action

pub operate_one : (s : State) (time : ℕ) (key : AlarmKey) (state : OperatorState) (operator : Text) (text : Option Text) (place : ℕ) (k : IsKnownAt key s.alarms place) → IsOfOne s time (events.Operate key state operator text) place k.alarm
operate_one s time key state operator text place k =
    record {
      stands = k.stands;
      none_new = refl;
      touched = own_key key k.alarm k.key_is;
      others = λ a h. other_key key k.alarm a k.key_is h;
    }

pub operate_alarms : (s : State) (time : ℕ) (key : AlarmKey) (state : OperatorState) (operator : Text) (text : Option Text) (place : ℕ) (k : IsKnownAt key s.alarms place) → IsInOrder s.alarms → alarms_after s time (events.Operate key state operator text) ≡ at_place place (with_operator (Some (record { time = time; state = state; operator = operator; text = text }))) s.alarms
operate_alarms s time key state operator text place k order =
    let event = events.Operate key state operator text in
    let after = after_event s time event in
    let made : AlarmState → AlarmState = with_operator (Some (record { time = time; state = state; operator = operator; text = text })) in
    let one = operate_one s time key state operator text place k in
    one_alarm s time event place k.alarm made order one
    (ap (λ b. Some (moved s after time (cond b (made k.alarm) k.alarm))) one.touched
    ∙ ap Some (unmoved (λ b. b ≡ made k.alarm) s after time (made k.alarm) refl refl))

pub operate_side : (s : State) (time : ℕ) (key : AlarmKey) (state : OperatorState) (operator : Text) (text : Option Text) (place : ℕ) (side : Side) (k : IsKnownAt key s.alarms place) → IsInOrder s.alarms → touches_side s time (events.Operate key state operator text) side ≡ is_on s side k.alarm.key
operate_side s time key state operator text place side k order =
    one_side s time (events.Operate key state operator text) place k.alarm side order (operate_one s time key state operator text place k) refl
