-- An alarm is on a shelf exactly where its newest operator entry says so.
use Rattle.std.proofs.Common.{◌≡◌, ℕ, Bool, true, false, ◌&&◌, Option, None, Some, refl, sym, ap, ◌∙◌, subst}
use Rattle.std.specs.Bool.{⊤}
use Rattle.std.specs.List.{AllByRecursion}
use Rattle.std.specs.Option.{IfSome, is_some, option_map}
use Rattle.std.proofs.lemmas.Option.{same_Some}
use Rattle.al_base.specs.declared.operator.OperatorState.TheVariants.{None0, Ack, Closed, Shelved, UnShelved}
use Rattle.al_base.specs.declared.operator.OperatorState.{OperatorState}
use Rattle.al_base.specs.declared.severity.Severity.{Severity}
use Rattle.al_base.specs.declared.severity.Status.{Status}
use Rattle.al_base.specs.declared.severity.Status.TheVariants.{Cleared, Active}
use Rattle.al_base.specs.declared.text.Text.{Text}
use Rattle.al_ids.specs.declared.key.AlarmKey.{AlarmKey}
use Rattle.al_model.specs.Alarms.{alarm_of, bounded, is_of, move_entry, new_alarm, own_entry, reported, with_operator}
use Rattle.al_model.specs.Decision.{missing, unless}
use Rattle.al_model.specs.Events.{after_event, fate, newcomer}
use Rattle.al_model.specs.History.{Fits, asked_for}
use Rattle.al_model.specs.Limits.{IsEventWithin}
use Rattle.al_base.specs.Operators.{IsOperators}
use Rattle.al_model.specs.State.{AlarmState, State, is_listed, shelf_name}
use Rattle.al_model.specs.Step.{moved, step}
use Rattle.al_model.specs.Validity.{IsMarked, shelved_by, shelving}
use Rattle.al_model.specs.declared.decision.Refusal.TheVariants.{NoAlarm}
use Rattle.al_model.specs.declared.entry.Entry.{Entry}
use Rattle.al_model.specs.declared.event.Event.{Event}
use Rattle.al_model.specs.declared.event.Event.TheVariants as events
use Rattle.al_model.specs.declared.request.Request.TheVariants as requests
use Rattle.al_model.proofs.Fitting.{fitting}
use Rattle.al_model.proofs.Lifting.{each_after}
use Rattle.al_model.proofs.Moves.{moved_key, of_key, same_is}
use Rattle.al_model.proofs.Tools.{both_true, either, if_weaker, is_none_at, not_true}

-- a move marks the alarm with its new shelf
pub mark_moved : (time : ℕ) (before after : Option Text) (a : AlarmState) → shelved_by a.operators ≡ option_map Some before → shelved_by (with_operator (move_entry time before after) a).operators ≡ option_map Some after
mark_moved time None None a h = h
mark_moved time None (Some new) a h = refl
mark_moved time (Some old) None a h = refl
mark_moved time (Some old) (Some new) a h =
    either (λ m. shelved_by (with_operator m a).operators ≡ Some (Some new)) _ None (Some (own_entry time Shelved new))
    (λ same. h ∙ ap (λ name. Some (Some name)) (same_is old new same)) (λ _. refl)

-- An operator acts on an alarm of the list alone, and shelves none.
abbrev LeavesMarks : State → Event → Type 0
LeavesMarks s (events.Report key status text) = ⊤
LeavesMarks s (events.Operate key state operator text) = IsOperators state × (shelf_name s key ≡ None)
LeavesMarks s (events.SetMax max) = ⊤
LeavesMarks s (events.SetNotify rule) = ⊤
LeavesMarks s (events.PutShelf shelf at) = ⊤
LeavesMarks s (events.DropShelf name) = ⊤
LeavesMarks s (events.Purge side filter) = ⊤
LeavesMarks s (events.Compress side filter) = ⊤
LeavesMarks s (events.Install inventory) = ⊤

operators_mark : (state : OperatorState) (text : Option Text) → IsOperators state → shelving state text ≡ None
operators_mark None0 text h = refl
operators_mark Ack text h = refl
operators_mark Closed text h = refl
operators_mark Shelved text h = absurd h
operators_mark UnShelved text h = absurd h

reported_mark : (s : State) (time : ℕ) (status : Status) (text : Text) (a : AlarmState) → IsMarked s a → IsMarked s (reported s.max time status text a)
reported_mark s time (Active severity) text a h = h
reported_mark s time Cleared text a h = h

fate_marks : (s : State) (time : ℕ) (event : Event) (a : AlarmState) → LeavesMarks s event → IsMarked s a → IfSome (fate s time event a) (IsMarked s)
fate_marks s time (events.Report key status text) a leaves h =
    either (IsMarked s) _ (reported s.max time status text a) a (λ _. reported_mark s time status text a h) (λ _. h)
fate_marks s time (events.Operate key state operator text) a leaves h =
    either (IsMarked s) (is_of key a) (with_operator (Some (record { time = time; state = state; operator = operator; text = text })) a) a
    (λ of. operators_mark state text leaves.0 ∙ ap (option_map Some) (sym leaves.1 ∙ ap (shelf_name s) (sym (of_key key a of)))) (λ _. h)
fate_marks s time (events.SetMax max) a leaves h = h
fate_marks s time (events.SetNotify rule) a leaves h = h
fate_marks s time (events.PutShelf shelf at) a leaves h = h
fate_marks s time (events.DropShelf name) a leaves h = h
fate_marks s time (events.Purge side filter) a leaves h = either (λ o. IfSome o (IsMarked s)) _ None (Some a) (λ _. tt) (λ _. h)
fate_marks s time (events.Compress side filter) a leaves h = either (IsMarked s) _ (bounded (Some 1) a) a (λ _. h) (λ _. h)
fate_marks s time (events.Install inventory) a leaves h = h

new_mark : (s : State) (name : Option Text) (time : ℕ) (key : AlarmKey) (severity : Severity) (text : Text) → shelf_name s key ≡ name → IsMarked s (new_alarm name time key severity text)
new_mark s None time key severity text is = ap (option_map Some) (sym is)
new_mark s (Some name) time key severity text is = ap (option_map Some) (sym is)

newcomer_marks : (s : State) (time : ℕ) (event : Event) → IfSome (newcomer s time event) (IsMarked s)
newcomer_marks s time (events.Report key (Active severity) text) =
    either (λ o. IfSome o (IsMarked s)) (is_some (alarm_of key s.alarms)) None (Some (new_alarm (shelf_name s key) time key severity text)) (λ _. tt)
    (λ _. new_mark s (shelf_name s key) time key severity text refl)
newcomer_marks s time (events.Report key Cleared text) = tt
newcomer_marks s time (events.Operate key state operator text) = tt
newcomer_marks s time (events.SetMax max) = tt
newcomer_marks s time (events.SetNotify rule) = tt
newcomer_marks s time (events.PutShelf shelf at) = tt
newcomer_marks s time (events.DropShelf name) = tt
newcomer_marks s time (events.Purge side filter) = tt
newcomer_marks s time (events.Compress side filter) = tt
newcomer_marks s time (events.Install inventory) = tt

-- the alarm of an operator's action is on the list
on_list : (s : State) (key : AlarmKey) (b : Bool) → unless (b && is_listed s key) NoAlarm ≡ None → shelf_name s key ≡ None
on_list s key b h = is_none_at (shelf_name s key) (not_true (is_some (shelf_name s key)) (both_true b (is_listed s key) (allowed (b && is_listed s key) h)).1)
  where
    allowed : (c : Bool) → unless c NoAlarm ≡ None → c ≡ true
    allowed true h = refl
    allowed false h = absurd (cc)

leaves_marks : (s : State) (e : Entry) (f : Fits s e) (event : Event) → e.event ≡ event → LeavesMarks s event
unfolding IsEventWithin
leaves_marks s e f (events.Report key status text) is = tt
leaves_marks s e f (events.Operate key state operator text) is =
    let asked : Some f.request ≡ Some (requests.Operate key state operator text) = sym f.asked ∙ ap (asked_for s) is in
    let request = same_Some f.request (requests.Operate key state operator text) asked in
    let within = subst IsEventWithin is f.within.event in
    (within.state_within, on_list s key (is_some (alarm_of key s.alarms)) (ap (missing s) (sym request) ∙ (fitting s e f).exists))
leaves_marks s e f (events.SetMax max) is = tt
leaves_marks s e f (events.SetNotify rule) is = tt
leaves_marks s e f (events.PutShelf shelf at) is = tt
leaves_marks s e f (events.DropShelf name) is = tt
leaves_marks s e f (events.Purge side filter) is = tt
leaves_marks s e f (events.Compress side filter) is = tt
leaves_marks s e f (events.Install inventory) is = tt

move_marks : (s : State) (e : Entry) (b : AlarmState) → IsMarked s b → IsMarked (step s e) (moved s (after_event s e.time e.event) e.time b)
unfolding step
move_marks s e b h =
    let after = after_event s e.time e.event in
    mark_moved e.time (shelf_name s b.key) (shelf_name after b.key) b h ∙ ap (λ key. option_map Some (shelf_name after key)) (sym (moved_key s after e.time b))

pub step_marks : (s : State) (e : Entry) → Fits s e → AllByRecursion (IsMarked s) s.alarms → AllByRecursion (IsMarked (step s e)) (step s e).alarms
step_marks s e f all =
    let becomes : AlarmState → Type 0 = λ b. IsMarked (step s e) (moved s (after_event s e.time e.event) e.time b) in
    each_after (IsMarked s) (IsMarked (step s e)) s e
    (λ a h. if_weaker (IsMarked s) becomes (move_marks s e) (fate s e.time e.event a) (fate_marks s e.time e.event a (leaves_marks s e f e.event refl) h))
    (if_weaker (IsMarked s) becomes (move_marks s e) (newcomer s e.time e.event) (newcomer_marks s e.time e.event)) all
