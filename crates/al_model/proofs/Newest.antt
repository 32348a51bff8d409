-- The newest status entry of an alarm says what the alarm does.
use Rattle.std.proofs.Common.{ℕ, ◌≤◌, zero, suc, Option, None, Some, List, [], ◌∷◌, refl, arith}
use Rattle.std.specs.Bool.{⊤}
use Rattle.std.specs.List.{AllByRecursion}
use Rattle.std.specs.Option.{IfSome, is_some}
use Rattle.al_base.specs.declared.severity.Status.{Status}
use Rattle.al_base.specs.declared.severity.Status.TheVariants.{Cleared, Active}
use Rattle.al_base.specs.declared.text.Text.{Text}
use Rattle.al_model.specs.Alarms.{alarm_of, bounded, is_of, move_entry, new_alarm, reported, status_of, with_operator}
use Rattle.al_record.specs.Histories.{newest}
use Rattle.al_model.specs.Events.{after_event, fate, newcomer, set_by}
use Rattle.al_model.specs.History.{Fits}
use Rattle.al_model.specs.Limits.{IsEventWithin}
use Rattle.al_model.specs.State.{AlarmState, State, shelf_name}
use Rattle.al_model.specs.Step.{moved, step}
use Rattle.al_model.specs.Validity.{BeginsWith, IsNewest, KeepsOne}
use Rattle.al_model.specs.declared.entry.Entry.{Entry}
use Rattle.al_model.specs.declared.entry.OperatorEntry.{OperatorEntry}
use Rattle.al_model.specs.declared.entry.StatusEntry.{StatusEntry}
use Rattle.al_model.specs.declared.event.Event.{Event}
use Rattle.al_model.specs.declared.event.Event.TheVariants as events
use Rattle.al_model.proofs.Lifting.{each_after}
use Rattle.al_model.proofs.Tools.{either, if_weaker}

-- ---- one history

newest_keeps : (status : Status) (text : Text) (max : Option ℕ) (es : List StatusEntry) → KeepsOne max → BeginsWith status text es → BeginsWith status text (newest max es)
newest_keeps status text None es one h = h
newest_keeps status text (Some zero) es one h = absurd (omega arith)
newest_keeps status text (Some (suc n)) [] one h = absurd h
newest_keeps status text (Some (suc n)) (e ∷ rest) one h = h

operated_newest : (m : Option OperatorEntry) (a : AlarmState) → IsNewest a → IsNewest (with_operator m a)
operated_newest None a h = h
operated_newest (Some e) a h = h

reported_newest : (max : Option ℕ) (time : ℕ) (status : Status) (text : Text) (a : AlarmState) → KeepsOne max → IsNewest (reported max time status text a)
reported_newest max time (Active severity) text a one =
    newest_keeps (Active severity) text max ((record { time = time; status = Active severity; text = text }) ∷ a.statuses) one (refl, refl)
reported_newest max time Cleared text a one =
    newest_keeps Cleared text max ((record { time = time; status = Cleared; text = text }) ∷ a.statuses) one (refl, refl)

-- ---- each event

-- a maximum that is set keeps one at least
abbrev pub KeepsHistories : Event → Type 0
KeepsHistories (events.Report key status text) = ⊤
KeepsHistories (events.Operate key state operator text) = ⊤
KeepsHistories (events.SetMax max) = KeepsOne max
KeepsHistories (events.SetNotify rule) = ⊤
KeepsHistories (events.PutShelf shelf at) = ⊤
KeepsHistories (events.DropShelf name) = ⊤
KeepsHistories (events.Purge side filter) = ⊤
KeepsHistories (events.Compress side filter) = ⊤
KeepsHistories (events.Install inventory) = ⊤

one_kept : (max : Option ℕ) → IfSome max (λ most. (1 ≤ most) × (most ≤ 65535)) → KeepsOne max
one_kept None h = tt
one_kept (Some most) h = h.0

pub keeps_histories : (event : Event) → IsEventWithin event → KeepsHistories event
unfolding IsEventWithin
keeps_histories (events.Report key status text) within = tt
keeps_histories (events.Operate key state operator text) within = tt
keeps_histories (events.SetMax max) within = one_kept max within
keeps_histories (events.SetNotify rule) within = tt
keeps_histories (events.PutShelf shelf at) within = tt
keeps_histories (events.DropShelf name) within = tt
keeps_histories (events.Purge side filter) within = tt
keeps_histories (events.Compress side filter) within = tt
keeps_histories (events.Install inventory) within = tt

fate_newest : (s : State) (time : ℕ) (event : Event) (a : AlarmState) → KeepsHistories event → KeepsOne s.max → IsNewest a → IfSome (fate s time event a) IsNewest
fate_newest s time (events.Report key status text) a keeps one h =
    either IsNewest _ (reported s.max time status text a) a (λ _. reported_newest s.max time status text a one) (λ _. h)
fate_newest s time (events.Operate key state operator text) a keeps one h =
    either IsNewest (is_of key a) (with_operator (Some (record { time = time; state = state; operator = operator; text = text })) a) a (λ _. h) (λ _. h)
fate_newest s time (events.SetMax max) a keeps one h = newest_keeps (status_of a) a.text max a.statuses keeps h
fate_newest s time (events.SetNotify rule) a keeps one h = h
fate_newest s time (events.PutShelf shelf at) a keeps one h = h
fate_newest s time (events.DropShelf name) a keeps one h = h
fate_newest s time (events.Purge side filter) a keeps one h = either (λ o. IfSome o IsNewest) _ None (Some a) (λ _. tt) (λ _. h)
fate_newest s time (events.Compress side filter) a keeps one h =
    either IsNewest _ (bounded (Some 1) a) a (λ _. newest_keeps (status_of a) a.text (Some 1) a.statuses (omega arith) h) (λ _. h)
fate_newest s time (events.Install inventory) a keeps one h = h

newcomer_newest : (s : State) (time : ℕ) (event : Event) → IfSome (newcomer s time event) IsNewest
newcomer_newest s time (events.Report key (Active severity) text) =
    either (λ o. IfSome o IsNewest) (is_some (alarm_of key s.alarms)) None (Some (new_alarm (shelf_name s key) time key severity text)) (λ _. tt) (λ _. (refl, refl))
newcomer_newest s time (events.Report key Cleared text) = tt
newcomer_newest s time (events.Operate key state operator text) = tt
newcomer_newest s time (events.SetMax max) = tt
newcomer_newest s time (events.SetNotify rule) = tt
newcomer_newest s time (events.PutShelf shelf at) = tt
newcomer_newest s time (events.DropShelf name) = tt
newcomer_newest s time (events.Purge side filter) = tt
newcomer_newest s time (events.Compress side filter) = tt
newcomer_newest s time (events.Install inventory) = tt

-- ---- the step

max_kept : (s : State) (event : Event) → KeepsHistories event → KeepsOne s.max → KeepsOne (set_by s event).max
max_kept s (events.Report key status text) keeps h = h
max_kept s (events.Operate key state operator text) keeps h = h
max_kept s (events.SetMax max) keeps h = keeps
max_kept s (events.SetNotify rule) keeps h = h
max_kept s (events.PutShelf shelf at) keeps h = h
max_kept s (events.DropShelf name) keeps h = h
max_kept s (events.Purge side filter) keeps h = h
max_kept s (events.Compress side filter) keeps h = h
max_kept s (events.Install inventory) keeps h = h

pub step_max : (s : State) (e : Entry) → Fits s e → KeepsOne s.max → KeepsOne (step s e).max
unfolding step
step_max s e f h = max_kept s e.event (keeps_histories e.event f.within.event) h

pub step_newest : (s : State) (e : Entry) → Fits s e → KeepsOne s.max → AllByRecursion IsNewest s.alarms → AllByRecursion IsNewest (step s e).alarms
step_newest s e f one all =
    let after = after_event s e.time e.event in
    let becomes : AlarmState → Type 0 = λ b. IsNewest (moved s after e.time b) in
    let move : (b : AlarmState) → IsNewest b → becomes b = λ b h. operated_newest (move_entry e.time (shelf_name s b.key) (shelf_name after b.key)) b h in
    each_after IsNewest IsNewest s e
    (λ a h. if_weaker IsNewest becomes move (fate s e.time e.event a) (fate_newest s e.time e.event a (keeps_histories e.event f.within.event) one h))
    (if_weaker IsNewest becomes move (newcomer s e.time e.event) (newcomer_newest s e.time e.event)) all
