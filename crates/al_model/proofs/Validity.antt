-- Every legal history leaves a valid state.
use Rattle.std.proofs.Common.{◌≡◌, ℕ, ◌+◌, ◌<◌, ◌≤◌, Bool, true, false, Option, None, Some, List, [], ◌∷◌, refl, sym, ap, ◌∙◌, subst, arith}
use Rattle.std.specs.List.{AllByRecursion}
use Rattle.std.specs.Option.{IfSome}
use Rattle.al_base.specs.Limits.{last_stamp}
use Rattle.al_notify.proofs.Keeping.{logged_sound}
use Rattle.al_notify.specs.Logs.{IsLog, LogView}
use Rattle.al_notify.specs.declared.note.NoteBody.{NoteBody}
use Rattle.al_model.specs.Decision.{entry_of, entry_time, event_of, missing, undeclared, decision_of}
use Rattle.al_model.specs.Events.{set_by}
use Rattle.al_model.specs.History.{Fits, IsLegal, replay}
use Rattle.al_model.specs.Laws.{IsSame, MovesSideTime, side_time}
use Rattle.al_model.specs.State.{AlarmState, State, start}
use Rattle.al_model.specs.Step.{IsSameButTime, log_after, note_of, step, time_of_change, touches_side}
use Rattle.al_model.specs.Validity.{IsBounded, IsMarked, IsNewest, IsTimed, IsValid, IsValidAlarm}
use Rattle.al_model.specs.declared.entry.Entry.{Entry}
use Rattle.al_model.specs.declared.event.Event.{Event}
use Rattle.al_model.specs.declared.event.Event.TheVariants as events
use Rattle.al_model.specs.declared.event.Side.{Side}
use Rattle.al_model.specs.declared.event.Side.TheVariants as sides
use Rattle.al_model.specs.declared.request.Request.{Request}
use Rattle.al_model.proofs.Bounds.{step_bounded, step_few, step_shelves}
use Rattle.al_model.proofs.Lifting.{after_legal}
use Rattle.al_model.proofs.Marks.{step_marks}
use Rattle.al_model.proofs.Newest.{step_max, step_newest}
use Rattle.al_model.proofs.Order.{none_in_order, step_order}
use Rattle.al_model.proofs.Refusing.{same_unchanged, unchanged_same}
use Rattle.al_model.proofs.Sameness.{leaves_same, same_leaves}
use Rattle.al_model.proofs.SideTimes.{side_law}
use Rattle.al_model.proofs.Times.{step_timed}
use Rattle.al_model.proofs.Tools.{all_weaker}

-- ---- alarms

valid_alarms : (s : State) (alarms : List AlarmState) → AllByRecursion IsNewest alarms → AllByRecursion (IsTimed s.time) alarms → AllByRecursion (IsMarked s) alarms → AllByRecursion (IsBounded s.max) alarms → AllByRecursion (IsValidAlarm s) alarms
valid_alarms s [] n t m b = tt
valid_alarms s (a ∷ rest) n t m b = (record { newest = n.0; timed = t.0; marked = m.0; bounded = b.0 }, valid_alarms s rest n.1 t.1 m.1 b.1)

pub newest_alarms : (s : State) → IsValid s → AllByRecursion IsNewest s.alarms
newest_alarms s v = all_weaker (IsValidAlarm s) IsNewest (λ a h. h.newest) s.alarms v.alarms

pub timed_alarms : (s : State) → IsValid s → AllByRecursion (IsTimed s.time) s.alarms
timed_alarms s v = all_weaker (IsValidAlarm s) (IsTimed s.time) (λ a h. h.timed) s.alarms v.alarms

pub marked_alarms : (s : State) → IsValid s → AllByRecursion (IsMarked s) s.alarms
marked_alarms s v = all_weaker (IsValidAlarm s) (IsMarked s) (λ a h. h.marked) s.alarms v.alarms

pub bounded_alarms : (s : State) → IsValid s → AllByRecursion (IsBounded s.max) s.alarms
bounded_alarms s v = all_weaker (IsValidAlarm s) (IsBounded s.max) (λ a h. h.bounded) s.alarms v.alarms

-- no alarm has changed since
pub changed_before : (s : State) (time : ℕ) → IsValid s → s.time < time → AllByRecursion (λ a. a.changed < time) s.alarms
changed_before s time v lt = all_weaker (IsTimed s.time) (λ a. a.changed < time) (λ a h. (let le = h.changed in omega arith)) s.alarms (timed_alarms s v)

-- ---- log and times

log_sound : (note : Option NoteBody) (time : ℕ) (log : LogView) → IsLog log → IsLog (log_after note time log)
log_sound None time log h = h
log_sound (Some body) time log h = logged_sound log (record { number = log.sent + 1; time = time; body = body }) h refl

set_log : (s : State) (event : Event) → (set_by s event).log ≡ s.log
set_log s (events.Report key status text) = refl
set_log s (events.Operate key state operator text) = refl
set_log s (events.SetMax max) = refl
set_log s (events.SetNotify rule) = refl
set_log s (events.PutShelf shelf at) = refl
set_log s (events.DropShelf name) = refl
set_log s (events.Purge side filter) = refl
set_log s (events.Compress side filter) = refl
set_log s (events.Install inventory) = refl

set_times : (s : State) (event : Event) (side : Side) → side_time (set_by s event) side ≡ side_time s side
set_times s (events.Report key status text) side = refl
set_times s (events.Operate key state operator text) side = refl
set_times s (events.SetMax max) sides.List = refl
set_times s (events.SetMax max) sides.Shelf = refl
set_times s (events.SetNotify rule) sides.List = refl
set_times s (events.SetNotify rule) sides.Shelf = refl
set_times s (events.PutShelf shelf at) sides.List = refl
set_times s (events.PutShelf shelf at) sides.Shelf = refl
set_times s (events.DropShelf name) sides.List = refl
set_times s (events.DropShelf name) sides.Shelf = refl
set_times s (events.Purge purged filter) side = refl
set_times s (events.Compress compressed filter) side = refl
set_times s (events.Install inventory) sides.List = refl
set_times s (events.Install inventory) sides.Shelf = refl

within_time : (changed : Bool) (last time : ℕ) (before : Option ℕ) → last < time → IfSome before (λ t. t ≤ last) → IfSome (time_of_change changed time before) (λ t. t ≤ time)
within_time true last time before lt h = omega arith
within_time false last time None lt h = tt
within_time false last time (Some t) lt h = omega arith

step_log : (s : State) (e : Entry) → IsLog s.log → IsLog (step s e).log
unfolding step
step_log s e h = log_sound (note_of s e.event) e.time (set_by s e.event).log (subst IsLog (sym (set_log s e.event)) h)

-- the time of a side, after the step
time_after : (s : State) (e : Entry) (side : Side) → side_time (step s e) side ≡ time_of_change (touches_side s e.time e.event side) e.time (side_time s side)
unfolding step
time_after s e sides.List = ap (time_of_change (touches_side s e.time e.event sides.List) e.time) (set_times s e.event sides.List)
time_after s e sides.Shelf = ap (time_of_change (touches_side s e.time e.event sides.Shelf) e.time) (set_times s e.event sides.Shelf)

step_time : (s : State) (e : Entry) (side : Side) → s.time < e.time → IfSome (side_time s side) (λ t. t ≤ s.time) → IfSome (side_time (step s e) side) (λ t. t ≤ e.time)
step_time s e side lt h =
    subst (λ o. IfSome o (λ t. t ≤ e.time)) (sym (time_after s e side)) (within_time (touches_side s e.time e.event side) s.time e.time (side_time s side) lt h)

time_is : (s : State) (e : Entry) → (step s e).time ≡ e.time
unfolding step
time_is s e = refl

-- ---- every state

pub step_valid : (s : State) (e : Entry) → Fits s e → IsValid s → IsValid (step s e)
step_valid s e f v =
    record {
      alarms =
          valid_alarms (step s e) (step s e).alarms (step_newest s e f v.max (newest_alarms s v)) (step_timed s e f (timed_alarms s v))
          (step_marks s e f (marked_alarms s v)) (step_bounded s e v.max (bounded_alarms s v));
      order = step_order s e v.order;
      few = step_few s e f v.few;
      shelves = step_shelves s e f v.shelves;
      max = step_max s e f v.max;
      log = step_log s e v.log;
      time = subst (λ t. t ≤ last_stamp) (sym (time_is s e)) f.within.time;
      list_time = subst (λ now. IfSome (step s e).list_time (λ t. t ≤ now)) (sym (time_is s e)) (step_time s e sides.List f.later v.list_time);
      shelf_time = subst (λ now. IfSome (step s e).shelf_time (λ t. t ≤ now)) (sym (time_is s e)) (step_time s e sides.Shelf f.later v.shelf_time);
    }

start_valid : IsValid start
start_valid =
    record {
      alarms = tt;
      order = none_in_order;
      few = omega arith;
      shelves = record { few = omega arith; names = λ i j d lt within. absurd (omega arith) };
      max = omega arith;
      log = record { kept = refl; numbered = λ k note h. absurd (cc) };
      time = omega arith;
      list_time = tt;
      shelf_time = tt;
    }

pub legal_valid : (h : List Entry) → IsLegal h → IsValid (replay h)
legal_valid h legal = after_legal IsValid step_valid start h legal start_valid

-- ---- sides and sameness in a valid state

not_false_true : (b : Bool) → (b ≡ false → ⊥) → b ≡ true
not_false_true true h = refl
not_false_true false h = absurd (h refl)

pub moves_side : (s : State) (e : Entry) (side : Side) → IsValid s → Fits s e → MovesSideTime s e side
moves_side s e side v f =
    let law = side_law s e side v.order (changed_before s e.time v f.later) in
    record {
      stays = λ same. time_after s e side ∙ ap (λ b. time_of_change b e.time (side_time s side)) (law.1 same);
      moves = λ differ. time_after s e side
          ∙ ap (λ b. time_of_change b e.time (side_time s side)) (not_false_true (touches_side s e.time e.event side) (λ none. differ (law.0 none)));
    }

pub same_is : (s : State) (origin : ℕ) (request : Request) (now : ℕ) → missing s request ≡ None → undeclared s request ≡ None → IsSame (decision_of s request now) → IsSameButTime s (step s (entry_of s origin (event_of s request) now))
same_is s origin request now there known h = same_leaves s (entry_of s origin (event_of s request) now) (same_unchanged s request now there known h)

pub is_same : (s : State) (origin : ℕ) (request : Request) (now : ℕ) → IsValid s → missing s request ≡ None → undeclared s request ≡ None → IsSameButTime s (step s (entry_of s origin (event_of s request) now)) → IsSame (decision_of s request now)
is_same s origin request now v there known h =
    unchanged_same s request now there known
    (leaves_same s (entry_of s origin (event_of s request) now) (changed_before s (entry_time s now) v (omega arith)) h)
