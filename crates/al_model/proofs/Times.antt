-- Times fall within histories, and none is after the last entry's.
use Rattle.std.proofs.Common.{◌≡◌, ℕ, ◌+◌, ◌<◌, ◌≤◌, zero, suc, true, false, cond, Option, None, Some, List, [], ◌∷◌, take, refl, subst, arith}
use Rattle.std.specs.List.{AllByRecursion}
use Rattle.std.specs.Option.{IfSome, is_some}
use Rattle.al_base.specs.declared.severity.Severity.{Severity}
use Rattle.al_base.specs.declared.severity.Status.{Status}
use Rattle.al_base.specs.declared.severity.Status.TheVariants.{Cleared, Active}
use Rattle.al_base.specs.declared.text.Text.{Text}
use Rattle.al_base.specs.declared.operator.OperatorState.TheVariants.{Shelved, UnShelved}
use Rattle.al_ids.specs.declared.key.AlarmKey.{AlarmKey}
use Rattle.al_base.specs.Texts.{same_text}
use Rattle.al_model.specs.Alarms.{alarm_of, bounded, is_of, move_entry, new_alarm, own_entry, reported, with_operator, with_status}
use Rattle.al_record.specs.Histories.{newest}
use Rattle.al_model.specs.Events.{after_event, fate, newcomer, set_by}
use Rattle.al_model.specs.History.{Fits}
use Rattle.al_model.specs.State.{AlarmState, State, shelf_name}
use Rattle.al_model.specs.Step.{moved, step}
use Rattle.al_model.specs.Validity.{AreFalling, IsTimed}
use Rattle.al_model.specs.declared.entry.Entry.{Entry}
use Rattle.al_model.specs.declared.entry.OperatorEntry.{OperatorEntry}
use Rattle.al_model.specs.declared.event.Event.{Event}
use Rattle.al_model.specs.declared.event.Event.TheVariants as events
use Rattle.al_model.proofs.Lifting.{each_after}
use Rattle.al_model.proofs.Moves.{unmoved}
use Rattle.al_model.proofs.Tools.{either}

-- ---- falling times

falling_later : {E : Type 0} (time : E → ℕ) (bound later : ℕ) (es : List E) → bound ≤ later → AreFalling time bound es → AreFalling time later es
falling_later time bound later [] le h = tt
falling_later time bound later (e ∷ rest) le h = let lt = h.0 in (omega arith, h.1)

falling_take : {E : Type 0} (time : E → ℕ) (bound n : ℕ) (es : List E) → AreFalling time bound es → AreFalling time bound (take n es)
falling_take time bound zero es h = tt
falling_take time bound (suc n) [] h = tt
falling_take time bound (suc n) (e ∷ rest) h = (h.0, falling_take time (time e) n rest h.1)

falling_newest : {E : Type 0} (time : E → ℕ) (bound : ℕ) (max : Option ℕ) (es : List E) → AreFalling time bound es → AreFalling time bound (newest max es)
falling_newest time bound None es h = h
falling_newest time bound (Some n) es h = falling_take time bound n es h

-- one more entry at a later time
falling_cons : {E : Type 0} (time : E → ℕ) (last : ℕ) (e : E) (es : List E) → last < time e → AreFalling time (last + 1) es → AreFalling time (time e + 1) (e ∷ es)
falling_cons time last e es lt h = (omega arith, falling_later time (last + 1) (time e) es (omega arith) h)

-- ---- one alarm

-- an alarm that nothing happens to
pub timed_later : (last time : ℕ) (a : AlarmState) → last < time → IsTimed last a → IsTimed time a
timed_later last time a lt h =
    let changed = h.changed in
    record {
      created = h.created;
      raised = h.raised;
      changed = omega arith;
      statuses = falling_later (λ e. e.time) (last + 1) (time + 1) a.statuses (omega arith) h.statuses;
      operators = falling_later (λ e. e.time) (last + 1) (time + 1) a.operators (omega arith) h.operators;
    }

timed_status : (last time : ℕ) (max : Option ℕ) (status : Status) (text : Text) (a : AlarmState) → last < time → a.created ≤ a.raised → a.raised ≤ time → AreFalling (λ e. e.time) (last + 1) a.statuses → AreFalling (λ e. e.time) (last + 1) a.operators → IsTimed time (with_status max time status text a)
timed_status last time max status text a lt created raised statuses operators =
    record {
      created = created;
      raised = raised;
      changed = omega arith;
      statuses =
          falling_newest (λ e. e.time) (time + 1) max ((record { time = time; status = status; text = text }) ∷ a.statuses)
          (falling_cons (λ e. e.time) last (record { time = time; status = status; text = text }) a.statuses lt statuses);
      operators = falling_later (λ e. e.time) (last + 1) (time + 1) a.operators (omega arith) operators;
    }

timed_reported : (last time : ℕ) (max : Option ℕ) (status : Status) (text : Text) (a : AlarmState) → last < time → IsTimed last a → IsTimed time (reported max time status text a)
timed_reported last time max (Active severity) text a lt h =
    let raised : ℕ = cond a.cleared time a.raised in
    let before : AlarmState = record a { raised = raised; cleared = false; severity = severity } in
    let t1 = h.created in
    let t2 = h.raised in
    let t3 = h.changed in
    timed_status last time max (Active severity) text before lt
    (either (λ r. a.created ≤ r) a.cleared time a.raised (λ _. omega arith) (λ _. t1))
    (either (λ r. r ≤ time) a.cleared time a.raised (λ _. omega arith) (λ _. omega arith)) h.statuses h.operators
timed_reported last time max Cleared text a lt h =
    let t2 = h.raised in
    let t3 = h.changed in
    timed_status last time max Cleared text (record a { cleared = true }) lt h.created (omega arith) h.statuses h.operators

timed_operator : (last time : ℕ) (m : OperatorEntry) (a : AlarmState) → last < time → m.time ≡ time → IsTimed last a → IsTimed time (with_operator (Some m) a)
timed_operator last time m a lt is h =
    let t2 = h.raised in
    let t3 = h.changed in
    record {
      created = h.created;
      raised = omega arith;
      changed = omega arith;
      statuses = falling_later (λ e. e.time) (last + 1) (time + 1) a.statuses (omega arith) h.statuses;
      operators =
          falling_take (λ e. e.time) (time + 1) 64 (m ∷ a.operators)
          (subst (λ t. AreFalling (λ e. e.time) (t + 1) (m ∷ a.operators)) is (falling_cons (λ e. e.time) last m a.operators (omega arith) h.operators));
    }

timed_bounded : (last : ℕ) (max : Option ℕ) (a : AlarmState) → IsTimed last a → IsTimed last (bounded max a)
timed_bounded last max a h =
    record {
      created = h.created;
      raised = h.raised;
      changed = h.changed;
      statuses = falling_newest (λ e. e.time) (last + 1) max a.statuses h.statuses;
      operators = h.operators;
    }

-- a move is the only thing that happens to an alarm that moves
timed_moved : (last time : ℕ) (before after : Option Text) (a : AlarmState) → last < time → IsTimed last a → IsTimed time (with_operator (move_entry time before after) a)
timed_moved last time None None a lt h = timed_later last time a lt h
timed_moved last time None (Some new) a lt h = timed_operator last time (own_entry time Shelved new) a lt refl h
timed_moved last time (Some old) None a lt h = timed_operator last time (own_entry time UnShelved old) a lt refl h
timed_moved last time (Some old) (Some new) a lt h =
    either (λ m. IsTimed time (with_operator m a)) (same_text old new) None (Some (own_entry time Shelved new)) (λ _. timed_later last time a lt h)
    (λ _. timed_operator last time (own_entry time Shelved new) a lt refl h)

-- ---- what becomes of each, and a new one

timed_fate : (s : State) (time : ℕ) (event : Event) (a : AlarmState) → s.time < time → IsTimed s.time a → IfSome (fate s time event a) (λ b. IsTimed time (moved s (after_event s time event) time b))
timed_fate s time (events.Report key status text) a lt h =
    let after = after_event s time (events.Report key status text) in
    either (λ b. IsTimed time (moved s after time b)) _ (reported s.max time status text a) a
    (λ _. unmoved (IsTimed time) s after time (reported s.max time status text a) refl (timed_reported s.time time s.max status text a lt h))
    (λ _. unmoved (IsTimed time) s after time a refl (timed_later s.time time a lt h))
timed_fate s time (events.Operate key state operator text) a lt h =
    let after = after_event s time (events.Operate key state operator text) in
    let m : OperatorEntry = record { time = time; state = state; operator = operator; text = text } in
    either (λ b. IsTimed time (moved s after time b)) (is_of key a) (with_operator (Some m) a) a
    (λ _. unmoved (IsTimed time) s after time (with_operator (Some m) a) refl (timed_operator s.time time m a lt refl h))
    (λ _. unmoved (IsTimed time) s after time a refl (timed_later s.time time a lt h))
timed_fate s time (events.SetMax max) a lt h =
    unmoved (IsTimed time) s (after_event s time (events.SetMax max)) time (bounded max a) refl (timed_bounded time max a (timed_later s.time time a lt h))
timed_fate s time (events.SetNotify rule) a lt h =
    unmoved (IsTimed time) s (after_event s time (events.SetNotify rule)) time a refl (timed_later s.time time a lt h)
timed_fate s time (events.PutShelf shelf at) a lt h =
    timed_moved s.time time (shelf_name s a.key) (shelf_name (set_by s (events.PutShelf shelf at)) a.key) a lt h
timed_fate s time (events.DropShelf name) a lt h =
    timed_moved s.time time (shelf_name s a.key) (shelf_name (set_by s (events.DropShelf name)) a.key) a lt h
timed_fate s time (events.Purge side filter) a lt h =
    let after = after_event s time (events.Purge side filter) in
    either (λ o. IfSome o (λ b. IsTimed time (moved s after time b))) _ None (Some a) (λ _. tt)
    (λ _. unmoved (IsTimed time) s after time a refl (timed_later s.time time a lt h))
timed_fate s time (events.Compress side filter) a lt h =
    let after = after_event s time (events.Compress side filter) in
    either (λ b. IsTimed time (moved s after time b)) _ (bounded (Some 1) a) a
    (λ _. unmoved (IsTimed time) s after time (bounded (Some 1) a) refl (timed_bounded time (Some 1) a (timed_later s.time time a lt h)))
    (λ _. unmoved (IsTimed time) s after time a refl (timed_later s.time time a lt h))
timed_fate s time (events.Install inventory) a lt h =
    timed_moved s.time time (shelf_name s a.key) (shelf_name (set_by s (events.Install inventory)) a.key) a lt h

timed_new : (name : Option Text) (time : ℕ) (key : AlarmKey) (severity : Severity) (text : Text) → IsTimed time (new_alarm name time key severity text)
timed_new None time key severity text = record { created = omega arith; raised = omega arith; changed = omega arith; statuses = (omega arith, tt); operators = tt }
timed_new (Some name) time key severity text =
    record { created = omega arith; raised = omega arith; changed = omega arith; statuses = (omega arith, tt); operators = (omega arith, tt) }

timed_newcomer : (s : State) (time : ℕ) (event : Event) → IfSome (newcomer s time event) (λ b. IsTimed time (moved s (after_event s time event) time b))
timed_newcomer s time (events.Report key (Active severity) text) =
    let after = after_event s time (events.Report key (Active severity) text) in
    let new = new_alarm (shelf_name s key) time key severity text in
    either (λ o. IfSome o (λ b. IsTimed time (moved s after time b))) (is_some (alarm_of key s.alarms)) None (Some new) (λ _. tt)
    (λ _. unmoved (IsTimed time) s after time new refl (timed_new (shelf_name s key) time key severity text))
timed_newcomer s time (events.Report key Cleared text) = tt
timed_newcomer s time (events.Operate key state operator text) = tt
timed_newcomer s time (events.SetMax max) = tt
timed_newcomer s time (events.SetNotify rule) = tt
timed_newcomer s time (events.PutShelf shelf at) = tt
timed_newcomer s time (events.DropShelf name) = tt
timed_newcomer s time (events.Purge side filter) = tt
timed_newcomer s time (events.Compress side filter) = tt
timed_newcomer s time (events.Install inventory) = tt

pub step_timed : (s : State) (e : Entry) → Fits s e → AllByRecursion (IsTimed s.time) s.alarms → AllByRecursion (IsTimed (step s e).time) (step s e).alarms
unfolding step
step_timed s e f all =
    each_after (IsTimed s.time) (IsTimed e.time) s e (λ a h. timed_fate s e.time e.event a f.later h) (timed_newcomer s e.time e.event) all
