-- The step of the state at an entry: the event, then moves between list and shelf, then notes, then the times of both sides.
use Rattle.std.specs.Prelude.{◌≡◌, ℕ, ◌+◌, Bool, true, false, ◌&&◌, ◌||◌, Option, None, Some, List, map, if◌then◌else◌}
use Rattle.std.specs.List.{list_any}
use Rattle.std.specs.Option.{option_map, option_to_list}
use Rattle.al_base.specs.declared.severity.Status.{Status}
use Rattle.al_base.specs.declared.severity.Status.TheVariants.{Cleared, Active}
use Rattle.al_base.specs.declared.text.Text.{Text}
use Rattle.al_notify.specs.Logs.{LogView, logged}
use Rattle.al_notify.specs.Rules.{sends}
use Rattle.al_notify.specs.declared.note.NoteBody.{NoteBody}
use Rattle.al_notify.specs.declared.note.NoteBody.TheVariants as notes
use Rattle.al_model.specs.Alarms.{alarm_of, move_entry, says_more, status_of, with_operator}
use Rattle.al_model.specs.Events.{after_event, newcomer, set_by, touches}
use Rattle.al_model.specs.State.{AlarmState, State, is_listed, is_on, shelf_name}
use Rattle.al_model.specs.declared.entry.Entry.{Entry}
use Rattle.al_model.specs.declared.event.Event.{Event}
use Rattle.al_model.specs.declared.event.Event.TheVariants as events
use Rattle.al_model.specs.declared.event.Side.{Side}
use Rattle.al_model.specs.declared.event.Side.TheVariants as sides

-- ---- moves

-- An alarm whose first shelf has another name than before gets an entry.
abbrev pub moved : State → State → ℕ → AlarmState → AlarmState
moved before after time a = with_operator (move_entry time (shelf_name before a.key) (shelf_name after a.key)) a

abbrev pub with_moves : State → ℕ → State → State
with_moves before time after = record after { alarms = map (moved before after time) after.alarms }

-- ---- notes

-- whether a report changes the status of an alarm, or makes one
abbrev pub is_news : Option AlarmState → Status → Text → Bool
is_news None Cleared text = false
is_news None (Active severity) text = true
is_news (Some a) status text = says_more a status text

-- The note of a report on an alarm of the list, if the rule tells it, and that of an operator's action.
abbrev pub note_of : State → Event → Option NoteBody
note_of s (events.Report key status text) =
    let stands = alarm_of key s.alarms in
    if is_listed s key && is_news stands status text && sends s.rule (option_map status_of stands) status
    then Some (notes.Status key status text) else None
note_of s (events.Operate key state operator text) = Some (notes.Action key operator state text)
note_of s (events.SetMax max) = None
note_of s (events.SetNotify rule) = None
note_of s (events.PutShelf shelf at) = None
note_of s (events.DropShelf name) = None
note_of s (events.Purge side filter) = None
note_of s (events.Compress side filter) = None
note_of s (events.Install inventory) = None

-- the log after a note, if there is one: it has the next number
abbrev pub log_after : Option NoteBody → ℕ → LogView → LogView
log_after None time log = log
log_after (Some body) time log = logged (record { number = log.sent + 1; time = time; body = body }) log

abbrev pub with_note : Option NoteBody → ℕ → State → State
with_note note time s = record s { log = log_after note time s.log }

-- ---- the times of both sides

-- whether the event changes the alarms of a side: one that stands there before or after it, or a new one
abbrev pub touches_side : State → ℕ → Event → Side → Bool
touches_side s time event side =
    list_any (λ a. touches s time event a && (is_on s side a.key || is_on (set_by s event) side a.key)) s.alarms
    || list_any (λ a. is_on s side a.key) (option_to_list (newcomer s time event))

abbrev pub time_of_change : Bool → ℕ → Option ℕ → Option ℕ
time_of_change false time before = before
time_of_change true time before = Some time

abbrev pub with_times : State → ℕ → Event → State → State
with_times before time event after =
    record after {
      time = time;
      list_time = time_of_change (touches_side before time event sides.List) time after.list_time;
      shelf_time = time_of_change (touches_side before time event sides.Shelf) time after.shelf_time;
    }

-- ---- the step

-- the state after an entry
unfoldable pub step : State → Entry → State
step s e =
    with_times s e.time e.event
    (with_note (note_of s e.event) e.time (with_moves s e.time (after_event s e.time e.event)))

-- The same with its parts apart: all but the alarms, the alarms, the note, whether each side changes, and the time.
abbrev pub built : State → List AlarmState → Option NoteBody → Bool → Bool → ℕ → State
built s alarms note list shelf time =
    record s {
      alarms = alarms;
      log = log_after note time s.log;
      time = time;
      list_time = time_of_change list time s.list_time;
      shelf_time = time_of_change shelf time s.shelf_time;
    }

-- The states differ in their time, if at all.
abbrev pub IsSameButTime : State → State → Type 0
IsSameButTime before after = after ≡ record before { time = after.time }
