-- What an event does: to all but the alarms, to each alarm that stands, and the alarm that it makes.
use Rattle.std.specs.Prelude.{ℕ, nat_lt, Bool, false, ◌&&◌, Option, None, Some, is_some, length, if◌then◌else◌}
use Rattle.std.specs.List.{filter_map, insert}
use Rattle.al_base.specs.declared.severity.Status.TheVariants.{Cleared, Active}
use Rattle.al_select.specs.Filters.{purge_takes, compress_takes}
use Rattle.al_shelf.specs.Places.{without}
use Rattle.al_model.specs.Alarms.{alarm_of, bounded, facts_of, is_of, move_entry, new_alarm, reported, says_more, with_newcomer, with_operator}
use Rattle.al_model.specs.State.{AlarmState, State, is_on, shelf_name}
use Rattle.al_model.specs.declared.event.Event.{Event}
use Rattle.al_model.specs.declared.event.Event.TheVariants as events

-- all but the alarms
abbrev pub set_by : State → Event → State
set_by s (events.Report key status text) = s
set_by s (events.Operate key state operator text) = s
set_by s (events.SetMax max) = record s { max = max }
set_by s (events.SetNotify rule) = record s { rule = rule }
set_by s (events.PutShelf shelf at) = record s { shelves = insert (without shelf.name s.shelves) at shelf }
set_by s (events.DropShelf name) = record s { shelves = without name s.shelves }
set_by s (events.Purge side filter) = s
set_by s (events.Compress side filter) = s
set_by s (events.Install inventory) = record s { inventory = Some inventory }

-- what becomes of an alarm that stands at an event of this time, none where it goes
abbrev pub fate : State → ℕ → Event → AlarmState → Option AlarmState
fate s time (events.Report key status text) a =
    Some (if is_of key a && says_more a status text then reported s.max time status text a else a)
fate s time (events.Operate key state operator text) a =
    Some (if is_of key a then with_operator (Some (record { time = time; state = state; operator = operator; text = text })) a else a)
fate s time (events.SetMax max) a = Some (bounded max a)
fate s time (events.SetNotify rule) a = Some a
fate s time (events.PutShelf shelf at) a = Some a
fate s time (events.DropShelf name) a = Some a
fate s time (events.Purge side filter) a = if is_on s side a.key && purge_takes filter (facts_of a) time then None else Some a
fate s time (events.Compress side filter) a =
    Some (if is_on s side a.key && compress_takes filter a.key then bounded (Some 1) a else a)
fate s time (events.Install inventory) a = Some a

-- the alarm that the event makes, if it makes one
abbrev pub newcomer : State → ℕ → Event → Option AlarmState
newcomer s time (events.Report key (Active severity) text) =
    if is_some (alarm_of key s.alarms) then None else Some (new_alarm (shelf_name s key) time key severity text)
newcomer s time (events.Report key Cleared text) = None
newcomer s time (events.Operate key state operator text) = None
newcomer s time (events.SetMax max) = None
newcomer s time (events.SetNotify rule) = None
newcomer s time (events.PutShelf shelf at) = None
newcomer s time (events.DropShelf name) = None
newcomer s time (events.Purge side filter) = None
newcomer s time (events.Compress side filter) = None
newcomer s time (events.Install inventory) = None

-- the state after the event, before alarms move
abbrev pub after_event : State → ℕ → Event → State
after_event s time event = record (set_by s event) { alarms = with_newcomer (newcomer s time event) (filter_map (fate s time event) s.alarms) }

-- the move of the alarms of a key from one state to the next: its entry, if they move
abbrev pub moves : State → State → ℕ → AlarmState → Bool
moves before after time a = is_some (move_entry time (shelf_name before a.key) (shelf_name after a.key))

-- whether the event changes an alarm that stands, by a move too
abbrev pub touches : State → ℕ → Event → AlarmState → Bool
touches s time (events.Report key status text) a = is_of key a && says_more a status text
touches s time (events.Operate key state operator text) a = is_of key a
touches s time (events.SetMax None) a = false
touches s time (events.SetMax (Some max)) a = nat_lt max (length a.statuses)
touches s time (events.SetNotify rule) a = false
touches s time (events.PutShelf shelf at) a = moves s (set_by s (events.PutShelf shelf at)) time a
touches s time (events.DropShelf name) a = moves s (set_by s (events.DropShelf name)) time a
touches s time (events.Purge side filter) a = is_on s side a.key && purge_takes filter (facts_of a) time
touches s time (events.Compress side filter) a = is_on s side a.key && compress_takes filter a.key && nat_lt 1 (length a.statuses)
touches s time (events.Install inventory) a = moves s (set_by s (events.Install inventory)) time a
