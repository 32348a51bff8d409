-- What is to become of a request in a state.
use Rattle.std.specs.Prelude.{ℕ, ◌+◌, ◌==◌, max, nat_le, nat_lt, Bool, true, false, not, ◌&&◌, ◌||◌, Option, None, Some, is_none, is_some, length}
use Rattle.std.specs.List.{count_by, list_any}
use Rattle.std.specs.Option.{option_eq, option_or, unwrap_or}
use Rattle.al_base.specs.Limits.{last_stamp, most_alarms, most_shelves}
use Rattle.al_base.specs.declared.severity.Status.TheVariants.{Cleared, Active}
use Rattle.al_base.specs.declared.severity.Status.{Status}
use Rattle.al_shelf.specs.Places.{place_for, place_of}
use Rattle.al_types.specs.Inventories.{allows, row_of}
use Rattle.al_types.specs.declared.row.Row.{Row}
use Rattle.al_notify.specs.declared.rule.NotifyRule.{NotifyRule}
use Rattle.al_model.specs.Alarms.{alarm_of}
use Rattle.al_model.specs.Events.{newcomer, set_by, touches}
use Rattle.al_model.specs.Sames.{same_installed, same_rule, same_shelves}
use Rattle.al_model.specs.State.{State, inventory_of, is_listed}
use Rattle.al_model.specs.declared.decision.Decision.{Decision}
use Rattle.al_model.specs.declared.decision.Decision.TheVariants.{Refuse, Same, Change}
use Rattle.al_model.specs.declared.decision.Refusal.{Refusal}
use Rattle.al_model.specs.declared.decision.Refusal.TheVariants.{NoAlarm, NoShelf, NoPoint, ShelfExists, Installed, NotInInventory, SeverityNotInInventory, AlarmsFull, ShelvesFull, ClockEnd}
use Rattle.al_model.specs.declared.decision.Reply.{Reply}
use Rattle.al_model.specs.declared.decision.Reply.TheVariants.{Done, Made, Replaced, Count}
use Rattle.al_model.specs.declared.entry.Entry.{Entry}
use Rattle.al_model.specs.declared.event.Event.{Event}
use Rattle.al_model.specs.declared.event.Event.TheVariants as events
use Rattle.al_model.specs.declared.request.Request.{Request}
use Rattle.al_model.specs.declared.request.Request.TheVariants as requests

-- the time of the next entry: that of the clock, but later than the last entry
abbrev pub entry_time : State → ℕ → ℕ
entry_time s now = max now (s.time + 1)

-- the event of a request that changes one part of this rule, and whose shelf stands at this place
abbrev pub event_by : NotifyRule → ℕ → Request → Event
event_by rule place (requests.Report key status text) = events.Report key status text
event_by rule place (requests.Operate key state operator text) = events.Operate key state operator text
event_by rule place (requests.SetMax max) = events.SetMax max
event_by rule place (requests.SetMode mode) = events.SetNotify (record { mode = mode; level = rule.level })
event_by rule place (requests.SetLevel level) = events.SetNotify (record { mode = rule.mode; level = level })
event_by rule place (requests.CreateShelf shelf spot) = events.PutShelf shelf place
event_by rule place (requests.PutShelf shelf spot) = events.PutShelf shelf place
event_by rule place (requests.DropShelf name) = events.DropShelf name
event_by rule place (requests.Purge side filter) = events.Purge side filter
event_by rule place (requests.Compress side filter) = events.Compress side filter
event_by rule place (requests.Install inventory) = events.Install inventory

-- where the shelf of a request is to stand: the first place where the point of its spot isn't there
abbrev pub shelf_place : State → Request → ℕ
shelf_place s (requests.CreateShelf shelf spot) = unwrap_or (place_for spot shelf.name s.shelves) 0
shelf_place s (requests.PutShelf shelf spot) = unwrap_or (place_for spot shelf.name s.shelves) 0
shelf_place s other = 0

-- the event by which a request is carried out
abbrev pub event_of : State → Request → Event
event_of s request = event_by s.rule (shelf_place s request) request

-- the entry that an event makes at a reading of the clock
abbrev pub entry_of : State → ℕ → Event → ℕ → Entry
entry_of s origin event now = record { time = entry_time s now; origin = origin; event = event }

-- ---- first: does what the request is about exist?

abbrev pub unless : Bool → Refusal → Option Refusal
unless true refusal = None
unless false refusal = Some refusal

-- A shelf that is put needs its point, and one that is created a new name too.
abbrev pub missing : State → Request → Option Refusal
missing s (requests.Report key status text) = None
missing s (requests.Operate key state operator text) = unless (is_some (alarm_of key s.alarms) && is_listed s key) NoAlarm
missing s (requests.SetMax max) = None
missing s (requests.SetMode mode) = None
missing s (requests.SetLevel level) = None
missing s (requests.CreateShelf shelf spot) =
    option_or (unless (is_some (place_for spot shelf.name s.shelves)) NoPoint) (unless (is_none (place_of shelf.name s.shelves)) ShelfExists)
missing s (requests.PutShelf shelf spot) = unless (is_some (place_for spot shelf.name s.shelves)) NoPoint
missing s (requests.DropShelf name) = unless (is_some (place_of name s.shelves)) NoShelf
missing s (requests.Purge side filter) = None
missing s (requests.Compress side filter) = None
missing s (requests.Install inventory) = unless (is_none s.inventory) Installed

-- ---- second: may there be such an alarm?

-- whether a row allows a status: a clear always
abbrev pub allows_status : Option Row → Status → Bool
allows_status row Cleared = true
allows_status None (Active severity) = false
allows_status (Some row) (Active severity) = allows row severity

-- A report needs a row of its type and qualifier, which allows its severity.
abbrev pub undeclared : State → Request → Option Refusal
undeclared s (requests.Report key status text) =
    let row = row_of (inventory_of s) key.type_id key.qualifier in
    option_or (unless (is_some row) NotInInventory) (unless (allows_status row status) SeverityNotInInventory)
undeclared s (requests.Operate key state operator text) = None
undeclared s (requests.SetMax max) = None
undeclared s (requests.SetMode mode) = None
undeclared s (requests.SetLevel level) = None
undeclared s (requests.CreateShelf shelf spot) = None
undeclared s (requests.PutShelf shelf spot) = None
undeclared s (requests.DropShelf name) = None
undeclared s (requests.Purge side filter) = None
undeclared s (requests.Compress side filter) = None
undeclared s (requests.Install inventory) = None

-- ---- third: would it change anything?

-- whether anything but the alarms and the time gets another value: an operator's action always adds its note
abbrev pub sets : State → Event → Bool
sets s (events.Report key status text) = false
sets s (events.Operate key state operator text) = true
sets s (events.SetMax max) = not (option_eq ◌==◌ s.max max)
sets s (events.SetNotify rule) = not (same_rule s.rule rule)
sets s (events.PutShelf shelf at) = not (same_shelves s.shelves (set_by s (events.PutShelf shelf at)).shelves)
sets s (events.DropShelf name) = not (same_shelves s.shelves (set_by s (events.DropShelf name)).shelves)
sets s (events.Purge side filter) = false
sets s (events.Compress side filter) = false
sets s (events.Install inventory) = not (same_installed s.inventory (Some inventory))

-- whether an event at the time changes more than the time
abbrev pub changes : State → ℕ → Event → Bool
changes s time event = sets s event || list_any (touches s time event) s.alarms || is_some (newcomer s time event)

-- ---- fourth: is there room for it?

abbrev pub full : State → ℕ → Event → Option Refusal
full s time event =
    option_or (unless (is_none (newcomer s time event) || nat_lt (length s.alarms) most_alarms) AlarmsFull)
    (option_or (unless (nat_le (length (set_by s event).shelves) most_shelves) ShelvesFull) (unless (not (s.time == last_stamp)) ClockEnd))

-- ---- fifth: the change

abbrev pub made_or_replaced : Option ℕ → Reply
made_or_replaced None = Made
made_or_replaced (Some place) = Replaced

-- what is answered where it is carried out at the time: for a purge how many alarms go, for a compression how many lose an entry
abbrev pub reply_of : State → ℕ → Request → Reply
reply_of s time (requests.Report key status text) = Done
reply_of s time (requests.Operate key state operator text) = Done
reply_of s time (requests.SetMax max) = Done
reply_of s time (requests.SetMode mode) = Done
reply_of s time (requests.SetLevel level) = Done
reply_of s time (requests.CreateShelf shelf spot) = Made
reply_of s time (requests.PutShelf shelf spot) = made_or_replaced (place_of shelf.name s.shelves)
reply_of s time (requests.DropShelf name) = Done
reply_of s time (requests.Purge side filter) = Count (count_by (touches s time (events.Purge side filter)) s.alarms)
reply_of s time (requests.Compress side filter) = Count (count_by (touches s time (events.Compress side filter)) s.alarms)
reply_of s time (requests.Install inventory) = Done

-- The order of the five: refused for what it is about, the same, refused for want of room, and else a change.
abbrev pub decided : Option Refusal → Bool → Option Refusal → Event → Reply → Decision
decided (Some refusal) changing room event reply = Refuse refusal
decided None false room event reply = Same reply
decided None true (Some refusal) event reply = Refuse refusal
decided None true None event reply = Change event reply

-- the decision on a request at a reading of the clock
unfoldable pub decision_of : State → Request → ℕ → Decision
decision_of s request now =
    let time = entry_time s now in
    let event = event_of s request in
    decided (option_or (missing s request) (undeclared s request)) (changes s time event) (full s time event) event (reply_of s time request)
