-- What becomes of one alarm.
use Rattle.std.specs.Prelude.{ℕ, ◌==◌, Bool, true, false, not, ◌||◌, Option, None, Some, List, [], ◌∷◌, ◌++◌, take, if◌then◌else◌, filter, find}
use Rattle.std.specs.Option.{option_to_list}
use Rattle.std.specs.Ordering.{is_lt, is_eq, is_gt}
use Rattle.al_base.specs.Limits.{most_operator_entries, own_name}
use Rattle.al_base.specs.Names.{rank_of}
use Rattle.al_base.specs.declared.operator.OperatorState.TheVariants.{Shelved, UnShelved}
use Rattle.al_base.specs.declared.operator.OperatorState.{OperatorState}
use Rattle.al_base.specs.declared.severity.Severity.{Severity}
use Rattle.al_base.specs.declared.severity.Status.{Status}
use Rattle.al_base.specs.declared.severity.Status.TheVariants.{Cleared, Active}
use Rattle.al_base.specs.declared.text.Text.{Text}
use Rattle.al_ids.specs.Keys.{key_cmp}
use Rattle.al_ids.specs.declared.key.AlarmKey.{AlarmKey}
use Rattle.al_select.specs.Filters.{Facts}
use Rattle.al_base.specs.Texts.{same_text}
use Rattle.al_model.specs.State.{AlarmState}
use Rattle.al_model.specs.declared.entry.OperatorEntry.{OperatorEntry}
use Rattle.al_record.specs.Histories.{newest}

-- ---- an alarm among others

abbrev pub is_of : AlarmKey → AlarmState → Bool
is_of key a = is_eq (key_cmp a.key key)

-- the alarm of a key, if there is one
abbrev pub alarm_of : AlarmKey → List AlarmState → Option AlarmState
alarm_of key alarms = find (is_of key) alarms

-- the alarms with a new one at its place in the order of keys
abbrev pub with_newcomer : Option AlarmState → List AlarmState → List AlarmState
with_newcomer None alarms = alarms
with_newcomer (Some new) alarms = filter (λ a. is_lt (key_cmp a.key new.key)) alarms ++ new ∷ filter (λ a. is_gt (key_cmp a.key new.key)) alarms

-- ---- what an alarm says

abbrev pub status_of : AlarmState → Status
status_of a = if a.cleared then Cleared else Active a.severity

-- the state and the operator of the newest operator entry
abbrev pub newest_of : List OperatorEntry → Option (OperatorState × Text)
newest_of [] = None
newest_of (e ∷ rest) = Some (e.state, e.operator)

-- what a purge asks of it
abbrev pub facts_of : AlarmState → Facts
facts_of a = record { cleared = a.cleared; severity = a.severity; changed = a.changed; newest = newest_of a.operators }

-- ---- status changes

-- A report says more than what stands where it raises a cleared alarm, has another severity or text, or clears an alarm that isn't.
abbrev pub says_more : AlarmState → Status → Text → Bool
says_more a (Active severity) text = a.cleared || not (rank_of severity == rank_of a.severity) || not (same_text text a.text)
says_more a Cleared text = not a.cleared

-- the alarm with another status entry, of which it keeps the newest
abbrev pub with_status : Option ℕ → ℕ → Status → Text → AlarmState → AlarmState
with_status max time status text a =
    record a { changed = time; text = text; statuses = newest max ((record { time = time; status = status; text = text }) ∷ a.statuses) }

-- the alarm after a report that says more: a raise sets the severity and ends a clearance, a clear leaves the severity
abbrev pub reported : Option ℕ → ℕ → Status → Text → AlarmState → AlarmState
reported max time (Active severity) text a =
    with_status max time (Active severity) text (record a { raised = if a.cleared then time else a.raised; cleared = false; severity = severity })
reported max time Cleared text a = with_status max time Cleared text (record a { cleared = true })

-- the alarm with its newest status entries alone
abbrev pub bounded : Option ℕ → AlarmState → AlarmState
bounded max a = record a { statuses = newest max a.statuses }

-- ---- operator entries

-- the alarm with another operator entry, if there is one, of which it keeps the 64 newest
abbrev pub with_operator : Option OperatorEntry → AlarmState → AlarmState
with_operator None a = a
with_operator (Some e) a = record a { changed = e.time; operators = take most_operator_entries (e ∷ a.operators) }

-- an entry of the server's own, with the name of a shelf
abbrev pub own_entry : ℕ → OperatorState → Text → OperatorEntry
own_entry time state name = record { time = time; state = state; operator = own_name; text = Some name }

-- The entry that an alarm gets by a move from a first shelf to another, or to and from the list, which is none here. A move from
-- shelf to shelf is a shelving.
abbrev pub move_entry : ℕ → Option Text → Option Text → Option OperatorEntry
move_entry time None None = None
move_entry time None (Some new) = Some (own_entry time Shelved new)
move_entry time (Some old) None = Some (own_entry time UnShelved old)
move_entry time (Some old) (Some new) = if same_text old new then None else Some (own_entry time Shelved new)

-- ---- new alarms

-- the alarm that a report makes, on the shelf of this name or on the list
abbrev pub new_alarm : Option Text → ℕ → AlarmKey → Severity → Text → AlarmState
new_alarm shelf time key severity text =
    record {
      key = key;
      created = time;
      raised = time;
      changed = time;
      cleared = false;
      severity = severity;
      text = text;
      statuses = (record { time = time; status = Active severity; text = text }) ∷ [];
      operators = option_to_list (move_entry time None shelf);
    }
