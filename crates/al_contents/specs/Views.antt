-- What alarms of the tables show.
use Rattle.std.specs.Prelude.{ℕ, nat_lt, Bool, false, not, ◌&&◌, if◌then◌else◌, Option, None, Some, List, [], ◌∷◌, is_some, length, map}
use Rattle.std.specs.Option.{option_to_list}
use Rattle.al_base.specs.declared.operator.OperatorState.{OperatorState}
use Rattle.al_base.specs.declared.operator.OperatorState.TheVariants.{None0, Ack, Closed, Shelved, UnShelved}
use Rattle.al_base.specs.declared.severity.Severity.{Severity}
use Rattle.al_base.specs.declared.severity.Status.TheVariants.{Active}
use Rattle.al_base.specs.declared.text.Text.{Text}
use Rattle.al_ids.specs.declared.key.AlarmKey.{AlarmKey}
use Rattle.al_select.specs.Filters.{compress_takes, purge_takes}
use Rattle.al_select.specs.declared.compress.CompressFilter.{CompressFilter}
use Rattle.al_select.specs.declared.purge.PurgeFilter.{PurgeFilter}
use Rattle.al_model.specs.Alarms.{bounded, facts_of}
use Rattle.al_model.specs.State.{AlarmState}
use Rattle.al_model.specs.declared.entry.OperatorEntry.{OperatorEntry}
use Rattle.al_model.specs.declared.event.Side.{Side}
use Rattle.al_model.specs.declared.event.Side.TheVariants as sides

-- An alarm, how many status entries it keeps, and for how many more entries of each history memory is at hand.
pub record AlarmView : Type 0 where
  pub state : AlarmState
  pub max : Option ℕ
  pub status_room : ℕ
  pub operator_room : ℕ

-- the alarm with another number of status entries that it keeps: memory for them that was at hand is no longer
abbrev pub with_max : Option ℕ → AlarmView → AlarmView
with_max max view = record { state = bounded max view.state; max = max; status_room = 0; operator_room = view.operator_room }

abbrev pub states : List AlarmView → List AlarmState
states views = map (λ view. view.state) views

-- the text of an operator entry that shelves an alarm
abbrev pub marked : OperatorState → Option Text → Option Text
marked None0 text = None
marked Ack text = None
marked Closed text = None
marked Shelved text = text
marked UnShelved text = None

-- the name of the shelf that the newest operator entry puts an alarm on, if it does
abbrev pub mark_of : List OperatorEntry → Option Text
mark_of [] = None
mark_of (e ∷ rest) = marked e.state e.text

-- whether the alarm's newest operator entry puts it on a shelf, or leaves it on the list
abbrev pub is_marked : AlarmState → Bool
is_marked a = is_some (mark_of a.operators)

abbrev pub is_unmarked : AlarmState → Bool
is_unmarked a = not (is_marked a)

-- ---- purges and compressions

-- whether the alarm is on the side, by its newest operator entry
abbrev pub is_at : Side → AlarmState → Bool
is_at sides.List a = is_unmarked a
is_at sides.Shelf a = is_marked a

-- whether a purge of the side at the time takes it
abbrev pub goes : Side → PurgeFilter → ℕ → AlarmState → Bool
goes side filter time a = is_at side a && purge_takes filter (facts_of a) time

-- the alarm after a compression of the side: its newest status entry alone, if it is taken
abbrev pub compressed : Side → CompressFilter → AlarmState → AlarmState
compressed side filter a = if is_at side a && compress_takes filter a.key then bounded (Some 1) a else a

abbrev pub compressed_view : Side → CompressFilter → AlarmView → AlarmView
compressed_view side filter view = record view { state = compressed side filter view.state }

-- whether that lets go an entry
abbrev pub loses : Side → CompressFilter → AlarmState → Bool
loses side filter a = is_at side a && compress_takes filter a.key && nat_lt 1 (length a.statuses)

-- ---- parts

-- the alarm that a report makes at the time, with the operator entry that shelves it, if one does
abbrev pub first_state : ℕ → AlarmKey → Severity → Text → Option OperatorEntry → AlarmState
first_state time key severity text shelving =
    record {
      key = key;
      created = time;
      raised = time;
      changed = time;
      cleared = false;
      severity = severity;
      text = text;
      statuses = (record { time = time; status = Active severity; text = text }) ∷ [];
      operators = option_to_list shelving;
    }

-- the state and the operator of an operator entry
abbrev pub newest_said : Option OperatorEntry → Option (OperatorState × Text)
newest_said None = None
newest_said (Some e) = Some (e.state, e.operator)
