-- Where the alarm of a key stands among all.
use Rattle.std.specs.Prelude.{◌≡◌, ℕ, ◌≤◌, List, length, None, Some, Result, Ok, Err, slice_get, insert}
use Rattle.al_ids.specs.declared.key.AlarmKey.{AlarmKey}
use Rattle.al_model.specs.Alarms.{alarm_of, with_newcomer}
use Rattle.al_model.specs.State.{AlarmState}

-- The alarm of the key stands at the place.
pub record IsKnownAt (key : AlarmKey) (alarms : List AlarmState) (place : ℕ) : Type 0 where
  pub alarm : AlarmState
  pub stands : slice_get alarms place ≡ Some alarm
  pub key_is : alarm.key ≡ key
  pub found : alarm_of key alarms ≡ Some alarm

-- The key has no alarm; a new one of it is put in at the place.
pub record IsAbsentAt (key : AlarmKey) (alarms : List AlarmState) (place : ℕ) : Type 0 where
  pub within : place ≤ length alarms
  pub none : alarm_of key alarms ≡ None
  pub put_there : (a : AlarmState) → a.key ≡ key → with_newcomer (Some a) alarms ≡ insert alarms place a

-- where the alarm of the key stands, or else where one is put in
abbrev pub IsPositionOf : AlarmKey → List AlarmState → Result ℕ ℕ → Type 0
IsPositionOf key alarms (Ok place) = IsKnownAt key alarms place
IsPositionOf key alarms (Err place) = IsAbsentAt key alarms place
