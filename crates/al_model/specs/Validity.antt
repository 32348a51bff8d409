-- What holds of the state after every legal history.
use Rattle.std.specs.Prelude.{◌≡◌, ℕ, ◌+◌, ◌<◌, ◌≤◌, ⊤, Option, None, Some, IfSome, List, [], ◌∷◌, length}
use Rattle.std.specs.List.{AllByRecursion}
use Rattle.std.specs.List.Sorted.{IsStrictlySortedBy}
use Rattle.std.specs.Option.{option_map}
use Rattle.al_base.specs.Limits.{last_stamp, most_alarms, most_operator_entries}
use Rattle.al_base.specs.declared.operator.OperatorState.{OperatorState}
use Rattle.al_base.specs.declared.operator.OperatorState.TheVariants.{None0, Ack, Closed, Shelved, UnShelved}
use Rattle.al_base.specs.declared.severity.Status.{Status}
use Rattle.al_base.specs.declared.text.Text.{Text}
use Rattle.al_ids.specs.Keys.{key_cmp}
use Rattle.al_notify.specs.Logs.{IsLog}
use Rattle.al_shelf.specs.Places.{AreShelves}
use Rattle.al_model.specs.Alarms.{status_of}
use Rattle.al_model.specs.State.{AlarmState, State, shelf_name}
use Rattle.al_model.specs.declared.entry.OperatorEntry.{OperatorEntry}
use Rattle.al_model.specs.declared.entry.StatusEntry.{StatusEntry}

-- ---- the newest status entry

-- There is one, of this status and text.
abbrev pub BeginsWith : Status → Text → List StatusEntry → Type 0
BeginsWith status text [] = ⊥
BeginsWith status text (e ∷ rest) = (e.status ≡ status) × (e.text ≡ text)

-- The newest status entry says what the alarm does.
abbrev pub IsNewest : AlarmState → Type 0
IsNewest a = BeginsWith (status_of a) a.text a.statuses

-- ---- times

-- Each time is below the one before, and the first below the bound.
abbrev pub AreFalling : {E : Type 0} → (E → ℕ) → ℕ → List E → Type 0
AreFalling time bound [] = ⊤
AreFalling time bound (e ∷ rest) = (time e < bound) × AreFalling time (time e) rest

-- The times of the alarm are in order and not after this one, and within each history they fall strictly.
pub record IsTimed (last : ℕ) (a : AlarmState) : Type 0 where
  pub created : a.created ≤ a.raised
  pub raised : a.raised ≤ a.changed
  pub changed : a.changed ≤ last
  pub statuses : AreFalling (λ e. e.time) (last + 1) a.statuses
  pub operators : AreFalling (λ e. e.time) (last + 1) a.operators

-- ---- the shelf

-- the text of an operator entry that shelves an alarm
abbrev pub shelving : OperatorState → Option Text → Option (Option Text)
shelving None0 text = None
shelving Ack text = None
shelving Closed text = None
shelving Shelved text = Some text
shelving UnShelved text = None

-- that of the newest one, if it shelves the alarm
abbrev pub shelved_by : List OperatorEntry → Option (Option Text)
shelved_by [] = None
shelved_by (e ∷ rest) = shelving e.state e.text

-- The newest operator entry shelves the alarm exactly where a shelf takes it, and has the name of the first one that does.
abbrev pub IsMarked : State → AlarmState → Type 0
IsMarked s a = shelved_by a.operators ≡ option_map Some (shelf_name s a.key)

-- ---- bounds

-- The alarm has no more status entries than the maximum allows, and at most 64 operator entries.
pub record IsBounded (max : Option ℕ) (a : AlarmState) : Type 0 where
  pub statuses : IfSome max (λ most. length a.statuses ≤ most)
  pub operators : length a.operators ≤ most_operator_entries

-- ---- the state

-- Each alarm's key is below those of all after it, so that they are distinct.
abbrev pub IsInOrder : List AlarmState → Type 0
IsInOrder = IsStrictlySortedBy (λ a b. key_cmp a.key b.key)

-- a maximum of status entries keeps one at least
abbrev pub KeepsOne : Option ℕ → Type 0
KeepsOne max = IfSome max (λ most. 1 ≤ most)

-- What holds of each alarm of the state, and of the state itself.
pub record IsValidAlarm (s : State) (a : AlarmState) : Type 0 where
  pub newest : IsNewest a
  pub timed : IsTimed s.time a
  pub marked : IsMarked s a
  pub bounded : IsBounded s.max a

pub record IsValid (s : State) : Type 0 where
  pub alarms : AllByRecursion (IsValidAlarm s) s.alarms
  pub order : IsInOrder s.alarms
  pub few : length s.alarms ≤ most_alarms
  pub shelves : AreShelves s.shelves
  pub max : KeepsOne s.max
  pub log : IsLog s.log
  pub time : s.time ≤ last_stamp
  pub list_time : IfSome s.list_time (λ time. time ≤ s.time)
  pub shelf_time : IfSome s.shelf_time (λ time. time ≤ s.time)
