-- Changes as they are prepared, and what they make of the state.
use Rattle.std.specs.Prelude.{◌≡◌, ℕ, ◌<◌, ◌≤◌, ⊤, not, None, Some, length, map, filter}
use Rattle.std.specs.List.{insert}
use Rattle.al_base.specs.declared.text.Text.{Text}
use Rattle.al_model.specs.Alarms.{bounded, reported, with_operator}
use Rattle.al_model.specs.State.{State}
use Rattle.al_model.specs.declared.entry.OperatorEntry.{OperatorEntry}
use Rattle.al_contents.specs.Edits.{HasAlarm, HaveRoom, IsListedAt, after_moves, at_place}
use Rattle.al_contents.specs.Tables.{TablesView}
use Rattle.al_contents.specs.Views.{AlarmView, compressed, goes, marked}
use Rattle.al_contents.specs.declared.change.Change.{Change}
use Rattle.al_contents.specs.declared.change.Change.TheVariants as changes

-- the state with the change, before its note and its times
abbrev pub with_change : ℕ → Change → State → State
with_change time (changes.Report place status text entry_text) s = record s { alarms = at_place place (reported s.max time status text) s.alarms }
with_change time (changes.Insert place alarm) s = record s { alarms = insert s.alarms place alarm.state }
with_change time (changes.Operate place entry) s = record s { alarms = at_place place (with_operator (Some entry)) s.alarms }
with_change time (changes.Max max) s = record s { max = max; alarms = map (bounded max) s.alarms }
with_change time (changes.Rule rule) s = record s { rule = rule }
with_change time (changes.Shelves shelves moves) s = record s { shelves = shelves.shelves; alarms = after_moves moves.items s.alarms }
with_change time (changes.Inventory inventory moves) s = record s { inventory = Some inventory; alarms = after_moves moves.items s.alarms }
with_change time (changes.Purge side chosen) s = record s { alarms = filter (λ a. not (goes side chosen time a)) s.alarms }
with_change time (changes.Compress side chosen) s = record s { alarms = map (compressed side chosen) s.alarms }

-- There is room for a new alarm at the place.
pub record HasPlace (t : TablesView) (place : ℕ) (alarm : AlarmView) : Type 0 where
  pub within : place ≤ length t.state.alarms
  pub room : 0 < t.room
  pub max : alarm.max ≡ t.state.max

-- There is room for a status entry of the alarm at the place, and the entry's text is the report's.
pub record CanReport (t : TablesView) (place : ℕ) (text entry_text : Text) : Type 0 where
  pub room : HasAlarm t.alarms place (λ v. 0 < v.status_room)
  pub same_text : entry_text ≡ text

-- There is room for an operator entry of the alarm at the place, which is on the list and stays there.
pub record CanOperate (t : TablesView) (place : ℕ) (entry : OperatorEntry) : Type 0 where
  pub room : HasAlarm t.alarms place (λ v. 0 < v.operator_room)
  pub listed : IsListedAt t.state.alarms place
  pub stays : marked entry.state entry.text ≡ None

-- The change has the alarm that it is about, and the memory that it needs.
abbrev pub HasRoom : TablesView → Change → Type 0
HasRoom t (changes.Report place status text entry_text) = CanReport t place text entry_text
HasRoom t (changes.Insert place alarm) = HasPlace t place alarm
HasRoom t (changes.Operate place entry) = CanOperate t place entry
HasRoom t (changes.Max max) = ⊤
HasRoom t (changes.Rule rule) = ⊤
HasRoom t (changes.Shelves shelves moves) = HaveRoom moves.items t.alarms
HasRoom t (changes.Inventory inventory moves) = HaveRoom moves.items t.alarms
HasRoom t (changes.Purge side chosen) = ⊤
HasRoom t (changes.Compress side chosen) = ⊤
