-- The state of the alarm list.
use Rattle.std.specs.Prelude.{ℕ, Bool, not, is_some, Option, None, Some, List, [], filter}
use Rattle.std.specs.Option.{option_map, unwrap_or}
use Rattle.al_base.specs.Limits.{first_status_changes}
use Rattle.al_base.specs.declared.severity.Severity.{Severity}
use Rattle.al_base.specs.declared.severity.Severity.TheVariants.{Indeterminate}
use Rattle.al_base.specs.declared.text.Text.{Text}
use Rattle.al_ids.specs.declared.key.AlarmKey.{AlarmKey}
use Rattle.al_notify.specs.Logs.{LogView, empty_log}
use Rattle.al_notify.specs.declared.rule.Mode.TheVariants.{AllStateChanges}
use Rattle.al_notify.specs.declared.rule.NotifyRule.{NotifyRule}
use Rattle.al_shelf.specs.Taking.{first_shelf}
use Rattle.al_shelf.specs.declared.shelf.Shelf.{Shelf}
use Rattle.al_types.specs.Inventories.{InventoryView, no_inventory}
use Rattle.al_model.specs.declared.entry.OperatorEntry.{OperatorEntry}
use Rattle.al_model.specs.declared.entry.StatusEntry.{StatusEntry}
use Rattle.al_model.specs.declared.event.Side.{Side}
use Rattle.al_model.specs.declared.event.Side.TheVariants as sides

-- An alarm, on the list or on a shelf (RFC 8632, lists `alarm` and `shelved-alarm`).
pub record AlarmState : Type 0 where
  pub key : AlarmKey
  -- when it was made, when it was last raised, and when it last got a status or operator entry
  pub created : ℕ
  pub raised : ℕ
  pub changed : ℕ
  pub cleared : Bool
  -- of a cleared alarm the severity that it had
  pub severity : Severity
  pub text : Text
  -- both newest first
  pub statuses : List StatusEntry
  pub operators : List OperatorEntry

-- All that is known after a history.
pub record State : Type 0 where
  pub inventory : Option InventoryView
  -- how many status entries an alarm keeps, or all of them
  pub max : Option ℕ
  pub rule : NotifyRule
  -- in their order
  pub shelves : List Shelf
  -- those of the list and those on shelves together, in the order of their keys
  pub alarms : List AlarmState
  pub log : LogView
  -- that of the last entry
  pub time : ℕ
  -- when the alarms of the list, and those on shelves, last changed in anything
  pub list_time : Option ℕ
  pub shelf_time : Option ℕ

-- the state before the first entry
abbrev pub start : State
start =
    record {
      inventory = None;
      max = Some first_status_changes;
      rule = record { mode = AllStateChanges; level = Indeterminate };
      shelves = [];
      alarms = [];
      log = empty_log;
      time = 0;
      list_time = None;
      shelf_time = None;
    }

-- what the inventory declares: nothing where none is installed
abbrev pub inventory_of : State → InventoryView
inventory_of s = unwrap_or s.inventory no_inventory

-- the name of the first shelf that takes the alarms of the key
abbrev pub shelf_name : State → AlarmKey → Option Text
shelf_name s key = option_map (λ shelf. shelf.name) (first_shelf (inventory_of s) key s.shelves)

-- Alarms that a shelf takes are on the shelf, and all others on the list.
abbrev pub is_shelved : State → AlarmKey → Bool
is_shelved s key = is_some (shelf_name s key)

abbrev pub is_listed : State → AlarmKey → Bool
is_listed s key = not (is_shelved s key)

abbrev pub is_on : State → Side → AlarmKey → Bool
is_on s sides.List key = is_listed s key
is_on s sides.Shelf key = is_shelved s key

abbrev pub alarms_on : State → Side → List AlarmState
alarms_on s side = filter (λ a. is_on s side a.key) s.alarms

abbrev pub listed : State → List AlarmState
listed s = alarms_on s sides.List

abbrev pub shelved : State → List AlarmState
shelved s = alarms_on s sides.Shelf
