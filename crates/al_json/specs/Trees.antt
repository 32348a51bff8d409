-- The tree of each resource.
use Rattle.std.specs.Prelude.{ℕ, List, [], Option, None, Some, codes, length, map, option_map}
use Rattle.std.specs.Option.{option_to_list}
use Rattle.al_fields.specs.Members.{list_of, whole}
use Rattle.al_model.specs.Alarms.{alarm_of}
use Rattle.al_model.specs.State.{State, inventory_of, listed, shelved}
use Rattle.al_model.specs.Summary.{has_shelved, summary_of}
use Rattle.al_model.specs.declared.event.Side.TheVariants as sides
use Rattle.al_shelf.specs.Places.{shelf_of}
use Rattle.al_uri.specs.declared.target.Target.{Target}
use Rattle.al_uri.specs.declared.target.Target.TheVariants as targets
use Rattle.serde_json.specs.Data.{Data, number, string, unsigned}
use Rattle.al_json.specs.Alarms.{alarm_list_tree, alarm_tree, shelved_alarms_tree}
use Rattle.al_json.specs.Controls.{control_tree, level_of, max_tree}
use Rattle.al_notify.specs.Modes.{mode_name}
use Rattle.al_json.specs.Histories.{moment}
use Rattle.al_json.specs.Inventories.{alarm_inventory_tree, inventory_tree}
use Rattle.al_json.specs.Notes.{log_tree}
use Rattle.al_json.specs.Summaries.{summary_tree}
use Rattle.al_json.specs.Wholes.{alarms_tree}
use Rattle.al_json.specs.Shelves.{shelf_tree, shelving_tree}

-- the name of a resource with its module, and no bytes where it has no tree
abbrev pub resource_name : Target → List ℕ
resource_name targets.HostMeta = []
resource_name targets.Alarms = codes "ietf-alarms:alarms"
resource_name targets.Control = codes "ietf-alarms:control"
resource_name targets.MaxChanges = codes "ietf-alarms:max-alarm-status-changes"
resource_name targets.NotifyMode = codes "ietf-alarms:notify-status-changes"
resource_name targets.NotifyLevel = codes "ietf-alarms:notify-severity-level"
resource_name (targets.Shelving spot) = codes "ietf-alarms:alarm-shelving"
resource_name (targets.OneShelf name spot) = codes "ietf-alarms:shelf"
resource_name targets.AlarmInventory = codes "ietf-alarms:alarm-inventory"
resource_name targets.Summary = codes "ietf-alarms:summary"
resource_name targets.AlarmList = codes "ietf-alarms:alarm-list"
resource_name targets.AlarmCount = codes "ietf-alarms:number-of-alarms"
resource_name targets.AlarmsChanged = codes "ietf-alarms:last-changed"
resource_name (targets.OneAlarm key) = codes "ietf-alarms:alarm"
resource_name (targets.SetState key) = []
resource_name targets.PurgeAlarms = []
resource_name targets.CompressAlarms = []
resource_name targets.ShelvedAlarms = codes "ietf-alarms:shelved-alarms"
resource_name targets.ShelvedCount = codes "ietf-alarms:number-of-shelved-alarms"
resource_name targets.ShelvedChanged = codes "ietf-alarms:shelved-alarms-last-changed"
resource_name (targets.OneShelved key) = codes "ietf-alarms:shelved-alarm"
resource_name targets.PurgeShelved = []
resource_name targets.CompressShelved = []
resource_name targets.Report = []
resource_name targets.Inventory = codes "alarmd:inventory"
resource_name (targets.NotificationLog start) = codes "alarmd:notification-log"
resource_name (targets.JournalPage start) = []

-- what stands under it, but for the whole: nothing where the resource isn't there, or has no tree
abbrev pub part_data : Target → State → Option Data
part_data targets.HostMeta s = None
part_data targets.Alarms s = None
part_data targets.Control s = Some (control_tree s)
part_data targets.MaxChanges s = Some (max_tree s.max)
part_data targets.NotifyMode s = Some (string (mode_name s.rule.mode))
part_data targets.NotifyLevel s = level_of s.rule.mode s.rule.level
part_data (targets.Shelving spot) s = Some (shelving_tree s.shelves)
part_data (targets.OneShelf name spot) s = list_of (map shelf_tree (option_to_list (shelf_of name s.shelves)))
part_data targets.AlarmInventory s = Some (alarm_inventory_tree (inventory_of s).rows)
part_data targets.Summary s = Some (summary_tree (summary_of s) (has_shelved s))
part_data targets.AlarmList s = Some (alarm_list_tree s)
part_data targets.AlarmCount s = Some (number (unsigned (length (listed s))))
part_data targets.AlarmsChanged s = option_map moment s.list_time
part_data (targets.OneAlarm key) s = list_of (map (alarm_tree s sides.List) (option_to_list (alarm_of key (listed s))))
part_data (targets.SetState key) s = None
part_data targets.PurgeAlarms s = None
part_data targets.CompressAlarms s = None
part_data targets.ShelvedAlarms s = Some (shelved_alarms_tree s)
part_data targets.ShelvedCount s = Some (number (unsigned (length (shelved s))))
part_data targets.ShelvedChanged s = option_map moment s.shelf_time
part_data (targets.OneShelved key) s = list_of (map (alarm_tree s sides.Shelf) (option_to_list (alarm_of key (shelved s))))
part_data targets.PurgeShelved s = None
part_data targets.CompressShelved s = None
part_data targets.Report s = None
part_data targets.Inventory s = option_map inventory_tree s.inventory
part_data (targets.NotificationLog start) s = Some (log_tree s.log start)
part_data (targets.JournalPage start) s = None

-- what stands under it, the whole among them
abbrev pub resource_data : Target → State → Option Data
resource_data targets.Alarms s = Some (alarms_tree s)
resource_data target s = part_data target s

-- The tree of a resource has one member, its name.
unfoldable pub tree_of : Target → State → Option Data
tree_of target s = whole (resource_name target) (resource_data target s)
