-- What the pieces of the code's tables say.
use Rattle.std.specs.Prelude.{Option, Some, map}
use Rattle.std.specs.Option.{option_copied, option_to_list}
use Rattle.al_fields.specs.Leaves.{leaf_data}
use Rattle.al_fields.specs.Members.{list_of}
use Rattle.al_notify.specs.Logs.{page_of}
use Rattle.serde_json.specs.Data.{Data, string}
use Rattle.al_json.specs.Alarms.{alarm_list_tree, alarm_tree, listed_trees, shelved_alarms_tree, shelved_trees}
use Rattle.al_json.specs.Controls.{control_tree}
use Rattle.al_json.specs.Histories.{operator_tree, status_tree}
use Rattle.al_json.specs.Inventories.{alarm_inventory_tree, identity_tree, inventory_tree, row_tree, severity_trees}
use Rattle.al_json.specs.Notes.{action_tree, log_tree, note_tree, notification_tree}
use Rattle.al_json.specs.Shelves.{shelf_tree, shelving_tree, type_match_tree}
use Rattle.al_json.specs.Summaries.{summary_tree, summary_trees}
use Rattle.al_json.specs.Wholes.{alarms_with}
use Rattle.al_json.specs.declared.inner.Inner.{Inner}
use Rattle.al_json.specs.declared.inner.Inner.TheVariants as inners
use Rattle.al_json.specs.declared.outer.Outer.{Outer}
use Rattle.al_json.specs.declared.outer.Outer.TheVariants as outers
use Rattle.al_json.specs.declared.section.Section.{Section}
use Rattle.al_json.specs.declared.section.Section.TheVariants as sections
use Rattle.al_json.specs.declared.alarms.Content.{Content}
use Rattle.al_json.specs.declared.alarms.Content.TheVariants as contents
use Rattle.al_json.specs.declared.control.Setting.{Setting}
use Rattle.al_json.specs.declared.control.Setting.TheVariants as settings

-- pieces of alarms, shelves, rows and notes
abbrev pub inner_data : Inner → Option Data
inner_data (inners.Leaf leaf) = leaf_data leaf
inner_data (inners.Statuses alarm) = list_of (map status_tree alarm.now.state.statuses)
inner_data (inners.Operators alarm) = list_of (map operator_tree alarm.now.state.operators)
inner_data (inners.Types types) = list_of (map type_match_tree types.now)
inner_data (inners.Resources resources) = list_of (map string resources.now)
inner_data (inners.Texts texts) = list_of (map string texts.now)
inner_data (inners.Counts summary) = list_of (summary_trees summary.now.rows)
inner_data (inners.Severities row) = list_of (severity_trees row.now.severities)
inner_data (inners.Notification time key status text) = Some (notification_tree time key.now status text.now)
inner_data (inners.Action time key operator state text) = Some (action_tree time key.now operator.now state (option_copied text))

-- pieces of the containers
abbrev pub outer_data : Outer → Option Data
outer_data (outers.Leaf leaf) = leaf_data leaf
outer_data (outers.Listed tables) = list_of (listed_trees tables.now.state)
outer_data (outers.Shelved tables) = list_of (shelved_trees tables.now.state)
outer_data (outers.Shelves shelves) = list_of (map shelf_tree shelves.now.shelves)
outer_data (outers.Rows rows) = list_of (map row_tree rows.now)
outer_data (outers.Identities identities) = list_of (map identity_tree identities.now)
outer_data (outers.Notes log start) = list_of (map note_tree (page_of log.now start))

-- pieces of the container `control`
abbrev pub setting_data : Setting → Option Data
setting_data (settings.Leaf leaf) = leaf_data leaf
setting_data (settings.Shelving shelves) = Some (shelving_tree shelves.now.shelves)

-- what stands under the name of a resource
abbrev pub section_data : Section → Option Data
section_data (sections.Leaf leaf) = leaf_data leaf
section_data (sections.Shelving shelves) = Some (shelving_tree shelves.now.shelves)
section_data (sections.Control tables) = Some (control_tree tables.now.state)
section_data (sections.AlarmInventory rows) = Some (alarm_inventory_tree rows.now)
section_data (sections.AlarmList tables) = Some (alarm_list_tree tables.now.state)
section_data (sections.ShelvedAlarms tables) = Some (shelved_alarms_tree tables.now.state)
section_data (sections.Summary summary) = Some (summary_tree summary.rows summary.shelves_active)
section_data (sections.Inventory inventory) = Some (inventory_tree inventory.now)
section_data (sections.Log log start) = Some (log_tree log.now start)
section_data (sections.OneShelf found) = list_of (map shelf_tree (option_to_list (option_copied found.0.0)))
section_data (sections.OneAlarm found) =
    list_of (map (λ view. alarm_tree found.0.tables.now.state found.0.side view.state) (option_to_list (option_copied found.0.alarm)))

-- what stands under the name of a resource, the whole list among them
abbrev pub content_data : Content → Option Data
content_data (contents.Alarms tables summary) = Some (alarms_with tables.now.state (summary_tree summary.rows summary.shelves_active))
content_data (contents.Section section) = section_data section
