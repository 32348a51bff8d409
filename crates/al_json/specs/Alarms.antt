-- The trees of alarms (RFC 8632, lists `alarm` and `shelved-alarm`).
use Rattle.std.specs.Prelude.{ℕ, List, [], ◌∷◌, Option, None, Some, codes, length, map, option_map}
use Rattle.al_base.specs.Names.{event_type_name, severity_name}
use Rattle.al_fields.specs.Members.{list_of, object_of}
use Rattle.al_ids.specs.declared.key.AlarmKey.{AlarmKey}
use Rattle.al_model.specs.State.{AlarmState, State, inventory_of, listed, shelf_name, shelved}
use Rattle.al_model.specs.declared.event.Side.{Side}
use Rattle.al_model.specs.declared.event.Side.TheVariants as sides
use Rattle.al_types.specs.Inventories.{row_of}
use Rattle.serde_json.specs.Data.{Data, boolean, number, string, unsigned}
use Rattle.al_json.specs.Histories.{moment, operator_tree, status_tree}

-- the event type that the inventory declares for the alarms of the key (X.733, `event-type`)
abbrev pub event_type_of : State → AlarmKey → Option Data
event_type_of s key = option_map (λ row. string (event_type_name row.event_type)) (row_of (inventory_of s) key.type_id key.qualifier)

-- when the alarm was made, which the list tells alone
abbrev pub created_on : Side → ℕ → Option Data
created_on sides.List time = Some (moment time)
created_on sides.Shelf time = None

-- An alarm of this side. An alarm that a shelf takes has the name of the first that does.
abbrev pub alarm_fields : State → Side → AlarmState → List (List ℕ × Option Data)
alarm_fields s side a =
    (codes "alarm-text", Some (string a.text))
    ∷ (codes "alarm-type-id", Some (string a.key.type_id))
    ∷ (codes "alarm-type-qualifier", Some (string a.key.qualifier))
    ∷ (codes "ietf-alarms-x733:event-type", event_type_of s a.key)
    ∷ (codes "is-cleared", Some (boolean a.cleared))
    ∷ (codes "last-changed", Some (moment a.changed))
    ∷ (codes "last-raised", Some (moment a.raised))
    ∷ (codes "operator-state-change", list_of (map operator_tree a.operators))
    ∷ (codes "perceived-severity", Some (string (severity_name a.severity)))
    ∷ (codes "resource", Some (string a.key.resource))
    ∷ (codes "shelf-name", option_map string (shelf_name s a.key))
    ∷ (codes "status-change", list_of (map status_tree a.statuses))
    ∷ (codes "time-created", created_on side a.created)
    ∷ []

unfoldable pub alarm_tree : State → Side → AlarmState → Data
alarm_tree s side a = object_of (alarm_fields s side a)

-- the trees of the alarms of a side, in the order of their keys
abbrev pub listed_trees : State → List Data
listed_trees s = map (alarm_tree s sides.List) (listed s)

abbrev pub shelved_trees : State → List Data
shelved_trees s = map (alarm_tree s sides.Shelf) (shelved s)

-- container `alarm-list`
abbrev pub alarm_list_fields : State → List (List ℕ × Option Data)
alarm_list_fields s =
    (codes "alarm", list_of (listed_trees s))
    ∷ (codes "last-changed", option_map moment s.list_time)
    ∷ (codes "number-of-alarms", Some (number (unsigned (length (listed s)))))
    ∷ []

unfoldable pub alarm_list_tree : State → Data
alarm_list_tree s = object_of (alarm_list_fields s)

-- container `shelved-alarms`
abbrev pub shelved_alarms_fields : State → List (List ℕ × Option Data)
shelved_alarms_fields s =
    (codes "number-of-shelved-alarms", Some (number (unsigned (length (shelved s)))))
    ∷ (codes "shelved-alarm", list_of (shelved_trees s))
    ∷ (codes "shelved-alarms-last-changed", option_map moment s.shelf_time)
    ∷ []

unfoldable pub shelved_alarms_tree : State → Data
shelved_alarms_tree s = object_of (shelved_alarms_fields s)
