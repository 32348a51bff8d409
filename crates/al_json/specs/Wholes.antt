-- The tree of all containers (RFC 8632, container `alarms`).
use Rattle.std.specs.Prelude.{ℕ, List, [], ◌∷◌, Option, Some, codes}
use Rattle.al_fields.specs.Members.{object_of}
use Rattle.al_model.specs.State.{State, inventory_of}
use Rattle.al_model.specs.Summary.{has_shelved, summary_of}
use Rattle.serde_json.specs.Data.{Data}
use Rattle.al_json.specs.Alarms.{alarm_list_tree, shelved_alarms_tree}
use Rattle.al_json.specs.Controls.{control_tree}
use Rattle.al_json.specs.Inventories.{alarm_inventory_tree}
use Rattle.al_json.specs.Summaries.{summary_tree}

-- the members, of which the summary is this
abbrev pub alarms_fields : State → Data → List (List ℕ × Option Data)
alarms_fields s summary =
    (codes "alarm-inventory", Some (alarm_inventory_tree (inventory_of s).rows))
    ∷ (codes "alarm-list", Some (alarm_list_tree s))
    ∷ (codes "control", Some (control_tree s))
    ∷ (codes "shelved-alarms", Some (shelved_alarms_tree s))
    ∷ (codes "summary", Some summary)
    ∷ []

unfoldable pub alarms_with : State → Data → Data
alarms_with s summary = object_of (alarms_fields s summary)

abbrev pub alarms_tree : State → Data
alarms_tree s = alarms_with s (summary_tree (summary_of s) (has_shelved s))
