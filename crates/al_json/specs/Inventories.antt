-- The trees of the inventory (RFC 8632, container `alarm-inventory`, and the project's own `inventory`).
use Rattle.std.specs.Prelude.{ℕ, ◌==◌, ◌^◌, bit_and, Bool, not, List, [], ◌∷◌, Option, Some, codes, filter, map}
use Rattle.al_base.specs.Names.{event_type_name, rank_of, severity_name}
use Rattle.al_base.specs.declared.severity.Severity.{Severity}
use Rattle.al_base.specs.declared.severity.Severity.TheVariants.{Indeterminate, Warning, Minor, Major, Critical}
use Rattle.al_fields.specs.Members.{list_of, object_of}
use Rattle.al_types.specs.Inventories.{InventoryView}
use Rattle.al_types.specs.declared.row.Identity.{Identity}
use Rattle.al_types.specs.declared.row.Row.{Row}
use Rattle.serde_json.specs.Data.{Data, boolean, string}

abbrev pub rising_severities : List Severity
rising_severities = Indeterminate ∷ Warning ∷ Minor ∷ Major ∷ Critical ∷ []

-- whether the set has the severity: bit n is that of the n-th
abbrev pub has_severity : ℕ → Severity → Bool
has_severity set severity = not (bit_and set (2 ^ rank_of severity) == 0)

-- the severities of the set, from the least to the gravest
abbrev pub severities_in : ℕ → List Severity
severities_in set = filter (has_severity set) rising_severities

abbrev pub severity_trees : ℕ → List Data
severity_trees set = map (λ severity. string (severity_name severity)) (severities_in set)

abbrev pub row_fields : Row → List (List ℕ × Option Data)
row_fields row =
    (codes "alarm-type-id", Some (string row.type_id))
    ∷ (codes "alarm-type-qualifier", Some (string row.qualifier))
    ∷ (codes "description", Some (string row.description))
    ∷ (codes "ietf-alarms-x733:event-type", Some (string (event_type_name row.event_type)))
    ∷ (codes "resource", list_of (map string row.resources))
    ∷ (codes "severity-level", list_of (severity_trees row.severities))
    ∷ (codes "will-clear", Some (boolean row.will_clear))
    ∷ []

unfoldable pub row_tree : Row → Data
row_tree row = object_of (row_fields row)

abbrev pub identity_fields : Identity → List (List ℕ × Option Data)
identity_fields identity =
    (codes "base", Some (string identity.base))
    ∷ (codes "name", Some (string identity.name))
    ∷ []

unfoldable pub identity_tree : Identity → Data
identity_tree identity = object_of (identity_fields identity)

-- the rows in installed order: without members before an installation
abbrev pub alarm_inventory_fields : List Row → List (List ℕ × Option Data)
alarm_inventory_fields rows = (codes "alarm-type", list_of (map row_tree rows)) ∷ []

unfoldable pub alarm_inventory_tree : List Row → Data
alarm_inventory_tree rows = object_of (alarm_inventory_fields rows)

-- what was installed
abbrev pub inventory_fields : InventoryView → List (List ℕ × Option Data)
inventory_fields inventory =
    (codes "alarm-type", list_of (map row_tree inventory.rows))
    ∷ (codes "identity", list_of (map identity_tree inventory.identities))
    ∷ []

unfoldable pub inventory_tree : InventoryView → Data
inventory_tree inventory = object_of (inventory_fields inventory)
