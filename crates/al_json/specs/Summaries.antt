-- The tree of the summary (RFC 8632, container `summary`).
use Rattle.std.specs.Prelude.{ℕ, Bool, true, false, List, [], ◌∷◌, Option, None, Some, codes, slice_index, slice_index_or}
use Rattle.al_base.specs.Names.{severity_name}
use Rattle.al_base.specs.declared.severity.Severity.{Severity}
use Rattle.al_base.specs.declared.severity.Severity.TheVariants.{Indeterminate, Warning, Minor, Major, Critical}
use Rattle.al_fields.specs.Members.{list_of, object_of}
use Rattle.serde_json.specs.Data.{Data, array, item, no_items, null, number, string, unsigned}

abbrev pub count_at : ℕ → List ℕ → Option Data
count_at index counts = Some (number (unsigned (slice_index counts index)))

-- the counts of a severity, which `counts_of` of the model lists: all alarms, those not cleared and cleared, the cleared ones not closed and
-- closed, the others closed and not closed
abbrev pub counts_fields : Severity → List ℕ → List (List ℕ × Option Data)
counts_fields severity counts =
    (codes "cleared", count_at 2 counts)
    ∷ (codes "cleared-closed", count_at 4 counts)
    ∷ (codes "cleared-not-closed", count_at 3 counts)
    ∷ (codes "not-cleared", count_at 1 counts)
    ∷ (codes "not-cleared-closed", count_at 5 counts)
    ∷ (codes "not-cleared-not-closed", count_at 6 counts)
    ∷ (codes "severity", Some (string (severity_name severity)))
    ∷ (codes "total", count_at 0 counts)
    ∷ []

unfoldable pub counts_tree : Severity → List ℕ → Data
counts_tree severity counts = object_of (counts_fields severity counts)

abbrev pub row_at : ℕ → List (List ℕ) → List ℕ
row_at index rows = slice_index_or rows index []

-- the counts of each severity, from critical down
unfoldable pub summary_trees : List (List ℕ) → List Data
summary_trees rows =
    counts_tree Critical (row_at 0 rows)
    ∷ counts_tree Major (row_at 1 rows)
    ∷ counts_tree Minor (row_at 2 rows)
    ∷ counts_tree Warning (row_at 3 rows)
    ∷ counts_tree Indeterminate (row_at 4 rows)
    ∷ []

-- `shelves-active`, which is there where any alarm is on a shelf
abbrev pub active_data : Bool → Option Data
active_data true = Some (array (item null no_items))
active_data false = None

abbrev pub summary_fields : List (List ℕ) → Bool → List (List ℕ × Option Data)
summary_fields rows active =
    (codes "alarm-summary", list_of (summary_trees rows))
    ∷ (codes "shelves-active", active_data active)
    ∷ []

unfoldable pub summary_tree : List (List ℕ) → Bool → Data
summary_tree rows active = object_of (summary_fields rows active)
