-- Whether two identities, rows or inventories are the same.
use Rattle.std.specs.Prelude.{◌==◌, ◌&&◌, Bool}
use Rattle.std.specs.Bool.{beq}
use Rattle.std.specs.Cmp.Lexicographic.{pointwise}
use Rattle.al_base.specs.Names.{event_type_number}
use Rattle.al_types.specs.Inventories.{InventoryView}
use Rattle.al_types.specs.declared.row.Identity.{Identity}
use Rattle.al_types.specs.declared.row.Row.{Row}

abbrev pub same_identity : Identity → Identity → Bool
same_identity a b = pointwise ◌==◌ a.name b.name && pointwise ◌==◌ a.base b.base

-- the same texts, numbers and words in each field
unfoldable pub same_row : Row → Row → Bool
same_row a b =
    pointwise ◌==◌ a.type_id b.type_id && pointwise ◌==◌ a.qualifier b.qualifier
    && pointwise (pointwise ◌==◌) a.resources b.resources && beq a.will_clear b.will_clear
    && (a.severities == b.severities) && pointwise ◌==◌ a.description b.description
    && (event_type_number a.event_type == event_type_number b.event_type)

abbrev pub same_inventory : InventoryView → InventoryView → Bool
same_inventory a b = pointwise same_identity a.identities b.identities && pointwise same_row a.rows b.rows
