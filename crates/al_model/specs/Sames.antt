-- Whether two values are the same, as functions.
use Rattle.std.specs.Prelude.{ℕ, ◌==◌, Bool, ◌&&◌, Option, List}
use Rattle.std.specs.Cmp.Lexicographic.{pointwise}
use Rattle.std.specs.Option.{option_eq}
use Rattle.al_base.specs.Names.{rank_of}
use Rattle.al_notify.specs.declared.rule.Mode.{Mode}
use Rattle.al_notify.specs.declared.rule.Mode.TheVariants.{AllStateChanges, RaiseAndClear, SeverityLevel}
use Rattle.al_notify.specs.declared.rule.NotifyRule.{NotifyRule}
use Rattle.al_shelf.specs.Same.{same_shelf}
use Rattle.al_shelf.specs.declared.shelf.Shelf.{Shelf}
use Rattle.al_types.specs.Inventories.{InventoryView}
use Rattle.al_types.specs.Same.{same_inventory}

-- ---- the rule of notifications

abbrev pub mode_number : Mode → ℕ
mode_number AllStateChanges = 0
mode_number RaiseAndClear = 1
mode_number SeverityLevel = 2

abbrev pub same_mode : Mode → Mode → Bool
same_mode a b = mode_number a == mode_number b

abbrev pub same_rule : NotifyRule → NotifyRule → Bool
same_rule a b = same_mode a.mode b.mode && rank_of a.level == rank_of b.level

-- ---- shelves and inventories

abbrev pub same_shelves : List Shelf → List Shelf → Bool
same_shelves a b = pointwise same_shelf a b

abbrev pub same_installed : Option InventoryView → Option InventoryView → Bool
same_installed a b = option_eq same_inventory a b
