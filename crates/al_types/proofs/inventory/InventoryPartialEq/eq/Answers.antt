use Rattle.std.proofs.Common.{rules}
use Rattle.al_types.specs.Exact.{same_inventory_decides}
use Rattle.al_types.proofs.Told.{exact}
use Rattle.al_types.proofs.inventory.InventoryPartialEq.eq.Goals as goal

pub returns-then-eq-clause-value : goal.returns-then-eq-clause-value
returns-then-eq-clause-value c = search rules

pub returns-then-eq-clause-exact : goal.returns-then-eq-clause-exact
returns-then-eq-clause-exact c = exact _ _ (returns-then-eq-clause-value c) (same_inventory_decides c.args.self.now c.args.other.now)
