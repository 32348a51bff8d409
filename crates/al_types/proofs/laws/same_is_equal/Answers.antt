use Rattle.al_types.specs.Exact.{same_identity_decides, same_row_decides, same_inventory_decides}
use Rattle.al_types.proofs.laws.same_is_equal.Goals as goal

pub returns-clause-identities : goal.returns-clause-identities
returns-clause-identities c = same_identity_decides

pub returns-clause-rows : goal.returns-clause-rows
returns-clause-rows c = same_row_decides

pub returns-clause-inventories : goal.returns-clause-inventories
returns-clause-inventories c = same_inventory_decides
