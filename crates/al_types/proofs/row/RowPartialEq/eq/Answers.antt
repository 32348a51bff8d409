use Rattle.std.proofs.Common.{rules}
use Rattle.al_types.specs.Exact.{same_row_decides}
use Rattle.al_types.proofs.Told.{told}
use Rattle.al_types.proofs.row.RowPartialEq.eq.Goals as goal

pub returns-then-eq-2-clause-exact : goal.returns-then-eq-2-clause-exact
returns-then-eq-2-clause-exact c = search rules

pub returns-then-eq-2-clause-value : goal.returns-then-eq-2-clause-value
returns-then-eq-2-clause-value c = told _ _ (returns-then-eq-2-clause-exact c) (same_row_decides c.args.self.now c.args.other.now)

pub returns-else-eq-2-clause-exact : goal.returns-else-eq-2-clause-exact
returns-else-eq-2-clause-exact c = search rules

pub returns-else-eq-2-clause-value : goal.returns-else-eq-2-clause-value
returns-else-eq-2-clause-value c = told _ _ (returns-else-eq-2-clause-exact c) (same_row_decides c.args.self.now c.args.other.now)
