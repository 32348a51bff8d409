use Rattle.std.proofs.Common.{rules}
use Rattle.al_types.proofs.RowLemmas.{only_row_found, no_row_found}
use Rattle.al_types.proofs.inventory.Inventory.row.Goals as goal

pub returns-clause-value : goal.returns-clause-value
returns-clause-value c = search rules

pub returns-clause-found : goal.returns-clause-found
returns-clause-found c =
    only_row_found c.args.self.now c.rows.ensures.sound.kinds c.args.t.now c.args.qualifier.now c.find_row.result (returns-clause-value c)

pub returns-clause-none : goal.returns-clause-none
returns-clause-none c = no_row_found c.args.self.now c.args.t.now c.args.qualifier.now c.find_row.result (returns-clause-value c)
