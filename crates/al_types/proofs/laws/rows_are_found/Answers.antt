use Rattle.al_types.proofs.RowLemmas.{no_row, one_row_found}
use Rattle.al_types.proofs.laws.rows_are_found.Goals as goal

pub returns-clause-found : goal.returns-clause-found
returns-clause-found c i s = one_row_found i s.kinds

pub returns-clause-none : goal.returns-clause-none
returns-clause-none c = no_row
