use Rattle.al_types.proofs.RowLemmas.{allows_decides}
use Rattle.al_types.proofs.laws.severities_are_allowed.Goals as goal

pub returns : goal.returns
returns c = allows_decides
