use Rattle.al_serve.proofs.OneHistory.{one_history}
use Rattle.al_serve.proofs.laws.exchanges_are_of_one_history.Goals as goal

pub returns : goal.returns
returns c = one_history
