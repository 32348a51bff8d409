use Rattle.std.proofs.Common.{length}
use Rattle.al_ids.proofs.steps.+behind_predicates.Given as goal

abbrev pub decreases-behind_predicates : goal.decreases-behind_predicates
decreases-behind_predicates l = length l.text.now
