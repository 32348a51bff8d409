use Rattle.std.proofs.Common.{length}
use Rattle.al_ids.proofs.steps.+has_predicate.Given as goal

abbrev pub decreases-has_predicate : goal.decreases-has_predicate
decreases-has_predicate l = length l.text.now
