use Rattle.std.proofs.Common.{length}
use Rattle.al_ids.proofs.steps.+takes_steps.Given as goal

abbrev pub decreases-takes_steps : goal.decreases-takes_steps
decreases-takes_steps l = length l.asked.now
