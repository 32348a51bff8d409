use Rattle.std.proofs.Common.{length}
use Rattle.al_json.proofs.inventory.+nth_in.Given as goal

abbrev pub decreases-nth_in : goal.decreases-nth_in
decreases-nth_in l = length l.severities.now
