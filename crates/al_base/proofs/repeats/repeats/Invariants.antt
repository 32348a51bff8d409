use Rattle.std.proofs.Common.{◌≡◌, length}
use Rattle.al_base.specs.Repeats.{repeats}
use Rattle.al_base.proofs.repeats.repeats.Given as goal

abbrev pub invariant-loop-first : goal.invariant-loop-first
invariant-loop-first g l = repeats g.T.PartialEq.eq l.rest ≡ repeats g.T.PartialEq.eq l.values

abbrev pub decreases-loop-first : goal.decreases-loop-first
decreases-loop-first g l = length l.rest
