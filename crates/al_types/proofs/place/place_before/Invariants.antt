use Rattle.std.proofs.Common.{ℕ, ◌<◌}
use Rattle.al_types.specs.Known.{IsNamed}
use Rattle.al_types.proofs.place.place_before.Given as goal

abbrev pub invariant-loop-place : goal.invariant-loop-place
invariant-loop-place l = (k : ℕ) → k < l.place → ¬ (IsNamed l.identities k l.name)
