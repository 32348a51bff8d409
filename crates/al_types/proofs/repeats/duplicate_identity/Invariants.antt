use Rattle.std.proofs.Common.{ℕ, ◌<◌}
use Rattle.al_types.specs.Known.{IsDuplicateIdentity}
use Rattle.al_types.proofs.repeats.duplicate_identity.Given as goal

abbrev pub invariant-loop-n : goal.invariant-loop-n
invariant-loop-n l = (k : ℕ) → k < l.n → ¬ (IsDuplicateIdentity l.identities k)
