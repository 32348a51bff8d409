use Rattle.std.proofs.Common.{ℕ, ◌<◌}
use Rattle.al_types.specs.Known.{IsDuplicateRow}
use Rattle.al_types.proofs.repeats.duplicate_row.Given as goal

abbrev pub invariant-loop-n : goal.invariant-loop-n
invariant-loop-n l = (k : ℕ) → k < l.n → ¬ (IsDuplicateRow l.rows k)
