use Rattle.std.proofs.Common.{◌≡◌, ℕ, ◌<◌, slice_index_or}
use Rattle.al_base.specs.Names.{state_name}
use Rattle.al_base.specs.declared.operator.OperatorState.TheVariants.{None0}
use Rattle.al_base.specs.declared.operator.TheConstants.OperatorState.{ALL}
use Rattle.al_base.proofs.operator.OperatorState.read.Given as goal

abbrev pub invariant-loop-state : goal.invariant-loop-state
invariant-loop-state l =
    (k : ℕ) → k < l.state-index → state_name (slice_index_or ALL k None0) ≡ l.name → ⊥
