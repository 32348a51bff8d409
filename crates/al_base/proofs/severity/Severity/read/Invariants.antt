use Rattle.std.proofs.Common.{◌≡◌, ℕ, ◌<◌, slice_index_or}
use Rattle.al_base.specs.Names.{severity_name}
use Rattle.al_base.specs.declared.severity.Severity.TheVariants.{Indeterminate}
use Rattle.al_base.specs.declared.severity.TheConstants.Severity.{ALL}
use Rattle.al_base.proofs.severity.Severity.read.Given as goal

abbrev pub invariant-loop-severity : goal.invariant-loop-severity
invariant-loop-severity l =
    (k : ℕ) → k < l.severity-index → severity_name (slice_index_or ALL k Indeterminate) ≡ l.name → ⊥
