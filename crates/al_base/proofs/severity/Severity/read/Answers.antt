use Rattle.std.proofs.Common.{◌≡◌, ◌<◌, ℕ, List, sym, slice_index_or, arith}
use Rattle.al_base.specs.Names.{severity_name}
use Rattle.al_base.specs.declared.severity.Severity.{Severity}
use Rattle.al_base.specs.declared.severity.Severity.TheVariants.{Indeterminate, Warning, Minor, Major, Critical}
use Rattle.al_base.specs.declared.severity.TheConstants.Severity.{ALL}
use Rattle.al_base.proofs.severity.Severity.read.Goals as goal

-- a name that none in the list has is no name at all, since each is in the list
unnamed : (name : List ℕ) → ((k : ℕ) → k < 5 → severity_name (slice_index_or ALL k Indeterminate) ≡ name → ⊥) → (severity : Severity) → name ≡ severity_name severity → ⊥
unnamed name h Indeterminate e = h 0 (omega arith) (sym e)
unnamed name h Warning e = h 1 (omega arith) (sym e)
unnamed name h Minor e = h 2 (omega arith) (sym e)
unnamed name h Major e = h 3 (omega arith) (sym e)
unnamed name h Critical e = h 4 (omega arith) (sym e)

pub returns : goal.returns
returns c =
    let h : (k : ℕ) → k < 5 → severity_name (slice_index_or ALL k Indeterminate) ≡ c.args.name.now → ⊥ = λ k lt. c.loop-severity.invariant k (omega arith) in
    λ severity. (λ e. absurd (cc), λ e. absurd (unnamed c.args.name.now h severity e))
