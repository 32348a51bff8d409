use Rattle.std.proofs.Common.{◌≡◌, ◌<◌, ℕ, List, sym, slice_index_or, arith}
use Rattle.al_base.specs.Names.{state_name}
use Rattle.al_base.specs.declared.operator.OperatorState.{OperatorState}
use Rattle.al_base.specs.declared.operator.OperatorState.TheVariants.{None0, Ack, Closed, Shelved, UnShelved}
use Rattle.al_base.specs.declared.operator.TheConstants.OperatorState.{ALL}
use Rattle.al_base.proofs.operator.OperatorState.read.Goals as goal

-- a name that none in the list has is no name at all, since each is in the list
unnamed : (name : List ℕ) → ((k : ℕ) → k < 5 → state_name (slice_index_or ALL k None0) ≡ name → ⊥) → (state : OperatorState) → name ≡ state_name state → ⊥
unnamed name h None0 e = h 0 (omega arith) (sym e)
unnamed name h Ack e = h 1 (omega arith) (sym e)
unnamed name h Closed e = h 2 (omega arith) (sym e)
unnamed name h Shelved e = h 3 (omega arith) (sym e)
unnamed name h UnShelved e = h 4 (omega arith) (sym e)

pub returns : goal.returns
returns c =
    let h : (k : ℕ) → k < 5 → state_name (slice_index_or ALL k None0) ≡ c.args.name.now → ⊥ = λ k lt. c.loop-state.invariant k (omega arith) in
    λ state. (λ e. absurd (cc), λ e. absurd (unnamed c.args.name.now h state e))
