use Rattle.std.proofs.Common.{◌≡◌, ℕ, ◌<◌, slice_index_or}
use Rattle.al_base.specs.Names.{event_type_name}
use Rattle.al_base.specs.declared.event_type.EventType.TheVariants.{Other}
use Rattle.al_base.specs.declared.event_type.TheConstants.EventType.{ALL}
use Rattle.al_base.proofs.event_type.EventType.read.Given as goal

abbrev pub invariant-loop-event_type : goal.invariant-loop-event_type
invariant-loop-event_type l =
    (k : ℕ) → k < l.event_type-index → event_type_name (slice_index_or ALL k Other) ≡ l.name → ⊥
