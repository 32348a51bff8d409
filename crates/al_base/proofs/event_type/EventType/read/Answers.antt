use Rattle.std.proofs.Common.{◌≡◌, ◌<◌, ℕ, List, sym, slice_index_or, arith}
use Rattle.al_base.specs.Names.{event_type_name}
use Rattle.al_base.specs.declared.event_type.EventType.{EventType}
use Rattle.al_base.specs.declared.event_type.EventType.TheVariants.{Other, CommunicationsAlarm, QualityOfServiceAlarm, ProcessingErrorAlarm, EquipmentAlarm, EnvironmentalAlarm, IntegrityViolation, OperationalViolation, PhysicalViolation, SecurityServiceOrMechanismViolation, TimeDomainViolation}
use Rattle.al_base.specs.declared.event_type.TheConstants.EventType.{ALL}
use Rattle.al_base.proofs.event_type.EventType.read.Goals as goal

-- a name that none in the list has is no name at all, since each is in the list
unnamed : (name : List ℕ) → ((k : ℕ) → k < 11 → event_type_name (slice_index_or ALL k Other) ≡ name → ⊥) → (event_type : EventType) → name ≡ event_type_name event_type → ⊥
unnamed name h Other e = h 0 (omega arith) (sym e)
unnamed name h CommunicationsAlarm e = h 1 (omega arith) (sym e)
unnamed name h QualityOfServiceAlarm e = h 2 (omega arith) (sym e)
unnamed name h ProcessingErrorAlarm e = h 3 (omega arith) (sym e)
unnamed name h EquipmentAlarm e = h 4 (omega arith) (sym e)
unnamed name h EnvironmentalAlarm e = h 5 (omega arith) (sym e)
unnamed name h IntegrityViolation e = h 6 (omega arith) (sym e)
unnamed name h OperationalViolation e = h 7 (omega arith) (sym e)
unnamed name h PhysicalViolation e = h 8 (omega arith) (sym e)
unnamed name h SecurityServiceOrMechanismViolation e = h 9 (omega arith) (sym e)
unnamed name h TimeDomainViolation e = h 10 (omega arith) (sym e)

pub returns : goal.returns
returns c =
    let h : (k : ℕ) → k < 11 → event_type_name (slice_index_or ALL k Other) ≡ c.args.name.now → ⊥ = λ k lt. c.loop-event_type.invariant k (omega arith) in
    λ event_type. (λ e. absurd (cc), λ e. absurd (unnamed c.args.name.now h event_type e))
