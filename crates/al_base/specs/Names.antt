-- Enumerations: all their values, the words that stand for these in messages, and numbers that tell them apart.
use Rattle.std.specs.Prelude.{List, [], ◌∷◌, ℕ, codes}
use Rattle.al_base.specs.declared.event_type.EventType.{EventType}
use Rattle.al_base.specs.declared.event_type.EventType.TheVariants.{Other, CommunicationsAlarm, QualityOfServiceAlarm, ProcessingErrorAlarm, EquipmentAlarm, EnvironmentalAlarm, IntegrityViolation, OperationalViolation, PhysicalViolation, SecurityServiceOrMechanismViolation, TimeDomainViolation}
use Rattle.al_base.specs.declared.operator.OperatorState.{OperatorState}
use Rattle.al_base.specs.declared.operator.OperatorState.TheVariants.{None0, Ack, Closed, Shelved, UnShelved}
use Rattle.al_base.specs.declared.severity.Severity.{Severity}
use Rattle.al_base.specs.declared.severity.Severity.TheVariants.{Indeterminate, Warning, Minor, Major, Critical}
use Rattle.al_base.specs.declared.severity.Status.{Status}
use Rattle.al_base.specs.declared.severity.Status.TheVariants.{Cleared, Active}

-- from the least to the gravest
abbrev pub severities : List Severity
severities = Indeterminate ∷ Warning ∷ Minor ∷ Major ∷ Critical ∷ []

-- the place of a severity, from the least to the gravest
abbrev pub rank_of : Severity → ℕ
rank_of Indeterminate = 0
rank_of Warning = 1
rank_of Minor = 2
rank_of Major = 3
rank_of Critical = 4

abbrev pub severity_name : Severity → List ℕ
severity_name Indeterminate = codes "indeterminate"
severity_name Warning = codes "warning"
severity_name Minor = codes "minor"
severity_name Major = codes "major"
severity_name Critical = codes "critical"

abbrev pub statuses : List Status
statuses = Cleared ∷ Active Indeterminate ∷ Active Warning ∷ Active Minor ∷ Active Major ∷ Active Critical ∷ []

abbrev pub status_name : Status → List ℕ
status_name Cleared = codes "cleared"
status_name (Active severity) = severity_name severity

abbrev pub states : List OperatorState
states = None0 ∷ Ack ∷ Closed ∷ Shelved ∷ UnShelved ∷ []

-- the place of a state among all of them
abbrev pub state_number : OperatorState → ℕ
state_number None0 = 0
state_number Ack = 1
state_number Closed = 2
state_number Shelved = 3
state_number UnShelved = 4

abbrev pub state_name : OperatorState → List ℕ
state_name None0 = codes "none"
state_name Ack = codes "ack"
state_name Closed = codes "closed"
state_name Shelved = codes "shelved"
state_name UnShelved = codes "un-shelved"

abbrev pub event_types : List EventType
event_types =
    Other ∷ CommunicationsAlarm ∷ QualityOfServiceAlarm ∷ ProcessingErrorAlarm ∷ EquipmentAlarm ∷ EnvironmentalAlarm ∷ IntegrityViolation
    ∷ OperationalViolation ∷ PhysicalViolation ∷ SecurityServiceOrMechanismViolation ∷ TimeDomainViolation ∷ []

-- the place of an event type among all of them, from 1 on
abbrev pub event_type_number : EventType → ℕ
event_type_number Other = 1
event_type_number CommunicationsAlarm = 2
event_type_number QualityOfServiceAlarm = 3
event_type_number ProcessingErrorAlarm = 4
event_type_number EquipmentAlarm = 5
event_type_number EnvironmentalAlarm = 6
event_type_number IntegrityViolation = 7
event_type_number OperationalViolation = 8
event_type_number PhysicalViolation = 9
event_type_number SecurityServiceOrMechanismViolation = 10
event_type_number TimeDomainViolation = 11

abbrev pub event_type_name : EventType → List ℕ
event_type_name Other = codes "other"
event_type_name CommunicationsAlarm = codes "communications-alarm"
event_type_name QualityOfServiceAlarm = codes "quality-of-service-alarm"
event_type_name ProcessingErrorAlarm = codes "processing-error-alarm"
event_type_name EquipmentAlarm = codes "equipment-alarm"
event_type_name EnvironmentalAlarm = codes "environmental-alarm"
event_type_name IntegrityViolation = codes "integrity-violation"
event_type_name OperationalViolation = codes "operational-violation"
event_type_name PhysicalViolation = codes "physical-violation"
event_type_name SecurityServiceOrMechanismViolation = codes "security-service-or-mechanism-violation"
event_type_name TimeDomainViolation = codes "time-domain-violation"
