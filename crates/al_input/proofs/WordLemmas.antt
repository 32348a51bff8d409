-- What al_base's readings of words answer is what the tables of words say.
use Rattle.std.proofs.Common.{◌≡◌, ◌↔◌, ◌⊎◌, inl, inr, ℕ, Bool, true, false, if◌then◌else◌, Option, None, Some, List, [], ◌∷◌, refl, sym, ap, ◌∙◌}
use Rattle.std.specs.Prelude.{◌==◌}
use Rattle.std.proofs.lemmas.Bool.{false≢true}
use Rattle.std.specs.Bool.{Decides}
use Rattle.std.specs.Cmp.Lexicographic.{pointwise, bytes_decides}
use Rattle.al_base.specs.Names.{event_type_name, event_types, severities, severity_name, state_name, states, status_name, statuses}
use Rattle.al_base.specs.declared.event_type.EventType.{EventType}
use Rattle.al_base.specs.declared.event_type.EventType.TheVariants.{Other, CommunicationsAlarm, QualityOfServiceAlarm, ProcessingErrorAlarm, EquipmentAlarm, EnvironmentalAlarm, IntegrityViolation, OperationalViolation, PhysicalViolation, SecurityServiceOrMechanismViolation, TimeDomainViolation}
use Rattle.al_base.specs.declared.operator.OperatorState.{OperatorState}
use Rattle.al_base.specs.declared.operator.OperatorState.TheVariants.{None0, Ack, Closed, Shelved, UnShelved}
use Rattle.al_base.specs.declared.severity.Severity.{Severity}
use Rattle.al_base.specs.declared.severity.Severity.TheVariants.{Indeterminate, Warning, Minor, Major, Critical}
use Rattle.al_base.specs.declared.severity.Status.{Status}
use Rattle.al_base.specs.declared.severity.Status.TheVariants.{Cleared, Active}
use Rattle.al_input.specs.Readers.{word_of}

-- A reading knows just these words.
abbrev pub Reads : {W : Type 0} → (W → List ℕ) → List ℕ → Option W → Type 0
Reads {W} name text r = (w : W) → (r ≡ Some w) ↔ (text ≡ name w)

abbrev IsIn : {W : Type 0} → W → List W → Type 0
IsIn w [] = ⊥
IsIn w (first ∷ rest) = (first ≡ w) ⊎ IsIn w rest

unread : {W : Type 0} (name : W → List ℕ) (text : List ℕ) (words : List W) → Reads name text None → None ≡ word_of name words text
unread name text [] reads = refl
unread {W} name text (w ∷ words) reads =
    first_of_all (pointwise ◌==◌ text (name w)) (bytes_decides text (name w)).0 (unread name text words reads)
  where
    first_of_all : (same : Bool) → (same ≡ true → text ≡ name w) → None ≡ word_of name words text
        → None ≡ (if same then Some w else word_of name words text)
    first_of_all true is later = let h : None ≡ Some w = (reads w).1 (is refl) in cc
    first_of_all false is later = later

found : {W : Type 0} (name : W → List ℕ) (text : List ℕ) (w : W) (words : List W) → Reads name text (Some w) → IsIn w words → Some w ≡ word_of name words text
found name text w [] reads within = absurd within
found {W} name text w (first ∷ words) reads within =
    at_first (pointwise ◌==◌ text (name first)) (bytes_decides text (name first)) within (λ later. found name text w words reads later)
  where
    at_first : (same : Bool) → Decides same (text ≡ name first) → (first ≡ w) ⊎ IsIn w words → (IsIn w words → Some w ≡ word_of name words text)
        → Some w ≡ (if same then Some first else word_of name words text)
    at_first true decides within further = (reads first).1 (decides.0 refl)
    at_first false decides (inl is) further =
        let named : text ≡ name first = (reads w).0 refl ∙ ap name (sym is) in
        absurd (false≢true (decides.1 named))
    at_first false decides (inr later) further = further later

word_read : {W : Type 0} (name : W → List ℕ) (words : List W) → ((w : W) → IsIn w words) → (text : List ℕ) (r : Option W) → Reads name text r → r ≡ word_of name words text
word_read name words all text None reads = unread name text words reads
word_read name words all text (Some w) reads = found name text w words reads (all w)

-- ---- each has its table

all_severities : (w : Severity) → IsIn w severities
all_severities Indeterminate = inl refl
all_severities Warning = inr (inl refl)
all_severities Minor = inr (inr (inl refl))
all_severities Major = inr (inr (inr (inl refl)))
all_severities Critical = inr (inr (inr (inr (inl refl))))

all_statuses : (w : Status) → IsIn w statuses
all_statuses Cleared = inl refl
all_statuses (Active Indeterminate) = inr (inl refl)
all_statuses (Active Warning) = inr (inr (inl refl))
all_statuses (Active Minor) = inr (inr (inr (inl refl)))
all_statuses (Active Major) = inr (inr (inr (inr (inl refl))))
all_statuses (Active Critical) = inr (inr (inr (inr (inr (inl refl)))))

all_states : (w : OperatorState) → IsIn w states
all_states None0 = inl refl
all_states Ack = inr (inl refl)
all_states Closed = inr (inr (inl refl))
all_states Shelved = inr (inr (inr (inl refl)))
all_states UnShelved = inr (inr (inr (inr (inl refl))))

all_event_types : (w : EventType) → IsIn w event_types
all_event_types Other = inl refl
all_event_types CommunicationsAlarm = inr (inl refl)
all_event_types QualityOfServiceAlarm = inr (inr (inl refl))
all_event_types ProcessingErrorAlarm = inr (inr (inr (inl refl)))
all_event_types EquipmentAlarm = inr (inr (inr (inr (inl refl))))
all_event_types EnvironmentalAlarm = inr (inr (inr (inr (inr (inl refl)))))
all_event_types IntegrityViolation = inr (inr (inr (inr (inr (inr (inl refl))))))
all_event_types OperationalViolation = inr (inr (inr (inr (inr (inr (inr (inl refl)))))))
all_event_types PhysicalViolation = inr (inr (inr (inr (inr (inr (inr (inr (inl refl))))))))
all_event_types SecurityServiceOrMechanismViolation = inr (inr (inr (inr (inr (inr (inr (inr (inr (inl refl)))))))))
all_event_types TimeDomainViolation = inr (inr (inr (inr (inr (inr (inr (inr (inr (inr (inl refl))))))))))

pub severity_read : (text : List ℕ) (r : Option Severity) → Reads severity_name text r → r ≡ word_of severity_name severities text
severity_read = word_read severity_name severities all_severities

pub status_read : (text : List ℕ) (r : Option Status) → Reads status_name text r → r ≡ word_of status_name statuses text
status_read = word_read status_name statuses all_statuses

pub state_read : (text : List ℕ) (r : Option OperatorState) → Reads state_name text r → r ≡ word_of state_name states text
state_read = word_read state_name states all_states

pub event_type_read : (text : List ℕ) (r : Option EventType) → Reads event_type_name text r → r ≡ word_of event_type_name event_types text
event_type_read = word_read event_type_name event_types all_event_types
