-- The tests of sameness hold exactly where two values are one, which the laws of equality cite.
use Rattle.std.proofs.Common.{◌≡◌, ℕ, List, refl, sym, ◌∙◌, ap}
use Rattle.std.specs.Bool.{Decides}
use Rattle.std.specs.Cmp.{booleans_Decides}
use Rattle.std.specs.Cmp.Lexicographic.{pointwise, pointwise_decides, bytes_decides}
use Rattle.std.specs.Prelude.{◌==◌, slice_index_or, [], ◌∷◌, ◌-◌}
use Rattle.std.proofs.lemmas.Bool.Decides.{Decides-and, Decides-like, Decides-eqb}
use Rattle.al_base.specs.Names.{event_type_number}
use Rattle.al_base.specs.declared.event_type.EventType.{EventType}
use Rattle.al_base.specs.declared.event_type.EventType.TheVariants.{Other, CommunicationsAlarm, QualityOfServiceAlarm, ProcessingErrorAlarm, EquipmentAlarm, EnvironmentalAlarm, IntegrityViolation, OperationalViolation, PhysicalViolation, SecurityServiceOrMechanismViolation, TimeDomainViolation}
use Rattle.al_types.specs.Inventories.{InventoryView}
use Rattle.al_types.specs.Same.{same_identity, same_row, same_inventory}
use Rattle.al_types.specs.declared.row.Identity.{Identity}
use Rattle.al_types.specs.declared.row.Row.{Row}

pub same_identity_decides : (a b : Identity) → Decides (same_identity a b) (a ≡ b)
same_identity_decides a b =
    Decides-like (same_identity a b) (λ h. λ i. record { name = h.0 i; base = h.1 i })
    (λ e. (ap (λ (x : Identity). x.name) e, ap (λ (x : Identity). x.base) e))
    (Decides-and _ _ (bytes_decides a.name b.name) (bytes_decides a.base b.base))

-- the event type of a number
event_types : List EventType
event_types =
    Other ∷ CommunicationsAlarm ∷ QualityOfServiceAlarm ∷ ProcessingErrorAlarm ∷ EquipmentAlarm ∷ EnvironmentalAlarm
    ∷ IntegrityViolation ∷ OperationalViolation ∷ PhysicalViolation ∷ SecurityServiceOrMechanismViolation ∷ TimeDomainViolation ∷ []

numbered : ℕ → EventType
numbered n = slice_index_or event_types (n - 1) Other

numbered_back : (t : EventType) → numbered (event_type_number t) ≡ t
unfolding numbered event_types
numbered_back Other = refl
numbered_back CommunicationsAlarm = refl
numbered_back QualityOfServiceAlarm = refl
numbered_back ProcessingErrorAlarm = refl
numbered_back EquipmentAlarm = refl
numbered_back EnvironmentalAlarm = refl
numbered_back IntegrityViolation = refl
numbered_back OperationalViolation = refl
numbered_back PhysicalViolation = refl
numbered_back SecurityServiceOrMechanismViolation = refl
numbered_back TimeDomainViolation = refl

pub event_type_decides : (a b : EventType) → Decides (event_type_number a == event_type_number b) (a ≡ b)
event_type_decides a b =
    Decides-like (event_type_number a == event_type_number b)
    (λ e. sym (numbered_back a) ∙ ap numbered e ∙ numbered_back b) (λ e. ap event_type_number e)
    (Decides-eqb (event_type_number a) (event_type_number b))

pub texts_decide : (a b : List (List ℕ)) → Decides (pointwise (pointwise ◌==◌) a b) (a ≡ b)
texts_decide = pointwise_decides bytes_decides

pub same_row_decides : (a b : Row) → Decides (same_row a b) (a ≡ b)
unfolding same_row
same_row_decides a b =
    Decides-like (same_row a b)
    (λ h. λ i. record {
      type_id = h.0.0.0.0.0.0 i;
      qualifier = h.0.0.0.0.0.1 i;
      resources = h.0.0.0.0.1 i;
      will_clear = h.0.0.0.1 i;
      severities = h.0.0.1 i;
      description = h.0.1 i;
      event_type = h.1 i;
    })
    (λ e. (
      (
        (
          (((ap (λ (x : Row). x.type_id) e, ap (λ (x : Row). x.qualifier) e), ap (λ (x : Row). x.resources) e), ap (λ (x : Row). x.will_clear) e),
          ap (λ (x : Row). x.severities) e,
        ),
        ap (λ (x : Row). x.description) e,
      ),
      ap (λ (x : Row). x.event_type) e,
    ))
    (Decides-and _ _ (Decides-and _ _ (Decides-and _ _ (Decides-and _ _ (Decides-and _ _ (Decides-and _ _
    (bytes_decides a.type_id b.type_id) (bytes_decides a.qualifier b.qualifier)) (texts_decide a.resources b.resources))
    (booleans_Decides a.will_clear b.will_clear)) (Decides-eqb a.severities b.severities)) (bytes_decides a.description b.description))
    (event_type_decides a.event_type b.event_type))

pub same_inventory_decides : (a b : InventoryView) → Decides (same_inventory a b) (a ≡ b)
same_inventory_decides a b =
    Decides-like (same_inventory a b) (λ h. λ i. record { identities = h.0 i; rows = h.1 i })
    (λ e. (ap (λ (x : InventoryView). x.identities) e, ap (λ (x : InventoryView). x.rows) e))
    (Decides-and _ _ (pointwise_decides same_identity_decides a.identities b.identities) (pointwise_decides same_row_decides a.rows b.rows))
