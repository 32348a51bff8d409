-- The fields of an alarm.
use Rattle.std.proofs.Common.{◌≡◌, ℕ, List, [], ◌∷◌, Option, Some, map, option_map, refl, ap, subst, sym, ◌∙◌}
use Rattle.std.specs.Prelude.{codes}
use Rattle.al_base.specs.Names.{severity_name}
use Rattle.serde_json.specs.Data.{Data, boolean, string}
use Rattle.al_fields.specs.Members.{AreRising, list_of, object_of}
use Rattle.al_model.specs.State.{AlarmState, State, shelf_name}
use Rattle.al_model.specs.declared.event.Side.{Side}
use Rattle.al_json.specs.Alarms.{alarm_fields, alarm_tree, created_on, event_type_of}
use Rattle.al_json.specs.Histories.{moment, operator_tree, status_tree}

rises : (s : State) (side : Side) (a : AlarmState) → AreRising (alarm_fields s side a)
rises s side a = refl

pub table_rises : (s : State) (side : Side) (a : AlarmState) (fields : List (List ℕ × Option Data)) → fields ≡ alarm_fields s side a → AreRising fields
table_rises s side a fields e = subst AreRising (sym e) (rises s side a)

pub table_tree : (s : State) (side : Side) (a : AlarmState) (fields : List (List ℕ × Option Data)) → fields ≡ alarm_fields s side a → object_of fields ≡ alarm_tree s side a
unfolding alarm_tree
table_tree s side a fields e = ap object_of e

-- a field more
and : (name : List ℕ) (p q : Option Data) (rest more : List (List ℕ × Option Data)) → p ≡ q → rest ≡ more → (name, p) ∷ rest ≡ (name, q) ∷ more
and name p q rest more e r = ap (λ x. (name, x) ∷ rest) e ∙ ap (λ t. (name, q) ∷ t) r

-- Fields of these names are an alarm's where each says what the alarm's does.
pub same_fields : (s : State) (side : Side) (a : AlarmState) (text type qualifier event cleared changed raised operators severity resource shelf statuses created : Option Data) → text ≡ Some (string a.text) → type ≡ Some (string a.key.type_id) → qualifier ≡ Some (string a.key.qualifier) → event ≡ event_type_of s a.key → cleared ≡ Some (boolean a.cleared) → changed ≡ Some (moment a.changed) → raised ≡ Some (moment a.raised) → operators ≡ list_of (map operator_tree a.operators) → severity ≡ Some (string (severity_name a.severity)) → resource ≡ Some (string a.key.resource) → shelf ≡ option_map string (shelf_name s a.key) → statuses ≡ list_of (map status_tree a.statuses) → created ≡ created_on side a.created → (codes "alarm-text", text) ∷ (codes "alarm-type-id", type) ∷ (codes "alarm-type-qualifier", qualifier) ∷ (codes "ietf-alarms-x733:event-type", event) ∷ (codes "is-cleared", cleared) ∷ (codes "last-changed", changed) ∷ (codes "last-raised", raised) ∷ (codes "operator-state-change", operators) ∷ (codes "perceived-severity", severity) ∷ (codes "resource", resource) ∷ (codes "shelf-name", shelf) ∷ (codes "status-change", statuses) ∷ (codes "time-created", created) ∷ [] ≡ alarm_fields s side a
same_fields s side a text type qualifier event cleared changed raised operators severity resource shelf statuses created e1 e2 e3 e4 e5 e6 e7 e8 e9 e10 e11 e12 e13 =
    and _ _ _ _ _ e1 (and _ _ _ _ _ e2 (and _ _ _ _ _ e3 (and _ _ _ _ _ e4 (and _ _ _ _ _ e5 (and _ _ _ _ _ e6 (and _ _ _ _ _ e7 (and _ _ _ _ _ e8 (and _ _ _ _ _ e9 (and _ _ _ _ _ e10 (and _ _ _ _ _ e11 (and _ _ _ _ _ e12 (and _ _ _ _ _ e13 refl))))))))))))
