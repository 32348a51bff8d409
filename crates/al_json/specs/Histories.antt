-- The trees of an alarm's histories (RFC 8632, lists `status-change` and `operator-state-change`).
use Rattle.std.specs.Prelude.{ℕ, List, [], ◌∷◌, Option, Some, codes, option_map}
use Rattle.al_base.specs.Names.{state_name, status_name}
use Rattle.al_base.specs.Times.{stamp_text}
use Rattle.al_fields.specs.Members.{object_of}
use Rattle.al_model.specs.declared.entry.OperatorEntry.{OperatorEntry}
use Rattle.al_model.specs.declared.entry.StatusEntry.{StatusEntry}
use Rattle.serde_json.specs.Data.{Data, string}

-- a moment, as `2024-05-01T10:00:00.000Z`
abbrev pub moment : ℕ → Data
moment time = string (stamp_text time)

abbrev pub status_fields : StatusEntry → List (List ℕ × Option Data)
status_fields e =
    (codes "alarm-text", Some (string e.text))
    ∷ (codes "perceived-severity", Some (string (status_name e.status)))
    ∷ (codes "time", Some (moment e.time))
    ∷ []

unfoldable pub status_tree : StatusEntry → Data
status_tree e = object_of (status_fields e)

abbrev pub operator_fields : OperatorEntry → List (List ℕ × Option Data)
operator_fields e =
    (codes "operator", Some (string e.operator))
    ∷ (codes "state", Some (string (state_name e.state)))
    ∷ (codes "text", option_map string e.text)
    ∷ (codes "time", Some (moment e.time))
    ∷ []

unfoldable pub operator_tree : OperatorEntry → Data
operator_tree e = object_of (operator_fields e)
