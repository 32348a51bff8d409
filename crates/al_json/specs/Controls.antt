-- The tree of what is set (RFC 8632, container `control`).
use Rattle.std.specs.Prelude.{ℕ, List, [], ◌∷◌, Option, None, Some, codes}
use Rattle.al_base.specs.Names.{severity_name}
use Rattle.al_base.specs.declared.severity.Severity.{Severity}
use Rattle.al_fields.specs.Members.{object_of}
use Rattle.al_model.specs.State.{State}
use Rattle.al_notify.specs.declared.rule.Mode.{Mode}
use Rattle.al_notify.specs.declared.rule.Mode.TheVariants.{AllStateChanges, RaiseAndClear, SeverityLevel}
use Rattle.serde_json.specs.Data.{Data, number, string, unsigned}
use Rattle.al_json.specs.Shelves.{shelving_tree}
use Rattle.al_notify.specs.Modes.{mode_name}

-- how many status entries an alarm keeps
abbrev pub max_tree : Option ℕ → Data
max_tree None = string (codes "infinite")
max_tree (Some most) = number (unsigned most)

-- the level of the rule, which is told in the mode that goes by it
abbrev pub level_of : Mode → Severity → Option Data
level_of AllStateChanges level = None
level_of RaiseAndClear level = None
level_of SeverityLevel level = Some (string (severity_name level))

abbrev pub control_fields : State → List (List ℕ × Option Data)
control_fields s =
    (codes "alarm-shelving", Some (shelving_tree s.shelves))
    ∷ (codes "max-alarm-status-changes", Some (max_tree s.max))
    ∷ (codes "notify-severity-level", level_of s.rule.mode s.rule.level)
    ∷ (codes "notify-status-changes", Some (string (mode_name s.rule.mode)))
    ∷ []

unfoldable pub control_tree : State → Data
control_tree s = object_of (control_fields s)
