-- The words and numbers of the modes.
use Rattle.std.specs.Prelude.{ℕ, List, [], ◌∷◌, codes}
use Rattle.al_notify.specs.declared.rule.Mode.{Mode}
use Rattle.al_notify.specs.declared.rule.Mode.TheVariants.{AllStateChanges, RaiseAndClear, SeverityLevel}

-- which changes are told (RFC 8632, `notify-status-changes`)
abbrev pub mode_name : Mode → List ℕ
mode_name AllStateChanges = codes "all-state-changes"
mode_name RaiseAndClear = codes "raise-and-clear"
mode_name SeverityLevel = codes "severity-level"

abbrev pub modes : List Mode
modes = AllStateChanges ∷ RaiseAndClear ∷ SeverityLevel ∷ []

-- the mode's place among them
abbrev pub mode_number : Mode → ℕ
mode_number AllStateChanges = 0
mode_number RaiseAndClear = 1
mode_number SeverityLevel = 2
