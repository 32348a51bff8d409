-- The summary of the alarm list (RFC 8632, container `summary`).
use Rattle.std.specs.Prelude.{ℕ, ◌==◌, Bool, false, not, ◌&&◌, List, [], ◌∷◌, filter, length, map}
use Rattle.std.specs.List.{count_by, list_any}
use Rattle.al_base.specs.Names.{rank_of}
use Rattle.al_base.specs.declared.operator.OperatorState.TheVariants.{Closed}
use Rattle.al_base.specs.declared.severity.Severity.{Severity}
use Rattle.al_base.specs.declared.severity.Severity.TheVariants.{Indeterminate, Warning, Minor, Major, Critical}
use Rattle.al_select.specs.Filters.{same_state}
use Rattle.al_model.specs.State.{AlarmState, State, is_shelved, listed}
use Rattle.al_model.specs.declared.entry.OperatorEntry.{OperatorEntry}

-- the newest operator entry closes the alarm
abbrev pub is_closed : List OperatorEntry → Bool
is_closed [] = false
is_closed (e ∷ rest) = same_state e.state Closed

-- how many alarms there are: all, those not cleared and cleared, the cleared ones not closed and closed, the others closed and not closed
abbrev pub counts_of : List AlarmState → List ℕ
counts_of alarms =
    length alarms
    ∷ count_by (λ a. not a.cleared) alarms
    ∷ count_by (λ a. a.cleared) alarms
    ∷ count_by (λ a. a.cleared && not (is_closed a.operators)) alarms
    ∷ count_by (λ a. a.cleared && is_closed a.operators) alarms
    ∷ count_by (λ a. not a.cleared && is_closed a.operators) alarms
    ∷ count_by (λ a. not a.cleared && not (is_closed a.operators)) alarms
    ∷ []

abbrev pub falling_severities : List Severity
falling_severities = Critical ∷ Major ∷ Minor ∷ Warning ∷ Indeterminate ∷ []

-- the counts of the alarms of the list by perceived severity, from critical down
abbrev pub summary_of : State → List (List ℕ)
summary_of s = map (λ severity. counts_of (filter (λ a. rank_of a.severity == rank_of severity) (listed s))) falling_severities

-- whether any alarm is on a shelf
abbrev pub has_shelved : State → Bool
has_shelved s = list_any (λ a. is_shelved s a.key) s.alarms
