-- Alarms of one severity, told apart by what became of them, and counted.
use Rattle.std.specs.Prelude.{ℕ, ◌+◌, ◌==◌, ◌≤◌, Bool, true, false, not, ◌&&◌, List, [], ◌∷◌, filter, if◌then◌else◌}
use Rattle.std.specs.List.{count_by}
use Rattle.al_base.specs.Names.{rank_of}
use Rattle.al_base.specs.declared.severity.Severity.{Severity}
use Rattle.al_model.specs.State.{AlarmState}
use Rattle.al_model.specs.Summary.{is_closed}
use Rattle.al_contents.specs.Views.{is_unmarked}
use Rattle.al_lists.specs.declared.summary.Tally.{Tally}

-- whether the alarm is on the list and of the severity
abbrev pub is_selected : Severity → AlarmState → Bool
is_selected severity a = is_unmarked a && rank_of a.severity == rank_of severity

abbrev pub selected : Severity → List AlarmState → List AlarmState
selected severity alarms = filter (is_selected severity) alarms

-- the counts of these alarms
abbrev pub tally_of : List AlarmState → Tally
tally_of alarms =
    record {
      active = count_by (λ a. not a.cleared && not (is_closed a.operators)) alarms;
      active_closed = count_by (λ a. not a.cleared && is_closed a.operators) alarms;
      cleared = count_by (λ a. a.cleared && not (is_closed a.operators)) alarms;
      cleared_closed = count_by (λ a. a.cleared && is_closed a.operators) alarms;
    }

-- the counts with one more alarm, by whether it is cleared, and whether it is closed
abbrev pub counted : Bool → Bool → Tally → Tally
counted false false t = record t { active = t.active + 1 }
counted false true t = record t { active_closed = t.active_closed + 1 }
counted true false t = record t { cleared = t.cleared + 1 }
counted true true t = record t { cleared_closed = t.cleared_closed + 1 }

-- the counts with the alarm, if it is on the list and of the severity
abbrev pub tallied : Severity → AlarmState → Tally → Tally
tallied severity a t = if is_selected severity a then counted a.cleared (is_closed a.operators) t else t

-- all alarms, those not cleared and cleared, the cleared ones not closed and closed, the others closed and not closed
abbrev pub row_of : Tally → List ℕ
row_of t =
    (t.active_closed + t.active + (t.cleared_closed + t.cleared)) ∷ (t.active_closed + t.active) ∷ (t.cleared_closed + t.cleared) ∷ t.cleared
    ∷ t.cleared_closed ∷ t.active_closed ∷ t.active ∷ []

-- Each count is at most the number.
pub record AreAtMost (most : ℕ) (t : Tally) : Type 0 where
  pub active : t.active ≤ most
  pub active_closed : t.active_closed ≤ most
  pub cleared : t.cleared ≤ most
  pub cleared_closed : t.cleared_closed ≤ most
