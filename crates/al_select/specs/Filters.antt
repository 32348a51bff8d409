-- Which alarms filters take, as functions.
use Rattle.std.specs.Prelude.{ℕ, ◌-◌, ◌==◌, nat_lt, Bool, true, false, not, ◌&&◌, Option, None, Some, List}
use Rattle.std.specs.Option.{option_map, option_map_or, unwrap_or}
use Rattle.al_base.specs.Names.{rank_of, state_number}
use Rattle.al_base.specs.declared.operator.OperatorState.{OperatorState}
use Rattle.al_base.specs.declared.operator.OperatorState.TheVariants.{None0}
use Rattle.al_base.specs.declared.severity.Severity.{Severity}
use Rattle.al_ids.specs.Matching.{matches}
use Rattle.al_ids.specs.declared.key.AlarmKey.{AlarmKey}
use Rattle.al_select.specs.declared.compress.CompressFilter.{CompressFilter}
use Rattle.al_select.specs.declared.facts.AlarmFacts.{AlarmFacts}
use Rattle.al_select.specs.declared.purge.Clearance.{Clearance}
use Rattle.al_select.specs.declared.purge.Clearance.TheVariants.{Any, Cleared, NotCleared}
use Rattle.al_select.specs.declared.purge.Compare.{Compare}
use Rattle.al_select.specs.declared.purge.Compare.TheVariants.{Below, Equal, Above}
use Rattle.al_select.specs.declared.purge.PurgeFilter.{PurgeFilter}
use Rattle.al_base.specs.Texts.{same_text}

-- what a purge asks of an alarm; the newest operator entry is its state and its operator
pub record Facts : Type 0 where
  pub cleared : Bool
  pub severity : Severity
  pub changed : ℕ
  pub newest : Option (OperatorState × List ℕ)

-- what the code is handed of them
abbrev pub facts_of : AlarmFacts → Facts
facts_of facts =
    record { cleared = facts.cleared; severity = facts.severity; changed = facts.changed; newest = option_map (λ n. (n.0, n.1.now)) facts.newest }

-- An alarm without operator entries has the state none and no operator.
abbrev pub state_of : Facts → OperatorState
state_of facts = unwrap_or (option_map (λ n. n.0) facts.newest) None0

abbrev pub operator_of : Facts → Option (List ℕ)
operator_of facts = option_map (λ n. n.1) facts.newest

-- ---- the filter of a purge

abbrev pub has_clearance : Clearance → Bool → Bool
has_clearance Any cleared = true
has_clearance Cleared cleared = cleared
has_clearance NotCleared cleared = not cleared

-- the last change is longer ago than the age, in milliseconds
abbrev pub is_older : ℕ → ℕ → ℕ → Bool
is_older time changed age = nat_lt age (time - changed)

-- how the severity stands to the given one
abbrev pub stands : Compare → Severity → Severity → Bool
stands Below severity given = nat_lt (rank_of severity) (rank_of given)
stands Equal severity given = rank_of severity == rank_of given
stands Above severity given = nat_lt (rank_of given) (rank_of severity)

abbrev pub same_state : OperatorState → OperatorState → Bool
same_state a b = state_number a == state_number b

-- there is an operator, and it is this one
abbrev pub is_by : Option (List ℕ) → List ℕ → Bool
is_by None user = false
is_by (Some operator) user = same_text operator user

-- whether a purge at the time takes an alarm of these facts
unfoldable pub purge_takes : PurgeFilter → Facts → ℕ → Bool
purge_takes filter facts time =
    has_clearance filter.clearance facts.cleared
    && option_map_or (is_older time facts.changed) filter.age true
    && option_map_or (λ s. stands s.0 facts.severity s.1) filter.severity true
    && option_map_or (same_state (state_of facts)) filter.state true
    && option_map_or (is_by (operator_of facts)) filter.user true

-- ---- the filter of a compression

-- whether a compression takes the alarm of the key
unfoldable pub compress_takes : CompressFilter → AlarmKey → Bool
compress_takes filter key =
    option_map_or (λ m. matches m key.resource) filter.resource true
    && option_map_or (same_text key.type_id) filter.type_id true
    && option_map_or (same_text key.qualifier) filter.qualifier true
