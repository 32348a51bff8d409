-- Which status changes are told.
use Rattle.std.specs.Prelude.{nat_le, Bool, true, false, not, ◌||◌, Option, None, Some}
use Rattle.al_base.specs.Names.{rank_of}
use Rattle.al_base.specs.declared.severity.Severity.{Severity}
use Rattle.al_base.specs.declared.severity.Status.{Status}
use Rattle.al_base.specs.declared.severity.Status.TheVariants.{Cleared, Active}
use Rattle.al_notify.specs.declared.rule.Mode.{Mode}
use Rattle.al_notify.specs.declared.rule.Mode.TheVariants.{AllStateChanges, RaiseAndClear, SeverityLevel}
use Rattle.al_notify.specs.declared.rule.NotifyRule.{NotifyRule}

-- what an alarm was before: nothing, cleared, or active
abbrev pub was_active : Option Status → Bool
was_active None = false
was_active (Some Cleared) = false
was_active (Some (Active severity)) = true

-- it was active with a severity at or above the level
abbrev pub was_at_level : Severity → Option Status → Bool
was_at_level level None = false
was_at_level level (Some Cleared) = false
was_at_level level (Some (Active severity)) = nat_le (rank_of level) (rank_of severity)

-- a change to a severity
abbrev pub sends_active : Mode → Severity → Option Status → Severity → Bool
sends_active AllStateChanges level before severity = true
-- from nothing or from a clear alone
sends_active RaiseAndClear level before severity = not (was_active before)
-- to one at or above the level, or down from there
sends_active SeverityLevel level before severity = nat_le (rank_of level) (rank_of severity) || was_at_level level before

-- Whether the rule tells a change of an alarm's status from the one before, if there was one. A clear is told in every mode.
unfoldable pub sends : NotifyRule → Option Status → Status → Bool
sends rule before Cleared = true
sends rule before (Active severity) = sends_active rule.mode rule.level before severity
