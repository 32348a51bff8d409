use Rattle.std.proofs.Common.{◌≡◌, take}
use Rattle.al_base.specs.declared.severity.Severity.TheVariants.{Indeterminate, Warning, Minor, Major, Critical}
use Rattle.al_contents.specs.Views.{states}
use Rattle.al_lists.specs.Summaries.{selected, tally_of}
use Rattle.al_lists.proofs.summary.rows.Given as goal

-- each count is that of the alarms so far
abbrev pub invariant-loop-alarm : goal.invariant-loop-alarm
invariant-loop-alarm l =
    let seen = states (take l.alarm-index l.alarms) in
    (l.critical ≡ tally_of (selected Critical seen)) × (l.major ≡ tally_of (selected Major seen))
    × (l.minor ≡ tally_of (selected Minor seen)) × (l.warning ≡ tally_of (selected Warning seen))
    × (l.indeterminate ≡ tally_of (selected Indeterminate seen))
