use Rattle.std.proofs.Common.{◌≡◌}
use Rattle.al_contents.specs.Views.{with_max}
use Rattle.al_contents.proofs.Editing.{done_to}
use Rattle.al_contents.proofs.edits.set_max.Given as goal

abbrev pub invariant-loop-alarm : goal.invariant-loop-alarm
invariant-loop-alarm l = l.alarm-items ≡ done_to (with_max l.max) l.alarm-index l.fn.alarms.items
