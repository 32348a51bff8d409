use Rattle.std.proofs.Common.{◌≡◌}
use Rattle.al_contents.specs.Views.{compressed_view}
use Rattle.al_contents.proofs.Editing.{done_to}
use Rattle.al_contents.proofs.edits.compress.Given as goal

abbrev pub invariant-loop-alarm : goal.invariant-loop-alarm
invariant-loop-alarm l = l.alarm-items ≡ done_to (compressed_view l.side l.filter) l.alarm-index l.fn.alarms.items
