use Rattle.std.proofs.Common.{take}
use Rattle.al_contents.specs.Views.{states}
use Rattle.al_lists.specs.Moves.{AreMoves, first_name}
use Rattle.al_lists.proofs.prepare.moves.Moves.to.Given as goal

abbrev pub invariant-loop-alarm : goal.invariant-loop-alarm
invariant-loop-alarm l = AreMoves l.time (first_name l.inventory l.shelves.shelves) (take l.alarm-index (states l.alarms)) l.moves
