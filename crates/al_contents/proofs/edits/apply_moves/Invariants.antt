use Rattle.std.proofs.Common.{◌≡◌, vec_capacity, vec_len}
use Rattle.al_contents.specs.Edits.{AreMaxesKept, HaveRoom, after_moves}
use Rattle.al_contents.specs.Views.{states}
use Rattle.al_contents.proofs.edits.apply_moves.Given as goal

-- what is still to be done makes what was to be done
abbrev pub invariant-loop-entry : goal.invariant-loop-entry
invariant-loop-entry l = record {
  still : after_moves l.moves.items (states l.alarms.items) ≡ after_moves l.fn.moves.items (states l.fn.alarms.items);
  room : HaveRoom l.moves.items l.alarms.items;
  maxes : AreMaxesKept l.fn.alarms.items l.alarms.items;
  capacity : vec_capacity l.alarms ≡ vec_capacity l.fn.alarms;
  count : vec_len l.alarms ≡ vec_len l.fn.alarms;
}

abbrev pub decreases-loop-entry : goal.decreases-loop-entry
decreases-loop-entry l = vec_len l.moves
