use Rattle.std.proofs.Common.{◌≡◌, suc}
use Rattle.al_contents.proofs.Editing.{done_to}
use Rattle.al_contents.proofs.places.move_up.Given as goal

abbrev pub invariant-loop-place : goal.invariant-loop-place
invariant-loop-place l = l.places ≡ done_to suc l.place-index l.fn.places
