use Rattle.std.proofs.Common.{◌≡◌, drop}
use Rattle.al_ids.specs.PathReading.{stop_from}
use Rattle.al_ids.proofs.path.State.stop.Given as goal

abbrev pub invariant-loop-place : goal.invariant-loop-place
invariant-loop-place l = stop_from l.place (drop l.place l.text) l.state ≡ stop_from 0 l.text l.fn.self
