use Rattle.std.proofs.Common.{◌+◌, ◌≤◌, map}
use Rattle.std.specs.VecDeque.{deque_capacity, deque_len}
use Rattle.al_serve.specs.Workers.{work_of}
use Rattle.al_server.proofs.Hiring.{Dismissing}
use Rattle.al_server.proofs.crew.dismiss.Given as goal

abbrev pub invariant-loop-worker : goal.invariant-loop-worker
invariant-loop-worker g l = record {
  dismissing : Dismissing (map (work_of g.N.Doors.state g.K.Clock.readings) l.initial.workers.items) (map (work_of g.N.Doors.state g.K.Clock.readings) l.workers.items)
      l.passes.items (map g.N.Doors.state l.doors.items) l.connections l.faulted;
  passes : deque_len l.passes + deque_len l.workers ≤ deque_capacity l.passes;
  doors : deque_len l.doors + deque_len l.workers ≤ deque_capacity l.doors;
}

abbrev pub decreases-loop-worker : goal.decreases-loop-worker
decreases-loop-worker g l = deque_len l.workers
