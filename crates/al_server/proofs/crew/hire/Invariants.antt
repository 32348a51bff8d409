use Rattle.std.proofs.Common.{◌≡◌, ◌+◌, ◌≤◌, length, map, vec_capacity, vec_len}
use Rattle.std.specs.VecDeque.{deque_capacity, deque_len}
use Rattle.al_serve.specs.Workers.{work_of}
use Rattle.al_server.proofs.Hiring.{Hiring}
use Rattle.al_server.proofs.crew.hire.Given as goal

abbrev pub invariant-loop-pass : goal.invariant-loop-pass
invariant-loop-pass g l = record {
  hiring : Hiring l.connections l.fn.passes.items l.passes.items (map g.N.Doors.state l.fn.doors.items) (map g.N.Doors.state l.doors.items)
      (map g.K.Clock.readings l.fn.clocks.items) (map g.K.Clock.readings l.clocks.items) (map (work_of g.N.Doors.state g.K.Clock.readings) l.workers.items);
  origin : l.origin ≡ length l.workers.items;
  few : vec_len l.workers + deque_len l.passes ≡ deque_len l.fn.passes;
  doors : deque_len l.doors ≡ deque_len l.passes;
  clocks : deque_len l.clocks ≡ deque_len l.passes;
  framers : vec_len l.framers ≡ deque_len l.passes;
  room : deque_len l.fn.passes ≤ vec_capacity l.workers;
  passes_room : deque_capacity l.passes ≡ deque_capacity l.fn.passes;
  doors_room : deque_capacity l.doors ≡ deque_capacity l.fn.doors;
}

abbrev pub decreases-loop-pass : goal.decreases-loop-pass
decreases-loop-pass g l = deque_len l.passes
