use Rattle.std.proofs.Common.{◌-◌, ◌≤◌, length, take}
use Rattle.std.specs.Io.KnownBytes.{Appends}
use Rattle.al_http.proofs.sending.write_all.Given as goal

abbrev pub invariant-loop-taken : goal.invariant-loop-taken
invariant-loop-taken g l =
    record {
      within : l.taken ≤ length l.bytes;
      written : Appends (g.O.Sink.held l.fn.sink) (g.O.Sink.held l.sink) (take l.taken l.bytes);
      later : g.O.Sink.faults l.fn.sink ≤ g.O.Sink.faults l.sink;
    }

abbrev pub decreases-loop-taken : goal.decreases-loop-taken
decreases-loop-taken g l = length l.bytes - l.taken
