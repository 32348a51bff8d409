use Rattle.std.proofs.Common.{◌≤◌, length, take}
use Rattle.al_http.specs.Fronts.{Gathers}
use Rattle.al_http.specs.Responses.{escaped}
use Rattle.al_http.proofs.sending.send_escaped.Given as goal

abbrev pub invariant-loop-byte : goal.invariant-loop-byte
invariant-loop-byte g l =
    record {
      gathered : Gathers (g.O.Sink.held l.fn.sink) (g.O.Sink.held l.sink) l.fn.buffer l.buffer (escaped (take l.byte-index l.name));
      room : length l.buffer ≤ 703;
      later : g.O.Sink.faults l.fn.sink ≤ g.O.Sink.faults l.sink;
    }
