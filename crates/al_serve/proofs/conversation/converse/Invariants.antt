use Rattle.std.proofs.Common.{◌≡◌, ◌≤◌, ◌<◌, false}
use Rattle.al_http.specs.Moves.{stream_of}
use Rattle.al_serve.proofs.Turning.{SoFar}
use Rattle.al_serve.specs.Left.{IsCounted, turns_less}
use Rattle.al_serve.proofs.conversation.converse.Given as goal

abbrev pub invariant-loop-served : goal.invariant-loop-served
invariant-loop-served g l = record {
  so_far : SoFar (g.V.Service.answers l.fn.service) (g.U.Turns.may_add l.fn.turns) l.fn.origin (g.U.Turns.seen l.fn.turns) (g.U.Turns.seen l.turns) (g.S.Source.left l.fn.source) (stream_of l.framer (g.S.Source.left l.source))
      (record { old_output = g.O.Sink.held l.fn.sink; new_output = g.O.Sink.held l.sink; old_clock = g.K.Clock.readings l.fn.clock; new_clock = g.K.Clock.readings l.clock })
      l.served l.entries;
  few : l.entries ≤ l.served;
  idle : g.U.Turns.taken l.turns ≡ false;
  left : g.U.Turns.left l.turns ≡ turns_less (g.U.Turns.left l.fn.turns) l.served;
  counted : 0 < l.served → IsCounted (g.U.Turns.seen l.turns);
  identity : g.U.Turns.identity l.turns ≡ g.U.Turns.identity l.fn.turns;
  may_add : g.U.Turns.may_add l.turns ≡ g.U.Turns.may_add l.fn.turns;
  same : l.service ≡ l.fn.service;
  later_source : g.S.Source.faults l.fn.source ≤ g.S.Source.faults l.source;
  later_sink : g.O.Sink.faults l.fn.sink ≤ g.O.Sink.faults l.sink;
}
