use Rattle.std.proofs.Common.{◌≡◌, ◌<◌, ◌-◌, ◌*◌, false}
use Rattle.al_http.specs.Streams.{request_limit}
use Rattle.al_serve.specs.Left.{HasTurns, IsCounted}
use Rattle.al_serve.specs.Workers.{Serves}
use Rattle.al_serve.proofs.worker.serve.Given as goal

abbrev pub invariant-loop-served : goal.invariant-loop-served
invariant-loop-served g l = record {
  serves : Serves (g.V.Service.answers l.fn.service) (g.U.Turns.may_add l.fn.turns) l.fn.origin (g.U.Turns.seen l.fn.turns) (g.U.Turns.seen l.turns)
      (g.N.Doors.state l.fn.door) (g.N.Doors.state l.door) (g.K.Clock.readings l.fn.clock) (g.K.Clock.readings l.clock) l.served l.served l.added false;
  idle : g.U.Turns.taken l.turns ≡ false;
  left : HasTurns (g.U.Turns.left l.turns) (request_limit * (l.fn.number - l.served));
  counted : 0 < l.added → IsCounted (g.U.Turns.seen l.turns);
  identity : g.U.Turns.identity l.turns ≡ g.U.Turns.identity l.fn.turns;
  may_add : g.U.Turns.may_add l.turns ≡ g.U.Turns.may_add l.fn.turns;
  same : l.service ≡ l.fn.service;
}
