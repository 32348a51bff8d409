use Rattle.std.proofs.Common.{rules, refl, arith, ◌∙◌, ap}
use Rattle.al_turn.proofs.Seats.{draws_as, looks_as, is_served, waits_on}
use Rattle.al_turn.proofs.turnstile.Turnstile.wait.Goals as goal
use Rattle.al_turn.proofs.turnstile.Turnstile.wait.Goals.{in-None, in-Some+then-serving-ticket}

pub fetch_add-ticket-requires : goal.fetch_add-ticket-requires
fetch_add-ticket-requires g c = (search rules, omega arith, draws_as g.T.Kept.mark _ _ _ _ c.requires.idle c.requires.turn)

pub load-serving-requires : goal.load-serving-requires
load-serving-requires g c = (search rules, omega arith, looks_as g.T.Kept.mark _ _ _ _ _ c.loop.invariant.1 c.requires.idle.number refl)

pub loop-preserved : goal.loop-preserved
loop-preserved g c = (
  search rules,
  waits_on c.loop.seat.me c.load-serving.new.seat.me c.args.seat.now.me.0 c.fetch_add-ticket.result c.load-serving.result c.loop.invariant.1 c.load-serving.ensures.2 c.if-serving-ticket.false,
)

pub returns-clause-served : goal.returns-clause-served
returns-clause-served g c = (
  c.fetch_add-ticket.result,
  elim c.match-next.branch [
    | in-None w ↦ absurd (search rules)
    | in-Some+then-serving-ticket w ↦
        ap (λ s. s.me) w.seat-is
        ∙ is_served c.loop.seat.me w.load-serving.new.seat.me c.args.seat.now.me.0 c.fetch_add-ticket.result w.load-serving.result c.loop.invariant.1 w.load-serving.ensures.2 w.if-serving-ticket.true
  ],
)
