use Rattle.std.proofs.Common.{subst}
use Rattle.al_turn.proofs.Grows.{found_others}
use Rattle.al_turn.specs.Histories.{MadeByOthers, further}
use Rattle.al_turn.specs.Passes.{PassState, own_origin}
use Rattle.al_turn.proofs.seated.SeatedTurns.take.Goals as goal

pub returns-clause-others : goal.returns-clause-others
returns-clause-others g c =
    let taken = g.T.Kept.mark c.take-value.result.0 in
    let seat = c.self.inside.seat in
    let found = c.take-value.ensures.found in
    subst (λ (p : PassState). MadeByOthers (own_origin p) (further taken.entries p.view.seen.entries)) c.self.view_is
    (found_others seat.me.0.seen.entries taken.entries seat.me.0.number seat.me.0.base found.2 found.0.begins found.1)
