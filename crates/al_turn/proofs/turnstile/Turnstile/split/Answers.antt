use Rattle.std.proofs.Common.{ap, arith, rules}
use Rattle.al_turn.proofs.Splits.{splits}
use Rattle.al_turn.proofs.turnstile.Turnstile.split.Goals as goal

pub split_seat-second-requires : goal.split_seat-second-requires
split_seat-second-requires g c =
    let first = c.requires.first in
    let few = c.requires.few in
    let number = ap (λ p. p.view.number) c.pass.view_is in
    let made = ap (λ p. p.view.made) c.pass.view_is in
    (search rules, omega arith, splits g.T.Kept.mark _ _ _ (omega arith) c.pass.invariant.stage (omega arith))
