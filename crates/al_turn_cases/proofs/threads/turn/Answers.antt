use Rattle.std.proofs.Common.{ℕ, Bool, subst, sym}
use Rattle.al_model.specs.declared.kept.Mark.{Mark}
use Rattle.al_turn.specs.Histories.{MadeBy, further}
use Rattle.al_turn_cases.proofs.threads.turn.Goals as goal

pub put-requires-clause-own : goal.put-requires-clause-own
put-requires-clause-own g c =
    let taken = c.take-tally.ensures in
    let may_add = g.U.Turns.may_add c.args.turns.now in
    let now = c.add.new.self.entries.items in
    let seen = g.U.Turns.seen c.take-tally.new.self in
    subst (λ (o : ℕ → Bool). MadeBy o (further now seen.entries)) (sym taken.may_add)
    (subst (λ (m : Mark). MadeBy may_add (further now m.entries)) (sym taken.seen) (c.add.ensures.own may_add c.requires.own))
