use Rattle.std.specs.Cmp.Lexicographic.{pointwise_decides}
use Rattle.al_base.proofs.list.ListPartialEq.eq.Goals as goal

pub returns-clause-exact : goal.returns-clause-exact
returns-clause-exact g c exact =
    rw (c.eq.ensures, c.as_slice.ensures, c.as_slice-2.ensures) (pointwise_decides exact c.args.self.now c.args.other.now)
