use Rattle.std.proofs.Common.{arith}
use Rattle.al_types.specs.Known.{IsDuplicateRow}
use Rattle.al_types.proofs.Found.{none_to, none_repeated}
use Rattle.al_types.proofs.repeats.duplicate_row.Goals as goal

pub loop-n-preserved : goal.loop-n-preserved
loop-n-preserved c =
    none_to (IsDuplicateRow c.args.rows.now) c.loop-n.n c.loop-n.invariant (λ d. (let yes = c.repeats.ensures.1 d in absurd (cc)))

pub returns : goal.returns
returns c = none_repeated c.args.rows.now (λ k lt. c.loop-n.invariant k (omega arith))
