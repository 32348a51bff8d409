use Rattle.std.proofs.Common.{◌∙◌, ◌≤◌, ◌+◌, arith}
use Rattle.al_pattern.specs.Sets.{is_in}
use Rattle.al_pattern.proofs.BitLemmas.{is_in-range_end}
use Rattle.al_pattern.proofs.bits.insert_range.Goals as goal

pub returns : goal.returns
returns c k =
    let past : c.args.last + 1 ≤ c.loop-n.n = omega arith in
    let within : c.args.first ≤ c.args.last + 1 → c.loop-n.n ≤ c.args.last + 1 = λ h. omega (arith, h) in
    c.loop-n.invariant.0 k
    ∙ is_in-range_end c.args.first c.args.last c.loop-n.n k (is_in c.args.words.now k) past within c.loop-n.invariant.1
