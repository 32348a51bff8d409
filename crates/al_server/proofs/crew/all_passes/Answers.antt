use Rattle.std.proofs.Common.{ap, arith, ◌∙◌}
use Rattle.al_turn.specs.Views.{one_more}
use Rattle.al_server.proofs.Fresh.{next_fresh}
use Rattle.al_server.proofs.Hiring.{counted_more}
use Rattle.al_server.proofs.crew.all_passes.Goals as goal

pub loop-preserved : goal.loop-preserved
loop-preserved g c =
    let inv = c.loop.invariant in
    let kept = c.split-kept.ensures.first in
    let next = c.split-kept.ensures.second in
    let passes = c.push_back_reserved.ensures in
    record {
      table = kept.0 ∙ inv.table;
      first = kept.1 ∙ ap one_more inv.first;
      others = next_fresh _ _ _ _ _ _ inv.table inv.first inv.counted next.0 next.1 passes.items inv.others;
      counted = counted_more _ _ _ _ passes.items inv.counted;
      len = omega (arith, inv.len, passes.len);
      room = omega (arith, inv.room, passes.capacity);
    }
