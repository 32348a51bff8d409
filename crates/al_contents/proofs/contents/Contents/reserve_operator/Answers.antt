use Rattle.std.proofs.Common.{arith}
use Rattle.al_contents.proofs.Editing.{reserves_sides}
use Rattle.al_contents.proofs.contents.Contents.reserve_operator.Goals as goal

pub invariant_of-self : goal.invariant_of-self
invariant_of-self c =
    let inside = c.self.inside in
    let kept = c.self.invariant in
    let did = c.reserve_operator_at.ensures in (
      reserves_sides inside.alarms.items c.reserve_operator_at.new.alarms.items inside.listed.items inside.shelved.items did.same kept.0,
      omega (arith, did.len, kept.1),
      omega (arith, did.len, kept.2),
      did.same.maxes inside.max kept.3,
    )
