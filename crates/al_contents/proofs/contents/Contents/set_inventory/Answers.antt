use Rattle.std.proofs.Common.{subst, arith}
use Rattle.al_contents.specs.Places.{AreSides}
use Rattle.al_contents.proofs.contents.Contents.set_inventory.Goals as goal

pub invariant_of-self : goal.invariant_of-self
invariant_of-self c =
    let inside = c.self.inside in
    let kept = c.self.invariant in
    let did = c.apply_moves.ensures in
    let set = c.set_sides.ensures in (
      subst (λ views. AreSides views c.set_sides.new.listed.items c.set_sides.new.shelved.items) c.as_slice.ensures.value set.sides,
      omega (arith, did.len, kept.1, set.listed_room),
      omega (arith, did.len, kept.2, set.shelved_room),
      did.maxes inside.max kept.3,
    )
