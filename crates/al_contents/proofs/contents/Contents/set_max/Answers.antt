use Rattle.std.proofs.Common.{ap, map, sym, subst, ◌∙◌, arith}
use Rattle.al_model.specs.Alarms.{bounded}
use Rattle.al_contents.specs.Places.{AreSides}
use Rattle.al_contents.specs.Views.{states}
use Rattle.al_contents.proofs.Editing.{KeepMost, max_maxes, max_sides, max_states, with_all}
use Rattle.al_contents.proofs.contents.Contents.set_max.Goals as goal

pub invariant_of-self : goal.invariant_of-self
invariant_of-self c =
    let inside = c.self.inside in
    let kept = c.self.invariant in
    let did = c.set_max.ensures in (
      subst (λ views. AreSides views inside.listed.items inside.shelved.items) (sym did.items) (max_sides c.args.max inside.alarms.items inside.listed.items inside.shelved.items kept.0),
      omega (arith, did.len, kept.1),
      omega (arith, did.len, kept.2),
      subst (KeepMost c.args.max) (sym did.items) (max_maxes c.args.max inside.alarms.items),
    )

pub returns : goal.returns
returns c =
    with_all _ c.args.self.now (states c.set_max.new.alarms.items) (λ s alarms. record s { max = c.args.max; alarms = alarms }) (λ s. map (bounded c.args.max) s.alarms) c.self.view_is
    (ap states c.set_max.ensures.items ∙ max_states c.args.max c.self.inside.alarms.items)
