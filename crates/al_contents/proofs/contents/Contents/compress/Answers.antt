use Rattle.std.proofs.Common.{ap, map, sym, subst, ◌∙◌, arith}
use Rattle.al_contents.specs.Places.{AreSides}
use Rattle.al_contents.specs.Views.{compressed, states}
use Rattle.al_contents.proofs.Editing.{KeepMost, compressed_maxes, compressed_sides, compressed_states, with_all, with_these}
use Rattle.al_contents.proofs.contents.Contents.compress.Goals as goal

pub invariant_of-self : goal.invariant_of-self
invariant_of-self c =
    let inside = c.self.inside in
    let kept = c.self.invariant in
    let did = c.compress.ensures in (
      subst (λ views. AreSides views inside.listed.items inside.shelved.items) (sym did.items) (compressed_sides c.args.side c.args.filter inside.alarms.items inside.listed.items inside.shelved.items kept.0),
      omega (arith, did.len, kept.1),
      omega (arith, did.len, kept.2),
      subst (KeepMost inside.max) (sym did.items) (compressed_maxes c.args.side c.args.filter inside.max inside.alarms.items kept.3),
    )

pub returns : goal.returns
returns c =
    with_all _ c.args.self.now (states c.compress.new.alarms.items) with_these (λ s. map (compressed c.args.side c.args.filter) s.alarms) c.self.view_is
    (ap states c.compress.ensures.items ∙ compressed_states c.args.side c.args.filter c.self.inside.alarms.items)
