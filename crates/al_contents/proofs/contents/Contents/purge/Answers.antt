use Rattle.std.proofs.Common.{ap, not, sym, subst, ◌∙◌, arith}
use Rattle.std.specs.List.{filter}
use Rattle.al_contents.specs.Places.{AreSides}
use Rattle.al_contents.specs.Views.{goes, states}
use Rattle.al_contents.proofs.Editing.{KeepMost, kept_maxes, kept_states, with_all, with_these}
use Rattle.al_contents.proofs.contents.Contents.purge.Goals as goal

pub invariant_of-self : goal.invariant_of-self
invariant_of-self c =
    let inside = c.self.inside in
    let kept = c.self.invariant in
    let did = c.purge.ensures in
    let set = c.set_sides.ensures in (
      subst (λ views. AreSides views c.set_sides.new.listed.items c.set_sides.new.shelved.items) c.as_slice.ensures.value set.sides,
      omega (arith, did.len, kept.1, set.listed_room),
      omega (arith, did.len, kept.2, set.shelved_room),
      subst (KeepMost inside.max) (sym did.items) (kept_maxes (λ a. not (goes c.args.side c.args.filter c.ms.result a)) inside.max inside.alarms.items kept.3),
    )

pub returns : goal.returns
returns c =
    with_all _ c.args.self.now (states c.purge.new.alarms.items) with_these (λ s. filter (λ a. not (goes c.args.side c.args.filter c.args.time a)) s.alarms) c.self.view_is
    (ap states c.purge.ensures.items ∙ kept_states (λ a. not (goes c.args.side c.args.filter c.ms.result a)) c.self.inside.alarms.items
    ∙ ap (λ time. filter (λ a. not (goes c.args.side c.args.filter time a)) (states c.self.inside.alarms.items)) c.ms.ensures.value)
