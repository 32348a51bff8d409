use Rattle.std.proofs.Common.{Some, ap, arith}
use Rattle.al_model.specs.Alarms.{with_operator}
use Rattle.al_contents.specs.Edits.{at_place}
use Rattle.al_contents.specs.Views.{states}
use Rattle.al_contents.proofs.Editing.{changed_maxes, changed_sides, changed_states, operated_mark, with_all, with_these}
use Rattle.al_contents.proofs.contents.Contents.operate.Goals as goal

pub invariant_of-self : goal.invariant_of-self
invariant_of-self c =
    let inside = c.self.inside in
    let kept = c.self.invariant in
    let did = c.operate_at.ensures in
    let after = c.operate_at.new.alarms.items in (
      changed_sides (λ max. with_operator (Some c.args.entry)) c.args.place inside.alarms.items after inside.listed.items inside.shelved.items
          (operated_mark c.args.entry inside.alarms.items c.args.self.now.state.alarms c.args.place (ap (λ t. t.state.alarms) c.self.view_is) c.requires.listed c.requires.stays) did.change kept.0,
      omega (arith, did.len, kept.1),
      omega (arith, did.len, kept.2),
      changed_maxes (λ max. with_operator (Some c.args.entry)) c.args.place inside.alarms.items after inside.max kept.3 did.change,
    )

pub returns : goal.returns
returns c =
    with_all _ c.args.self.now (states c.operate_at.new.alarms.items) with_these (λ s. at_place c.args.place (with_operator (Some c.args.entry)) s.alarms) c.self.view_is
    (changed_states (λ max. with_operator (Some c.args.entry)) c.args.place c.self.inside.alarms.items c.operate_at.new.alarms.items c.self.inside.max c.self.invariant.3 c.operate_at.ensures.change)
