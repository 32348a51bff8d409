use Rattle.std.proofs.Common.{arith}
use Rattle.al_model.specs.Alarms.{reported}
use Rattle.al_contents.specs.Edits.{at_place}
use Rattle.al_contents.specs.Views.{states}
use Rattle.al_contents.proofs.Editing.{changed_maxes, changed_sides, changed_states, reported_mark, with_all, with_these}
use Rattle.al_contents.proofs.contents.Contents.report.Goals as goal

pub invariant_of-self : goal.invariant_of-self
invariant_of-self c =
    let inside = c.self.inside in
    let kept = c.self.invariant in
    let did = c.report_at.ensures in
    let after = c.report_at.new.alarms.items in (
      changed_sides (λ max. reported max c.args.time c.args.status c.args.text) c.args.place inside.alarms.items after inside.listed.items inside.shelved.items
          (λ view stands. reported_mark view.max c.args.time c.args.status c.args.text view.state) did.change kept.0,
      omega (arith, did.len, kept.1),
      omega (arith, did.len, kept.2),
      changed_maxes (λ max. reported max c.args.time c.args.status c.args.text) c.args.place inside.alarms.items after inside.max kept.3 did.change,
    )

pub returns : goal.returns
returns c =
    with_all _ c.args.self.now (states c.report_at.new.alarms.items) with_these (λ s. at_place c.args.place (reported s.max c.args.time c.args.status c.args.text) s.alarms) c.self.view_is
    (changed_states (λ max. reported max c.args.time c.args.status c.args.text) c.args.place c.self.inside.alarms.items c.report_at.new.alarms.items c.self.inside.max c.self.invariant.3 c.report_at.ensures.change)
