use Rattle.std.proofs.Common.{◌+◌, ◌<◌, ◌^◌, IfSome, ap, sym, subst, ◌∙◌}
use Rattle.al_model.specs.Step.{built}
use Rattle.al_model.specs.Validity.{IsValid}
use Rattle.al_contents.specs.Changes.{HasRoom}
use Rattle.al_lists.specs.Prepared.{with_prepared}
use Rattle.al_lists.proofs.Applying.{change_log}
use Rattle.al_lists.proofs.tables.Tables.apply.Goals as goal

pub carry-requires : goal.carry-requires
carry-requires c = subst (λ t. HasRoom t c.args.prepared.change) (sym c.self.view_is) c.requires.room

pub conclude-requires : goal.conclude-requires
conclude-requires c =
    let p = c.args.prepared in
    let same = ap (λ s. s.log) c.carry.ensures ∙ change_log p.time p.change c.self.inside.contents.state ∙ ap (λ t. t.state.log) c.self.view_is in
    subst (λ log. IfSome p.note (λ _. log.sent + 1 < 2 ^ 32)) (sym same) c.requires.number

pub invariant_of-self : goal.invariant_of-self
unfolding with_prepared
invariant_of-self c =
    let p = c.args.prepared in
    let gives = c.conclude.ensures ∙ ap (λ s. built s s.alarms p.note p.list p.shelf p.time) c.carry.ensures ∙ ap (λ t. with_prepared t.state p) c.self.view_is in
    subst IsValid (sym gives) c.requires.valid

pub returns : goal.returns
unfolding with_prepared
returns c =
    let p = c.args.prepared in
    c.conclude.ensures ∙ ap (λ s. built s s.alarms p.note p.list p.shelf p.time) c.carry.ensures ∙ ap (λ t. with_prepared t.state p) c.self.view_is
