use Rattle.std.proofs.Common.{◌≡◌, ◌+◌, ◌<◌, ◌^◌, ap, subst, sym, ◌∙◌}
use Rattle.std.proofs.lemmas.Result.{IfOk-weaker}
use Rattle.al_model.specs.History.{Fits}
use Rattle.al_model.specs.State.{State}
use Rattle.al_model.specs.Validity.{IsValid}
use Rattle.al_contents.specs.Tables.{TablesView}
use Rattle.al_lists.proofs.Preparing.{prepared_for}
use Rattle.al_lists.proofs.tables.Tables.prepare.Goals as goal

pub returns-clause-ok : goal.returns-clause-ok
returns-clause-ok c =
    let t = c.prepare.new.contents in
    let e = c.args.entry.now in
    let same : t.state ≡ c.args.self.now.state = c.prepare.ensures.state ∙ ap (λ (v : TablesView). v.state) c.self.view_is in
    IfOk-weaker c.prepare.result _ _
    (λ p h. prepared_for t e p (subst IsValid (sym c.prepare.ensures.state) c.self.invariant) (subst (λ s. Fits s e) (sym same) c.requires.fits)
    (subst (λ (s : State). s.log.sent + 1 < 2 ^ 32) (sym same) c.requires.number) h)
    c.prepare.ensures.ok
