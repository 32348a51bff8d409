use Rattle.std.proofs.Common.{ap, ◌∙◌}
use Rattle.std.proofs.lemmas.Result.{IfOk-weaker}
use Rattle.al_shelf.specs.Places.{ShelvesView, without}
use Rattle.al_lists.proofs.Preparing.{drop_prepared}
use Rattle.al_lists.proofs.prepare.shelve.drop_shelf.Goals as goal

pub returns-clause-ok : goal.returns-clause-ok
returns-clause-ok c =
    let s = c.args.contents.now.state in
    let t = c.reshelve.new.contents in
    let name = c.args.name.now in
    let shelves = c.remove.new.self in
    IfOk-weaker c.reshelve.result _ _
    (λ p h. drop_prepared s t c.args.time name shelves.shelves p c.reshelve.ensures.state c.requires.valid
    (c.remove.ensures.shelves ∙ ap (λ (v : ShelvesView). without name v.shelves) c.in_ok-shelves.ensures ∙ ap (without name) c.shelves.ensures) h)
    c.reshelve.ensures.ok
