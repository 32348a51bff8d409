use Rattle.std.proofs.Common.{◌<◌, ◌≤◌, length, ap, subst, sym, ◌∙◌}
use Rattle.std.specs.List.{insert}
use Rattle.std.proofs.lemmas.Result.{IfOk-weaker}
use Rattle.al_shelf.specs.Places.{without}
use Rattle.al_lists.proofs.Preparing.{put_prepared, puttable}
use Rattle.al_lists.proofs.prepare.shelve.put.Goals as goal

pub with_shelf-requires-clause-few : goal.with_shelf-requires-clause-few
with_shelf-requires-clause-few c =
    let shelf = c.args.shelf.now in
    subst (λ xs. length (without shelf.name xs) < 64) (sym c.shelves.ensures) (puttable c.args.contents.now.state c.args.time shelf c.args.at c.requires.comes).few

pub with_shelf-requires-clause-within : goal.with_shelf-requires-clause-within
with_shelf-requires-clause-within c =
    let shelf = c.args.shelf.now in
    subst (λ xs. c.from.result ≤ length (without shelf.name xs)) (sym c.shelves.ensures)
    (subst (λ n. n ≤ length (without shelf.name c.args.contents.now.state.shelves)) (sym c.from.ensures)
    (puttable c.args.contents.now.state c.args.time shelf c.args.at c.requires.comes).within)

pub returns-clause-ok : goal.returns-clause-ok
returns-clause-ok c =
    let s = c.args.contents.now.state in
    let t = c.reshelve.new.contents in
    let shelf = c.args.shelf.now in
    let at = c.args.at in
    let shelves = c.in_ok-shelves.shelves in
    IfOk-weaker c.reshelve.result _ _
    (λ p h. put_prepared s t c.args.time shelf at shelves.shelves p c.reshelve.ensures.state c.requires.valid
    (c.in_ok-shelves.ensures ∙ ap (λ xs. insert (without shelf.name xs) c.from.result shelf) c.shelves.ensures
    ∙ ap (λ n. insert (without shelf.name s.shelves) n shelf) c.from.ensures) h)
    c.reshelve.ensures.ok
