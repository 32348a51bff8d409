use Rattle.std.proofs.Common.{◌≡◌, ◌≤◌, ◌<◌, length, ap, ◌∙◌, arith}
use Rattle.al_model.specs.declared.decision.Reply.TheVariants.{Done}
use Rattle.al_shelf.specs.Places.{without}
use Rattle.al_lists.specs.Verdicts.{is_change}
use Rattle.al_lists.proofs.Asking.{place_is_asked, place_is_unasked}
use Rattle.al_lists.proofs.fits.is_place_asked.Goals as goal

pub returns-then-place-others : goal.returns-then-place-others
returns-then-place-others c = λ time.
    let s = c.args.contents.now.state in
    let shelf = c.args.shelf.now in
    let count : c.others.result ≡ length (without shelf.name s.shelves) = c.others.ensures ∙ ap (λ l. length (without shelf.name l)) c.shelves.ensures in
    let past : length (without shelf.name s.shelves) < c.args.place = omega (arith, c.if-place-others.true) in
    place_is_unasked s time shelf c.args.place past

pub returns : goal.returns
returns c = λ time.
    let s = c.args.contents.now.state in
    let shelf = c.args.shelf.now in
    let count : c.others.result ≡ length (without shelf.name s.shelves) = c.others.ensures ∙ ap (λ l. length (without shelf.name l)) c.shelves.ensures in
    let within : c.args.place ≤ length (without shelf.name s.shelves) = omega (arith, c.if-place-others.false) in
    place_is_asked s time shelf c.args.place Done c.is_change.result c.requires.shelves within (c.is_change.ensures ∙ ap is_change (c.judge_place.ensures time))
