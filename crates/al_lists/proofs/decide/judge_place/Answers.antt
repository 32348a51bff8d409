use Rattle.std.proofs.Common.{◌≡◌, None, Some, length, not, ap, ◌∙◌, subst, ◌||◌}
use Rattle.std.specs.Bool.{Decides, nat_lt}
use Rattle.std.specs.List.{slice_get}
use Rattle.std.specs.Option.{is_some}
use Rattle.al_base.specs.Limits.{most_shelves}
use Rattle.al_shelf.specs.Places.{place_of}
use Rattle.al_lists.specs.Verdicts.{judged}
use Rattle.al_lists.proofs.Judging.{place_judged}
use Rattle.al_lists.proofs.decide.judge_place.Goals as goal

pub returns : goal.returns
returns c = λ time.
    let s = c.args.contents.now.state in
    let shelf = c.args.shelf.now in
    let place = c.args.place in
    let there = c.stands_at-there.result in
    let fits = c.shelf_fits-fits.result in
    let shelves = c.shelves-shelves.ensures in
    let stands : Decides there (slice_get s.shelves place ≡ Some shelf) = subst (λ l. Decides there (slice_get l place ≡ Some shelf)) shelves c.stands_at-there.ensures in
    c.judge.ensures ∙ ap (λ room. judged None (not there) room c.args.reply) c.room.ensures
    ∙ place_judged s time shelf place there fits c.args.reply c.requires.valid.shelves c.requires.within stands
    (c.shelf_fits-fits.ensures ∙ ap (λ l. is_some (place_of shelf.name l) || nat_lt (length l) most_shelves) shelves)
