use Rattle.std.proofs.Common.{None, refl, sym, ap, ◌∙◌}
use Rattle.std.specs.Option.{is_none, is_some, option_or, unwrap_or}
use Rattle.al_model.specs.Decision.{unless}
use Rattle.al_model.specs.declared.decision.Refusal.TheVariants.{NoPoint, ShelfExists}
use Rattle.al_model.specs.declared.decision.Reply.TheVariants.{Made}
use Rattle.al_model.specs.declared.event.Event.TheVariants as events
use Rattle.al_model.specs.declared.request.Request.TheVariants.{CreateShelf}
use Rattle.al_shelf.specs.Places.{place_for, place_of}
use Rattle.al_lists.proofs.Judging.{place_verdict, refused_is}
use Rattle.al_lists.proofs.decide.judge_creation.Goals as goal

pub returns-in-None-place_of : goal.returns-in-None-place_of
returns-in-None-place_of c = λ time.
    let s = c.args.contents.now.state in
    let shelf = c.args.shelf.now in
    let spot = c.args.spot.now in
    let shelves = c.shelves-shelves.ensures in
    let there = sym (c.in-Some.ensures.place ∙ ap (place_for spot shelf.name) shelves) in
    let new = sym (c.in-None-place_of.ensures.place ∙ ap (place_of shelf.name) shelves) in
    c.judge_place.ensures time
    ∙ place_verdict s time (CreateShelf shelf spot) shelf c.in-Some.place Made (ap (λ o. events.PutShelf shelf (unwrap_or o 0)) there)
    (ap (λ o. option_or (option_or (unless (is_some o) NoPoint) (unless (is_none (place_of shelf.name s.shelves)) ShelfExists)) None) there
    ∙ ap (λ o. option_or (unless (is_none o) ShelfExists) None) new) refl

pub returns-in-Some-place_of : goal.returns-in-Some-place_of
returns-in-Some-place_of c = λ time.
    let s = c.args.contents.now.state in
    let shelf = c.args.shelf.now in
    let spot = c.args.spot.now in
    let shelves = c.shelves-shelves.ensures in
    let there = sym (c.in-Some.ensures.place ∙ ap (place_for spot shelf.name) shelves) in
    let named = sym (c.in-Some-place_of.ensures.place ∙ ap (place_of shelf.name) shelves) in
    refused_is s time (CreateShelf shelf spot) ShelfExists
    (ap (λ o. option_or (option_or (unless (is_some o) NoPoint) (unless (is_none (place_of shelf.name s.shelves)) ShelfExists)) None) there
    ∙ ap (λ o. option_or (unless (is_none o) ShelfExists) None) named)

pub returns-in-None : goal.returns-in-None
returns-in-None c = λ time.
    let s = c.args.contents.now.state in
    let shelf = c.args.shelf.now in
    let spot = c.args.spot.now in
    let none = sym (c.in-None.ensures.place ∙ ap (place_for spot shelf.name) c.shelves-shelves.ensures) in
    refused_is s time (CreateShelf shelf spot) NoPoint
    (ap (λ o. option_or (option_or (unless (is_some o) NoPoint) (unless (is_none (place_of shelf.name s.shelves)) ShelfExists)) None) none)
