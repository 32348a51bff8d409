use Rattle.std.proofs.Common.{None, sym, ap, ◌∙◌}
use Rattle.std.specs.Option.{is_some, option_or, unwrap_or}
use Rattle.al_model.specs.Decision.{made_or_replaced, unless}
use Rattle.al_model.specs.declared.decision.Refusal.TheVariants.{NoPoint}
use Rattle.al_model.specs.declared.event.Event.TheVariants as events
use Rattle.al_model.specs.declared.request.Request.TheVariants.{PutShelf}
use Rattle.al_shelf.specs.Places.{place_for, place_of}
use Rattle.al_lists.proofs.Judging.{place_verdict, refused_is}
use Rattle.al_lists.proofs.decide.judge_put.Goals as goal

pub returns-in-Some : goal.returns-in-Some
returns-in-Some c = λ time.
    let s = c.args.contents.now.state in
    let shelf = c.args.shelf.now in
    let spot = c.args.spot.now in
    let place = c.in-Some.place in
    let reply = c.made_or_replaced-reply.result in
    let shelves = c.shelves-shelves.ensures in
    let there = sym (c.in-Some.ensures.place ∙ ap (place_for spot shelf.name) shelves) in
    c.judge_place.ensures time
    ∙ place_verdict s time (PutShelf shelf spot) shelf place reply (ap (λ o. events.PutShelf shelf (unwrap_or o 0)) there)
    (ap (λ o. option_or (unless (is_some o) NoPoint) None) there)
    (c.made_or_replaced-reply.ensures ∙ ap made_or_replaced (c.place_of.ensures.place ∙ ap (place_of shelf.name) shelves))

pub returns-in-None : goal.returns-in-None
returns-in-None c = λ time.
    let s = c.args.contents.now.state in
    let shelf = c.args.shelf.now in
    let spot = c.args.spot.now in
    let none = sym (c.in-None.ensures.place ∙ ap (place_for spot shelf.name) c.shelves-shelves.ensures) in
    refused_is s time (PutShelf shelf spot) NoPoint (ap (λ o. option_or (unless (is_some o) NoPoint) None) none)
