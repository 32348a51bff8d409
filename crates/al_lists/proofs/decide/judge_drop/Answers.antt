use Rattle.std.proofs.Common.{◌≤◌, None, length, not, refl, sym, ap, ◌∙◌, true, arith}
use Rattle.std.specs.Option.{is_none, is_some, option_or}
use Rattle.al_model.proofs.Bounds.{length_filter}
use Rattle.al_model.specs.Decision.{unless}
use Rattle.al_model.specs.declared.decision.Refusal.TheVariants.{NoShelf}
use Rattle.al_model.specs.declared.decision.Reply.TheVariants.{Done}
use Rattle.al_model.specs.declared.request.Request.TheVariants.{DropShelf}
use Rattle.al_shelf.specs.Places.{is_named, place_of, without}
use Rattle.al_lists.specs.Verdicts.{judged}
use Rattle.al_lists.proofs.Changing.{drop_changes}
use Rattle.al_lists.proofs.Judging.{plain_verdict, refused_is}
use Rattle.al_lists.proofs.Shelving.{drop_same}
use Rattle.al_lists.proofs.decide.judge_drop.Goals as goal

pub returns-in-Some : goal.returns-in-Some
returns-in-Some c = λ time.
    let s = c.args.contents.now.state in
    let name = c.args.name.now in
    let sound = c.requires.shelves in
    let there = sym (c.in-Some.ensures.place ∙ ap (place_of name) c.shelves.ensures) in
    let fewer = length_filter (λ shelf. not (is_named name shelf)) s.shelves in
    let few = sound.few in
    let left : length (without name s.shelves) ≤ 64 = omega arith in
    c.judge.ensures ∙ ap (λ room. judged None true room Done) c.room.ensures
    ∙ plain_verdict s time (DropShelf name) true Done (record {
      exists = ap (λ o. option_or (unless (is_some o) NoShelf) None) there;
      changing_is = sym (drop_changes s time name ∙ ap not (drop_same name s.shelves sound) ∙ ap (λ o. not (is_none o)) there);
      no_newcomer = refl;
      few = left;
      reply_is = refl;
    })

pub returns-in-None : goal.returns-in-None
returns-in-None c = λ time.
    let s = c.args.contents.now.state in
    let name = c.args.name.now in
    let there = sym (c.in-None.ensures.place ∙ ap (place_of name) c.shelves.ensures) in
    refused_is s time (DropShelf name) NoShelf (ap (λ o. option_or (unless (is_some o) NoShelf) None) there)
