use Rattle.std.proofs.Common.{ap, ◌∙◌}
use Rattle.al_model.specs.Decision.{event_of}
use Rattle.al_model.specs.declared.decision.Decision.TheVariants.{Change}
use Rattle.al_model.specs.declared.event.Event.{Event}
use Rattle.al_lists.specs.Verdicts.{verdict_at, with_event}
use Rattle.al_lists.proofs.Judging.{verdict_decides}
use Rattle.al_lists.proofs.decide.decide.Goals as goal

pub returns-in-Refuse : goal.returns-in-Refuse
returns-in-Refuse c =
    let s = c.args.contents.now.state in
    let request = c.args.request in
    ap (with_event (event_of s request)) (c.in-Refuse.ensures ∙ ap (λ t. verdict_at s t request) c.entry_time.ensures) ∙ verdict_decides s request c.args.now

pub returns-in-Same : goal.returns-in-Same
returns-in-Same c =
    let s = c.args.contents.now.state in
    let request = c.args.request in
    ap (with_event (event_of s request)) (c.in-Same.ensures ∙ ap (λ t. verdict_at s t request) c.entry_time.ensures) ∙ verdict_decides s request c.args.now

pub returns-in-Change : goal.returns-in-Change
returns-in-Change c =
    let s = c.args.contents.now.state in
    let request = c.args.request in
    ap (λ (e : Event). Change e c.in-Change.reply) c.event_of.ensures
    ∙ ap (with_event (event_of s request)) (c.in-Change.ensures ∙ ap (λ t. verdict_at s t request) c.entry_time.ensures) ∙ verdict_decides s request c.args.now
