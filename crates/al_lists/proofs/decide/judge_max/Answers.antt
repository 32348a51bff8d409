use Rattle.std.proofs.Common.{None, refl, sym, ap, ◌∙◌, not, ◌==◌}
use Rattle.std.specs.Option.{option_eq}
use Rattle.al_model.proofs.Validity.{bounded_alarms}
use Rattle.al_model.specs.declared.decision.Reply.TheVariants.{Done}
use Rattle.al_model.specs.declared.request.Request.TheVariants.{SetMax}
use Rattle.al_lists.specs.Verdicts.{judged}
use Rattle.al_lists.proofs.Changing.{max_changes}
use Rattle.al_lists.proofs.Judging.{plain_verdict}
use Rattle.al_lists.proofs.decide.judge_max.Goals as goal

pub returns : goal.returns
returns c = λ time.
    let s = c.args.contents.now.state in
    let max = c.args.max in
    c.judge.ensures ∙ ap (λ room. judged None c.ne.result room Done) c.room.ensures
    ∙ plain_verdict s time (SetMax max) c.ne.result Done (record {
      exists = refl;
      changing_is = c.ne.ensures ∙ ap (λ m. not (option_eq ◌==◌ m max)) c.max.ensures ∙ sym (max_changes s time max (bounded_alarms s c.requires));
      no_newcomer = refl;
      few = c.requires.shelves.few;
      reply_is = refl;
    })
