use Rattle.std.proofs.Common.{None, refl, sym, ap, ◌∙◌, true}
use Rattle.std.specs.Option.{is_none, option_or}
use Rattle.al_model.specs.Decision.{unless}
use Rattle.al_model.specs.declared.decision.Refusal.TheVariants.{Installed}
use Rattle.al_model.specs.declared.decision.Reply.TheVariants.{Done}
use Rattle.al_model.specs.declared.request.Request.TheVariants.{Install}
use Rattle.al_lists.specs.Verdicts.{judged}
use Rattle.al_lists.proofs.Changing.{install_changes}
use Rattle.al_lists.proofs.Judging.{plain_verdict, refused_is}
use Rattle.al_lists.proofs.decide.judge_installation.Goals as goal

pub returns-in-None : goal.returns-in-None
returns-in-None c = λ time inventory.
    let s = c.args.contents.now.state in
    let none = sym c.in-None.ensures in
    c.judge.ensures ∙ ap (λ room. judged None true room Done) c.room.ensures
    ∙ plain_verdict s time (Install inventory) true Done (record {
      exists = ap (λ o. option_or (unless (is_none o) Installed) None) none;
      changing_is = sym (install_changes s time inventory none);
      no_newcomer = refl;
      few = c.requires.shelves.few;
      reply_is = refl;
    })

pub returns-in-Some : goal.returns-in-Some
returns-in-Some c = λ time inventory.
    let s = c.args.contents.now.state in
    refused_is s time (Install inventory) Installed (ap (λ o. option_or (unless (is_none o) Installed) None) (sym c.in-Some.ensures))
