use Rattle.std.proofs.Common.{None, refl, ap, ◌∙◌, not, true}
use Rattle.al_model.specs.Sames.{same_rule}
use Rattle.al_model.specs.declared.decision.Reply.TheVariants.{Done}
use Rattle.al_model.specs.declared.request.Request.TheVariants.{SetLevel}
use Rattle.al_notify.specs.declared.rule.NotifyRule.{NotifyRule}
use Rattle.al_lists.specs.Verdicts.{judged, room_for}
use Rattle.al_lists.proofs.Judging.{rule_verdict}
use Rattle.al_lists.proofs.decide.judge_level.Goals as goal

pub returns : goal.returns
returns c = λ time.
    let s = c.args.contents.now.state in
    let rule : NotifyRule = record { mode = s.rule.mode; level = c.args.level } in
    c.judge_rule.ensures ∙ ap (λ (r : NotifyRule). judged None (not (same_rule s.rule (record { mode = r.mode; level = c.args.level }))) (room_for true true s.time) Done) c.rule.ensures
    ∙ rule_verdict s time (SetLevel c.args.level) rule refl refl refl c.requires.shelves.few
