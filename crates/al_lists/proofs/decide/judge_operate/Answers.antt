use Rattle.std.proofs.Common.{Option, None, refl, sym, ap, ◌∙◌, true, false}
use Rattle.std.specs.Option.{is_some, option_copied, option_map, option_or}
use Rattle.al_contents.proofs.Sides.{alarm_on, if_at, states_at}
use Rattle.al_contents.specs.Views.{AlarmView}
use Rattle.al_model.specs.declared.decision.Refusal.{Refusal}
use Rattle.al_model.specs.declared.decision.Refusal.TheVariants.{NoAlarm}
use Rattle.al_model.specs.declared.decision.Reply.TheVariants.{Done}
use Rattle.al_model.specs.declared.event.Side.TheVariants.{List}
use Rattle.al_model.specs.declared.request.Request.TheVariants.{Operate}
use Rattle.al_lists.specs.Verdicts.{judged}
use Rattle.al_lists.proofs.Changing.{operate_missing}
use Rattle.al_lists.proofs.Judging.{plain_verdict, refused_is}
use Rattle.al_lists.proofs.decide.judge_operate.Goals as goal

pub returns-in-Some : goal.returns-in-Some
returns-in-Some c = λ time state operator text.
    let s = c.args.contents.now.state in
    let key = c.args.key.now in
    let there = ap (option_map (λ (v : AlarmView). v.state)) c.in-Some.ensures ∙ states_at List (option_copied c.find.result) ∙ ap (if_at List) c.find.ensures
    ∙ alarm_on s List key c.requires in
    let exists = operate_missing s key state operator text true (sym (ap is_some there)) in
    c.judge.ensures ∙ ap (λ room. judged None true room Done) c.room.ensures
    ∙ plain_verdict s time (Operate key state operator text) true Done (record {
      exists = ap (λ (o : Option Refusal). option_or o None) exists;
      changing_is = refl;
      no_newcomer = refl;
      few = c.requires.shelves.few;
      reply_is = refl;
    })

pub returns-in-None : goal.returns-in-None
returns-in-None c = λ time state operator text.
    let s = c.args.contents.now.state in
    let key = c.args.key.now in
    let there = ap (option_map (λ (v : AlarmView). v.state)) c.in-None.ensures ∙ states_at List (option_copied c.find.result) ∙ ap (if_at List) c.find.ensures
    ∙ alarm_on s List key c.requires in
    let missing = operate_missing s key state operator text false (sym (ap is_some there)) in
    refused_is s time (Operate key state operator text) NoAlarm (ap (λ (o : Option Refusal). option_or o None) missing)
