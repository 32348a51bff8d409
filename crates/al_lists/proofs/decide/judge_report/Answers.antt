use Rattle.std.proofs.Common.{◌||◌, ◌&&◌, true, not, refl, sym, ap, ◌∙◌, length}
use Rattle.std.specs.Bool.{nat_lt}
use Rattle.std.specs.Option.{is_none}
use Rattle.al_base.specs.Limits.{most_alarms, most_shelves}
use Rattle.al_model.specs.Alarms.{alarm_of}
use Rattle.al_model.specs.Step.{is_news}
use Rattle.al_model.specs.declared.decision.Reply.TheVariants.{Done}
use Rattle.al_model.specs.declared.request.Request.TheVariants.{Report}
use Rattle.al_contents.specs.Views.{AlarmView}
use Rattle.al_lists.specs.Verdicts.{judged}
use Rattle.al_lists.proofs.Changing.{report_changes, report_makes}
use Rattle.al_lists.proofs.Judging.{few_fit, none_by, none_copied, verdict_is}
use Rattle.al_lists.proofs.decide.judge_report.Goals as goal

pub returns : goal.returns
returns c = λ time.
    let s = c.args.contents.now.state in
    let key = c.args.key.now in
    let status = c.args.status in
    let text = c.args.text.now in
    let stands = c.find-stands.result in
    let news = c.is_news-news.result in
    let fits = c.alarms_fit-fits.result in
    let is_new = none_by stands c.is_none.result c.is_none.ensures ∙ none_copied (λ (v : AlarmView). v.state) stands ∙ ap is_none c.find-stands.ensures in
    let news_is = c.is_news-news.ensures ∙ ap (λ o. is_news o status text) c.find-stands.ensures in
    c.judge.ensures ∙ ap (λ room. judged c.undeclared-refused.result news room Done) c.room.ensures
    ∙ verdict_is s time (Report key status text) c.undeclared-refused.result news fits true Done (record {
      refused_is = c.undeclared-refused.ensures text;
      changing_is = news_is ∙ sym (report_changes s time key status text c.requires.order);
      alarms_is = c.alarms_fit-fits.ensures
          ∙ ap (λ b. not (b && news) || nat_lt (length s.alarms) most_alarms) is_new
          ∙ ap (λ b. not (is_none (alarm_of key s.alarms) && b) || nat_lt (length s.alarms) most_alarms) news_is
          ∙ ap (λ b. b || nat_lt (length s.alarms) most_alarms) (sym (report_makes s time key status text));
      shelves_is = few_fit (length s.shelves) most_shelves c.requires.shelves.few;
      reply_is = refl;
    })
