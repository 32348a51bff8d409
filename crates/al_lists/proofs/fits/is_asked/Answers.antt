use Rattle.std.proofs.Common.{◌↔◌, IsTrue, refl, sym, ap, ◌∙◌, subst}
use Rattle.al_model.specs.declared.event.Event.{Event}
use Rattle.al_model.specs.declared.event.Event.TheVariants as events
use Rattle.al_model.specs.declared.request.Request.TheVariants as requests
use Rattle.al_lists.specs.Asked.{IsAsked}
use Rattle.al_lists.specs.Verdicts.{is_change}
use Rattle.al_lists.proofs.Asking.{asked_is}
use Rattle.al_lists.proofs.fits.is_asked.Goals as goal

pub returns-in-Report : goal.returns-in-Report
returns-in-Report c =
    let s = c.args.contents.now.state in
    subst (λ (event : Event). IsTrue c.is_change.result ↔ IsAsked s c.args.time event) (sym c.in-Report.is)
    (asked_is s c.args.time (events.Report c.in-Report.key c.in-Report.status c.in-Report.text) (requests.Report c.in-Report.key c.in-Report.status c.in-Report.text) c.is_change.result refl refl (c.is_change.ensures ∙ ap is_change (c.judge_report.ensures c.args.time)))

pub returns-in-Operate : goal.returns-in-Operate
returns-in-Operate c =
    let s = c.args.contents.now.state in
    subst (λ (event : Event). IsTrue c.is_change-in-Operate.result ↔ IsAsked s c.args.time event) (sym c.in-Operate.is)
    (asked_is s c.args.time (events.Operate c.in-Operate.key c.in-Operate.state c.in-Operate.operator c.in-Operate.text) (requests.Operate c.in-Operate.key c.in-Operate.state c.in-Operate.operator c.in-Operate.text) c.is_change-in-Operate.result refl refl (c.is_change-in-Operate.ensures ∙ ap is_change (c.judge_operate.ensures c.args.time c.in-Operate.state c.in-Operate.operator c.in-Operate.text)))

pub returns-in-SetMax : goal.returns-in-SetMax
returns-in-SetMax c =
    let s = c.args.contents.now.state in
    subst (λ (event : Event). IsTrue c.is_change-in-SetMax.result ↔ IsAsked s c.args.time event) (sym c.in-SetMax.is)
    (asked_is s c.args.time (events.SetMax c.in-SetMax.max) (requests.SetMax c.in-SetMax.max) c.is_change-in-SetMax.result refl refl (c.is_change-in-SetMax.ensures ∙ ap is_change (c.judge_max.ensures c.args.time)))

pub returns-in-SetNotify : goal.returns-in-SetNotify
returns-in-SetNotify c =
    let s = c.args.contents.now.state in
    subst (λ (event : Event). IsTrue c.is_rule_asked.result ↔ IsAsked s c.args.time event) (sym c.in-SetNotify.is)
    (c.is_rule_asked.ensures c.args.time)

pub returns-in-PutShelf : goal.returns-in-PutShelf
returns-in-PutShelf c =
    let s = c.args.contents.now.state in
    let asked = subst (λ place. IsTrue c.is_place_asked.result ↔ IsAsked s c.args.time (events.PutShelf c.in-PutShelf.shelf place)) c.from.ensures (c.is_place_asked.ensures c.args.time) in
    subst (λ (event : Event). IsTrue c.is_place_asked.result ↔ IsAsked s c.args.time event) (sym c.in-PutShelf.is) asked

pub returns-in-DropShelf : goal.returns-in-DropShelf
returns-in-DropShelf c =
    let s = c.args.contents.now.state in
    subst (λ (event : Event). IsTrue c.is_change-in-DropShelf.result ↔ IsAsked s c.args.time event) (sym c.in-DropShelf.is)
    (asked_is s c.args.time (events.DropShelf c.in-DropShelf.name) (requests.DropShelf c.in-DropShelf.name) c.is_change-in-DropShelf.result refl refl (c.is_change-in-DropShelf.ensures ∙ ap is_change (c.judge_drop.ensures c.args.time)))

pub returns-in-Compress : goal.returns-in-Compress
returns-in-Compress c =
    let s = c.args.contents.now.state in
    subst (λ (event : Event). IsTrue c.is_change-in-Compress.result ↔ IsAsked s c.args.time event) (sym c.in-Compress.is)
    (asked_is s c.args.time (events.Compress c.in-Compress.side c.in-Compress.filter) (requests.Compress c.in-Compress.side c.in-Compress.filter) c.is_change-in-Compress.result refl refl (c.is_change-in-Compress.ensures ∙ ap is_change (c.judge_compression.ensures c.args.time)))

pub returns-in-Install : goal.returns-in-Install
returns-in-Install c =
    let s = c.args.contents.now.state in
    subst (λ (event : Event). IsTrue c.is_change-in-Install.result ↔ IsAsked s c.args.time event) (sym c.in-Install.is)
    (asked_is s c.args.time (events.Install c.in-Install.field-0) (requests.Install c.in-Install.field-0) c.is_change-in-Install.result refl refl (c.is_change-in-Install.ensures ∙ ap is_change (c.judge_installation.ensures c.args.time c.in-Install.field-0)))
