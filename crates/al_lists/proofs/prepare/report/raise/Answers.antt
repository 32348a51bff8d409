use Rattle.std.proofs.Common.{◌&&◌, cond, not, None, Some, ap, ◌∙◌}
use Rattle.al_base.specs.declared.severity.Status.TheVariants.{Active}
use Rattle.al_notify.specs.Rules.{sends}
use Rattle.al_notify.specs.declared.note.NoteBody.TheVariants as notes
use Rattle.al_lists.proofs.Preparing.{raise_prepared}
use Rattle.al_lists.proofs.prepare.report.raise.Goals as goal

pub returns-clause-ok : goal.returns-clause-ok
returns-clause-ok c =
    let t = c.reserve_alarm.new.self in
    let status = Active c.args.severity in
    let shelved = c.in_ok-new.new.shelved in
    let body = notes.Status c.args.key.now status c.args.text.now in
    let tells = c.in_ok-note.ensures ∙ ap (λ b. cond b (Some body) None) (c.is_told-told.ensures
    ∙ ap (λ rule. not shelved && sends rule None status) c.rule.ensures) in
    raise_prepared c.args.contents.now.state t c.args.time c.args.key.now c.args.severity c.args.text.now
    c.args.place c.in_ok-new.new.alarm shelved c.in_ok-note.note c.reserve_alarm.ensures.state c.requires.absent
    c.in_ok-new.ensures.alarm c.in_ok-new.ensures.shelved tells c.in_ok-reserve_alarm.ensures.ok c.in_ok-new.ensures.max
