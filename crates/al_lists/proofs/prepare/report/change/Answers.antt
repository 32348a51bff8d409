use Rattle.std.proofs.Common.{◌&&◌, cond, not, None, Some, ap, ◌∙◌}
use Rattle.al_notify.specs.Rules.{sends}
use Rattle.al_notify.specs.declared.note.NoteBody.TheVariants as notes
use Rattle.al_lists.proofs.Preparing.{change_prepared}
use Rattle.al_lists.proofs.prepare.report.change.Goals as goal

pub returns-clause-ok : goal.returns-clause-ok
returns-clause-ok c =
    let t = c.reserve_status.new.self in
    let status = c.args.status in
    let shelved = c.is_shelved-shelved.result in
    let body = notes.Status c.args.key.now status c.args.text.now in
    let tells = c.in_ok-note.ensures ∙ ap (λ b. cond b (Some body) None) (c.is_told-told.ensures
    ∙ ap (λ rule. not shelved && sends rule (Some c.status.result) status) c.rule.ensures
    ∙ ap (λ before. not shelved && sends t.state.rule (Some before) status) c.status.ensures) in
    change_prepared c.args.contents.now.state t c.args.time c.args.key.now status c.args.text.now c.in_ok-texts.texts.text c.in_ok-texts.texts.entry_text
    c.args.place c.alarm_at-alarm.result.now.state shelved c.in_ok-note.note c.reserve_status.ensures.state c.requires.valid c.requires.comes c.requires.known
    c.alarm_at-alarm.ensures c.is_shelved-shelved.ensures c.in_ok-texts.ensures.0 c.in_ok-texts.ensures.1 tells c.in_ok-reserve_status.ensures.ok
