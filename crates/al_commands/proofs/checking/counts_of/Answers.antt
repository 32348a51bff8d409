use Rattle.std.proofs.Common.{◌≡◌, ◌∙◌, ap, codes, length}
use Rattle.al_model.specs.History.{replay}
use Rattle.al_model.specs.State.{State, listed, shelved}
use Rattle.al_office.specs.Images.{used_by}
use Rattle.al_commands.proofs.Lines.{six_counts}
use Rattle.al_commands.proofs.checking.counts_of.Goals as goal
use Rattle.al_commands.specs.Lines.{count_text, line_end}

pub returns : goal.returns
returns g c =
    let office = c.args.office.now in
    let state = replay office.entries in
    let known = c.look-tables.ensures in
    let alarms : c.alarms.result ≡ length (listed state) = c.alarms.ensures ∙ ap (λ (s : State). length (listed s)) known in
    let on_shelves : c.shelved_count.result ≡ length (shelved state) = c.shelved_count.ensures ∙ ap (λ (s : State). length (shelved s)) known in
    let notes : c.from.result ≡ state.log.sent = c.from.ensures ∙ c.sent.ensures.value ∙ (let e = c.log.ensures in cc) in
    let used : c.used.result ≡ used_by office.entries = c.used.ensures.used ∙ (let e = c.journal-journal.ensures in let f = c.keeps_its_history.ensures.used in cc) in
    let capacity : c.capacity.result ≡ office.journal.capacity = c.capacity.ensures.capacity ∙ (let e = c.journal-journal.ensures in cc) in
    let count = c.len.ensures in
    rw (count, alarms, on_shelves, notes, used, capacity)
    (six_counts (count_text (codes "entries ") (length office.entries)) (count_text (codes "\nalarms ") (length (listed state))) (count_text (codes "\nshelved ") (length (shelved state)))
    (count_text (codes "\nnotes ") state.log.sent) (count_text (codes "\nbytes ") (used_by office.entries)) (count_text (codes " of ") office.journal.capacity) line_end)
