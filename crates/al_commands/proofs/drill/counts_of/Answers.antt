use Rattle.std.proofs.Common.{◌≡◌, ◌+◌, ◌∙◌, ap, codes, length}
use Rattle.al_model.specs.History.{replay}
use Rattle.al_model.specs.State.{State, listed, shelved}
use Rattle.al_office.specs.Images.{used_by}
use Rattle.al_commands.proofs.Drilling.{eight_counts}
use Rattle.al_commands.proofs.drill.counts_of.Goals as goal
use Rattle.al_commands.specs.Lines.{count_text, line_end}

pub returns : goal.returns
returns c =
    let office = c.args.office.now in
    let state = replay office.entries in
    let known = c.look-tables.ensures in
    let alarms : c.alarms.result ≡ length (listed state) = c.alarms.ensures ∙ ap (λ (s : State). length (listed s)) known in
    let on_shelves : c.shelved_count.result ≡ length (shelved state) = c.shelved_count.ensures ∙ ap (λ (s : State). length (shelved s)) known in
    let notes : c.from.result ≡ state.log.sent = c.from.ensures ∙ c.sent.ensures.value ∙ (let e = c.log.ensures in cc) in
    let used : c.used.result ≡ used_by office.entries = c.used.ensures.used ∙ (let e = c.journal.ensures in let f = c.keeps_its_history.ensures.used in cc) in
    let count = c.len.ensures in
    rw (count, alarms, on_shelves, notes, used)
    (eight_counts (count_text (codes "requests ") (c.args.count + 1)) (count_text (codes "\nok ") c.args.ok) (count_text (codes "\nrefused ") c.args.refused) (count_text (codes "\nentries ") (length office.entries))
    (count_text (codes "\nalarms ") (length (listed state))) (count_text (codes "\nshelved ") (length (shelved state))) (count_text (codes "\nnotes ") state.log.sent) (count_text (codes "\nbytes ") (used_by office.entries)) line_end)
