use Rattle.std.proofs.Common.{refl, sym, ◌∙◌}
use Rattle.al_commands.proofs.Drilling.{is_empty}
use Rattle.al_commands.specs.Drills.{drill_capacity}
use Rattle.al_commands.proofs.drill.new_office.Goals as goal

pub returns-in-Ok-open-clause-empty : goal.returns-in-Ok-open-clause-empty
returns-in-Ok-open-clause-empty c =
    let office = c.in-Ok-open.office in
    let born = c.in-Ok.ensures.bears.goes c.in_ok-disk.disk.state refl in
    let opened = c.in-Ok-open.ensures.opens.goes c.birth.new.disk.state refl in
    (is_empty c.bytes_show_one_list.ensures.once drill_capacity office.journal.capacity office.entries c.birth.new.disk.state born.0 born.1 born.2.ended.1.content opened.2.shows).1

pub returns-in-Ok-open-clause-capacity : goal.returns-in-Ok-open-clause-capacity
returns-in-Ok-open-clause-capacity c =
    let office = c.in-Ok-open.office in
    let born = c.in-Ok.ensures.bears.goes c.in_ok-disk.disk.state refl in
    let opened = c.in-Ok-open.ensures.opens.goes c.birth.new.disk.state refl in
    c.keeps_its_history.ensures.capacity
    ∙ sym (is_empty c.bytes_show_one_list.ensures.once drill_capacity office.journal.capacity office.entries c.birth.new.disk.state born.0 born.1 born.2.ended.1.content opened.2.shows).0
