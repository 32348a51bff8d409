use Rattle.al_office.proofs.Showing.{a_journal, one_history, valid}
use Rattle.al_office.proofs.laws.bytes_show_one_history.Goals as goal

pub returns-clause-once : goal.returns-clause-once
returns-clause-once c = one_history c.frames_are_their_entries.ensures.no_longer c.bytes_show_one_list.ensures.once

pub returns-clause-journal : goal.returns-clause-journal
returns-clause-journal c = a_journal c.bytes_show_one_list.ensures.birth

pub returns-clause-valid : goal.returns-clause-valid
returns-clause-valid c = valid c.frames_are_their_entries.ensures.no_longer c.bytes_show_one_list.ensures.once c.bytes_show_one_list.ensures.whole
