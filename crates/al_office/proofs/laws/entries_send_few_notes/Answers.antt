use Rattle.al_office.proofs.Notes.{few_notes}
use Rattle.al_office.proofs.laws.entries_send_few_notes.Goals as goal

pub returns : goal.returns
returns c = few_notes
