use Rattle.al_frame.proofs.FrameLaws.{bad_begins_none, cut_is_truncated, further_is_trailing}
use Rattle.al_frame.proofs.WithinLaws.{decides_entry}
use Rattle.al_frame.proofs.laws.cuts_and_additions_are_told.Goals as goal

pub returns-clause-cut : goal.returns-clause-cut
returns-clause-cut c = λ e front byte behind within spelled. cut_is_truncated e front byte behind ((decides_entry e).1 within) spelled

pub returns-clause-trailing : goal.returns-clause-trailing
returns-clause-trailing c = λ e byte more within. further_is_trailing e byte more ((decides_entry e).1 within)

pub returns-clause-bad : goal.returns-clause-bad
returns-clause-bad c = λ e bytes more place within bad spelled. bad_begins_none e bytes more place ((decides_entry e).1 within) bad spelled
