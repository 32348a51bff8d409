use Rattle.al_frame.proofs.FrameLaws.{frame_is_read, no_longer}
use Rattle.al_frame.proofs.WithinLaws.{decides_entry}
use Rattle.al_frame.proofs.laws.frames_are_their_entries.Goals as goal

pub returns-clause-read : goal.returns-clause-read
returns-clause-read c = λ e within. frame_is_read e ((decides_entry e).1 within)

pub returns-clause-no_longer : goal.returns-clause-no_longer
returns-clause-no_longer c = λ a b more within_a within_b spelled. no_longer a b more ((decides_entry a).1 within_a) ((decides_entry b).1 within_b) spelled
