use Rattle.al_frame.proofs.WithinLaws.{decides_entry}
use Rattle.al_frame.proofs.frame.encode.Goals as goal

pub spelled-requires : goal.spelled-requires
spelled-requires c = (decides_entry c.args.entry.now).1 c.requires
