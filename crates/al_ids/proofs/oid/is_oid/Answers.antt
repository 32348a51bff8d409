use Rattle.al_ids.proofs.OidsRead.{oid_read}
use Rattle.al_ids.proofs.oid.is_oid.Goals as goal

pub returns : goal.returns
returns c = oid_read c.args.text.now c.reaches_end.result c.reaches_end.ensures
