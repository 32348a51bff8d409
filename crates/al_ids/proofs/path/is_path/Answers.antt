use Rattle.al_ids.proofs.PathsRead.{path_read}
use Rattle.al_ids.proofs.path.is_path.Goals as goal

pub returns : goal.returns
returns c = path_read c.args.text.now c.reaches_end.result c.reaches_end.ensures
