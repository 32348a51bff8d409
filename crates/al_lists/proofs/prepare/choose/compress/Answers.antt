use Rattle.al_lists.proofs.Preparing.{compress_prepared}
use Rattle.al_lists.proofs.prepare.choose.compress.Goals as goal

pub returns : goal.returns
returns c = λ t valid comes. compress_prepared t c.args.time c.args.side c.args.filter.now c.in_ok-copy.field-0 c.is_in.result c.is_in-2.result valid comes c.in_ok-copy.ensures c.is_in.ensures c.is_in-2.ensures
