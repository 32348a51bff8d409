use Rattle.al_model.proofs.Counts.{compress_answers, purge_answers, same_counts}
use Rattle.al_model.proofs.Repeats.{repeat_leaves}
use Rattle.al_model.proofs.laws.counts_and_repeats.Goals as goal

pub returns : goal.returns
returns c = record { purges = purge_answers; compressions = compress_answers; none = same_counts; repeats = repeat_leaves }
