use Rattle.al_serve.proofs.Sums.{passes_put_all_entries}
use Rattle.al_serve.proofs.laws.passes_put_all_entries.Goals as goal

pub returns : goal.returns
returns c = passes_put_all_entries
