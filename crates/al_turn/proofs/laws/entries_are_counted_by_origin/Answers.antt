use Rattle.al_turn.proofs.Counting.{passes_make_all_entries}
use Rattle.al_turn.proofs.laws.entries_are_counted_by_origin.Goals as goal

pub returns : goal.returns
returns c = passes_make_all_entries
