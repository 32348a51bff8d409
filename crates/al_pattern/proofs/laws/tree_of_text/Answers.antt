use Rattle.al_pattern.proofs.OnlyLemmas.{tree_again}
use Rattle.al_pattern.proofs.laws.tree_of_text.Goals as goal

pub returns : goal.returns
returns c = tree_again
