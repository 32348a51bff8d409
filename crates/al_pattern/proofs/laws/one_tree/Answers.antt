use Rattle.al_pattern.proofs.PatternLemmas.{one_tree}
use Rattle.al_pattern.proofs.laws.one_tree.Goals as goal

pub returns : goal.returns
returns c = one_tree
