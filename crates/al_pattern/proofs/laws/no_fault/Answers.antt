use Rattle.al_pattern.specs.Reading.{tree_of}
use Rattle.al_pattern.proofs.OnlyLemmas.{fault_again}
use Rattle.al_pattern.proofs.PatternLemmas.{no_fault_spelled}
use Rattle.al_pattern.proofs.laws.no_fault.Goals as goal

pub returns : goal.returns
returns c text = (no_fault_spelled text, fault_again (tree_of text) text)
