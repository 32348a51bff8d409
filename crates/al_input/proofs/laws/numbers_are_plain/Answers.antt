use Rattle.al_input.proofs.PlainNumbers.{decimals_are_naturals, naturals_are_plain}
use Rattle.al_input.proofs.laws.numbers_are_plain.Goals as goal

pub returns-clause-plain : goal.returns-clause-plain
returns-clause-plain c = naturals_are_plain

pub returns-clause-decimal : goal.returns-clause-decimal
returns-clause-decimal c = decimals_are_naturals
