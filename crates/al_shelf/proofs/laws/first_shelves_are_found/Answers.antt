use Rattle.al_shelf.proofs.TakingLaws.{position_is_first, shelf_is_first}
use Rattle.al_shelf.proofs.laws.first_shelves_are_found.Goals as goal

pub returns-clause-place : goal.returns-clause-place
returns-clause-place c = position_is_first

pub returns-clause-shelf : goal.returns-clause-shelf
returns-clause-shelf c = shelf_is_first
