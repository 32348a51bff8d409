use Rattle.al_shelf.specs.Exact.{same_shelf_decides, same_spot_decides, same_type_match_decides}
use Rattle.al_shelf.proofs.laws.same_is_equal.Goals as goal

pub returns-clause-criteria : goal.returns-clause-criteria
returns-clause-criteria c = same_type_match_decides

pub returns-clause-shelves : goal.returns-clause-shelves
returns-clause-shelves c = same_shelf_decides

pub returns-clause-spots : goal.returns-clause-spots
returns-clause-spots c = same_spot_decides
