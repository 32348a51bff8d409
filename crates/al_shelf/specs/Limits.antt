-- The limits of positions.
use Rattle.std.specs.Prelude.{⊤}
use Rattle.al_base.specs.Limits.{IsShelfName}
use Rattle.al_shelf.specs.declared.spot.Spot.{Spot}
use Rattle.al_shelf.specs.declared.spot.Spot.TheVariants.{First, Last, Before, After, Keep}

abbrev pub IsSpotWithin : Spot → Type 0
IsSpotWithin First = ⊤
IsSpotWithin Last = ⊤
IsSpotWithin (Before point) = IsShelfName point
IsSpotWithin (After point) = IsShelfName point
IsSpotWithin Keep = ⊤
