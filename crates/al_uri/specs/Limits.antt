-- The limits that a target keeps.
use Rattle.std.specs.Prelude.{⊤, ℕ, ◌<◌, ◌^◌, List}
use Rattle.al_base.specs.Limits.{IsShelfName}
use Rattle.al_shelf.specs.declared.spot.Spot.{Spot}
use Rattle.al_uri.specs.declared.target.Target.{Target}
use Rattle.al_uri.specs.declared.target.Target.TheVariants.{Shelving, OneShelf, OneAlarm, SetState, OneShelved, NotificationLog, JournalPage}
use Rattle.al_ids.specs.Limits.{IsKeyWithin}
use Rattle.al_shelf.specs.Limits.{IsSpotWithin}

pub record IsShelfWithin (name : List ℕ) (spot : Spot) : Type 0 where
  pub name_within : IsShelfName name
  pub spot_within : IsSpotWithin spot

-- What a target names is within its limits, and a start is a number of 32 bits.
abbrev pub IsTargetWithin : Target → Type 0
IsTargetWithin (Shelving spot) = IsSpotWithin spot
IsTargetWithin (OneShelf name spot) = IsShelfWithin name spot
IsTargetWithin (OneAlarm key) = IsKeyWithin key
IsTargetWithin (SetState key) = IsKeyWithin key
IsTargetWithin (OneShelved key) = IsKeyWithin key
IsTargetWithin (NotificationLog start) = start < 2 ^ 32
IsTargetWithin (JournalPage start) = start < 2 ^ 32
IsTargetWithin other = ⊤
