-- What stands at the front of a disk before and while a journal is made on it.
use Rattle.std.specs.Prelude.{◌≡◌, ◌≢◌, ◌⊎◌, ℕ, List, [], ◌∷◌, ◌++◌, Option, None, Some, Result, Ok, Err}
use Rattle.al_disk.specs.Images.{MayLeave, Moment}
use Rattle.al_disk.specs.States.{DiskState, synced}
use Rattle.al_disk.specs.declared.disk.DiskFault.{DiskFault}
use Rattle.al_disk.specs.Moments.{Between, Has, SinceMoments}
use Rattle.al_journal.specs.Format.{IsCapacity, in_eight, magic}
use Rattle.al_journal.specs.Images.{HasBirth, IsNoJournal, NoneOrEmpty, Shows}
use Rattle.al_journal.specs.Views.{Stands}
use Rattle.al_journal.specs.declared.making.Found.{Found}
use Rattle.al_journal.specs.declared.making.Found.TheVariants.{Made, Open, Shut}
use Rattle.al_journal.specs.declared.faults.BirthFault.{BirthFault}
use Rattle.al_journal.specs.declared.faults.BirthFault.TheVariants.{AlreadyMade, BadCapacity, Disk}

-- the capacity of the whole birth at the front, or none
abbrev pub IsBirthOf : List ℕ → Option ℕ → Type 0
IsBirthOf image None = IsNoJournal image
IsBirthOf image (Some capacity) = HasBirth capacity image

-- A first byte is there, and isn't 01.
pub record StartsShut (image : List ℕ) : Type 0 where
  pub first : ℕ
  pub rest : List ℕ
  pub is : image ≡ first ∷ rest
  pub shut : first ≢ 1

-- no whole birth, and no byte at all or a first byte 01
abbrev pub StartsOpen : List ℕ → Type 0
StartsOpen image = IsNoJournal image × ((image ≡ []) ⊎ ((rest : List ℕ) × (image ≡ 1 ∷ rest)))

-- Behind a first byte, which is any byte, stands all that a birth and a closed gate have behind theirs.
pub record Waiting (capacity : ℕ) (image : List ℕ) : Type 0 where
  pub first : ℕ
  pub rest : List ℕ
  pub is : image ≡ first ∷ (magic ++ in_eight capacity ++ 0 ∷ rest)
  pub allowed : IsCapacity capacity

-- what was found at the front
abbrev pub IsFound : Found → List ℕ → Type 0
IsFound Made image = (capacity : ℕ) × HasBirth capacity image
IsFound Open image = StartsOpen image
IsFound Shut image = StartsShut image

-- the rest of a birth was written: the journal shows no payload, or after a refusal there is none or an empty one
abbrev pub Filled : ℕ → Result (Unit {0}) DiskFault → List Moment → DiskState → Type 0
Filled capacity (Ok _) earlier new = Has (Shows capacity []) (NoneOrEmpty capacity) earlier new
Filled capacity (Err _) earlier new = Has (NoneOrEmpty capacity) (NoneOrEmpty capacity) earlier new

-- on a disk that has this at its front a journal was made or not
abbrev pub Fills : (List ℕ → Type 0) → ℕ → Result (Unit {0}) DiskFault → DiskState → DiskState → Type 0
Fills front capacity result old new = (earlier : List Moment) → Has front (NoneOrEmpty capacity) earlier old → Filled capacity result earlier new

-- how a birth ended
abbrev pub Born : ℕ → Result (Unit {0}) BirthFault → DiskState → DiskState → Type 0
Born capacity (Ok _) old new = IsNoJournal old.content × Stands capacity 13 [] new
Born capacity (Err BadCapacity) old new = new ≡ old
Born capacity (Err AlreadyMade) old new = ((made : ℕ) × HasBirth made old.content) × (new ≡ synced old)
Born capacity (Err Disk) old new = (new.content ≡ old.content) ⊎ NoneOrEmpty capacity new.content

-- A birth. Every image of its moments was possible before, or has no whole birth, or shows no payload; behind the first sync, where the content
-- had no whole birth, only the last two are left.
pub record Bears (capacity : ℕ) (result : Result (Unit {0}) BirthFault) (old new : DiskState) : Type 0 where
  pub ended : Born capacity result old new
  pub moments : Between (λ image. MayLeave old.now image ⊎ NoneOrEmpty capacity image) old new
  pub afterwards : (new ≡ old) ⊎ (IsNoJournal old.content → SinceMoments (NoneOrEmpty capacity) (old.now ∷ old.past) new)
