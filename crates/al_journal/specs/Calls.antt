-- What each call of a journal leaves on the disk.
use Rattle.std.specs.Prelude.{◌≡◌, ℕ, ◌+◌, Bool, true, false, List, [], ◌∷◌, ◌++◌, length, Result, Ok, Err}
use Rattle.al_disk.specs.Images.{Wrote}
use Rattle.al_disk.specs.States.{DiskState, MayChange, put, synced, with_change}
use Rattle.al_disk.specs.declared.disk.DiskFault.{DiskFault}
use Rattle.al_disk.specs.Moments.{Between}
use Rattle.al_journal.specs.Images.{ShowsWithOrWithout}
use Rattle.al_journal.specs.Views.{InDoubt, Stands}
use Rattle.al_journal.specs.declared.faults.CommitFault.{CommitFault}
use Rattle.al_journal.specs.declared.faults.CommitFault.TheVariants.{Disk, Full}

-- a write that a sync follows, made or refused; a refused sync leaves the write as one that may be done in part
abbrev pub WritesDurably : ℕ → List ℕ → Result (Unit {0}) DiskFault → DiskState → DiskState → Type 0
WritesDurably place bytes (Ok _) old new = new ≡ synced (with_change (Wrote place (length bytes)) (put place bytes old.content) old)
WritesDurably place bytes (Err _) old new = MayChange (Wrote place (length bytes)) old new

-- how a commit of a payload ended, with the doubt that it left: Ok, and the disk holds the payload too; or Full, and nothing was done; or a fault of
-- the disk, behind which the payload may stand whole or not
abbrev pub Committed : ℕ → ℕ → List ℕ → Result (Unit {0}) CommitFault → Bool → List (List ℕ) → DiskState → DiskState → Type 0
Committed capacity gate payload (Ok _) doubt payloads old new = (doubt ≡ false) × Stands capacity (gate + 5 + length payload) (payloads ++ payload ∷ []) new
Committed capacity gate payload (Err Full) doubt payloads old new = (doubt ≡ false) × (new ≡ old)
Committed capacity gate payload (Err Disk) true payloads old new = InDoubt capacity gate payloads payload new
Committed capacity gate payload (Err Disk) false payloads old new = Stands capacity gate payloads new

-- A commit, whose every moment leaves the payloads with the further one or without it.
pub record Commits (capacity gate : ℕ) (payload : List ℕ) (result : Result (Unit {0}) CommitFault) (doubt : Bool) (payloads : List (List ℕ)) (old new : DiskState) : Type 0 where
  pub ended : Committed capacity gate payload result doubt payloads old new
  pub moments : Between (ShowsWithOrWithout capacity payloads payload) old new

-- how settling a doubt ended: Ok, and the disk holds the payloads without the further one; or a fault of the disk, and the doubt stays
abbrev pub Settled : ℕ → ℕ → Result (Unit {0}) CommitFault → Bool → List (List ℕ) → List ℕ → DiskState → Type 0
Settled capacity gate (Ok _) doubt payloads payload new = (doubt ≡ false) × Stands capacity gate payloads new
Settled capacity gate (Err Full) doubt payloads payload new = ⊥
Settled capacity gate (Err Disk) doubt payloads payload new = (doubt ≡ true) × InDoubt capacity gate payloads payload new

-- Settling, whose every moment leaves the payloads with the further one or without it.
pub record Settles (capacity gate : ℕ) (result : Result (Unit {0}) CommitFault) (doubt : Bool) (payloads : List (List ℕ)) (payload : List ℕ) (old new : DiskState) : Type 0 where
  pub ended : Settled capacity gate result doubt payloads payload new
  pub moments : Between (ShowsWithOrWithout capacity payloads payload) old new
