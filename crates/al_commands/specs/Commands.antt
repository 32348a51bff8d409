-- What `init` and `check` do.
use Rattle.std.specs.Prelude.{◌≡◌, ◌≢◌, ◌⊎◌, ℕ, List, Option, Result, Err}
use Rattle.al_base.specs.Outside.{Rose}
use Rattle.al_disk.specs.States.{DiskState, Goes, synced}
use Rattle.al_journal.specs.Births.{Bears}
use Rattle.al_journal.specs.Walks.{LeavesAsBefore}
use Rattle.al_journal.specs.declared.faults.BirthFault.{BirthFault}
use Rattle.al_journal.specs.declared.faults.BirthFault.TheVariants as births
use Rattle.al_model.specs.History.{IsLegal}
use Rattle.al_model.specs.declared.entry.Entry.{Entry}
use Rattle.al_office.specs.Images.{ShowsHistory}
use Rattle.al_office.specs.Opening.{RefusesOffice}
use Rattle.al_office.specs.declared.fault.OfficeFault.{OfficeFault}
use Rattle.al_office.specs.declared.fault.OfficeFault.TheVariants as offices
use Rattle.al_commands.specs.Lines.{Tells, birth_line, check_lines, fault_line}
use Rattle.al_commands.specs.Statuses.{status_done, status_of_birth, status_of_fault}

-- The disk before and after, where it tells its state, with its count of faults; and the output.
pub record Seen : Type 0 where
  pub old_disk : Option DiskState
  pub new_disk : Option DiskState
  pub old_faults : ℕ
  pub new_faults : ℕ
  pub old_output : Option (List ℕ)
  pub new_output : Option (List ℕ)

-- ---- init

-- A journal of this capacity was to be made; how that ended is told.
pub record HasMade (capacity : ℕ) (seen : Seen) (status : ℕ) : Type 0 where
  pub birth : Result (Unit {0}) BirthFault
  pub within : birth ≢ Err births.BadCapacity
  pub bears : Goes (λ s t. Bears capacity birth s t) seen.old_disk seen.new_disk
  pub cause : birth ≡ Err births.Disk → Rose seen.old_faults seen.new_faults
  pub told : Tells (birth_line capacity birth) (status_of_birth birth) seen.old_output seen.new_output status

-- ---- check

-- The disk was synced, and its content shows the history.
pub record Shown (capacity : ℕ) (history : List Entry) (old new : DiskState) : Type 0 where
  pub shows : ShowsHistory capacity history old.content
  pub syncs : new ≡ synced old

-- The journal was opened, and what there is in it was told.
pub record HasCounted (seen : Seen) (status : ℕ) : Type 0 where
  pub capacity : ℕ
  pub history : List Entry
  pub legal : IsLegal history
  pub disk : Goes (Shown capacity history) seen.old_disk seen.new_disk
  pub told : Tells (check_lines capacity history) status_done seen.old_output seen.new_output status

-- The journal wasn't opened, and why was told, but for want of memory.
pub record HasNotCounted (seen : Seen) (status : ℕ) : Type 0 where
  pub fault : OfficeFault
  pub disk : Goes (RefusesOffice fault) seen.old_disk seen.new_disk
  pub cause : fault ≡ offices.Disk → Rose seen.old_faults seen.new_faults
  pub told : Tells (fault_line fault) (status_of_fault fault) seen.old_output seen.new_output status

-- A journal was looked at. Each image of every moment was possible before.
pub record HasChecked (seen : Seen) (status : ℕ) : Type 0 where
  pub ended : HasCounted seen status ⊎ HasNotCounted seen status
  pub moments : Goes LeavesAsBefore seen.old_disk seen.new_disk
