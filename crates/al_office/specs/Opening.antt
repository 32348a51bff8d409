-- How an office is opened from a disk.
use Rattle.std.specs.Prelude.{◌≡◌, ◌⊎◌, ℕ, List, ◌∷◌, ◌++◌, length}
use Rattle.al_disk.specs.States.{DiskState, synced, time}
use Rattle.al_frame.specs.Frames.{frame_of}
use Rattle.al_journal.specs.Images.{IsNoJournal, IsTornAfter, Shows}
use Rattle.al_model.specs.History.{Fits, IsLegal, replay}
use Rattle.al_model.specs.declared.entry.Entry.{Entry}
use Rattle.al_office.specs.Images.{ShowsHistory, frames_of}
use Rattle.al_office.specs.Journaled.{JournaledView}
use Rattle.al_office.specs.declared.fault.OfficeFault.{OfficeFault}
use Rattle.al_office.specs.declared.fault.OfficeFault.TheVariants.{Disk, Invalid, Memory, NotAJournal}

-- no entry of this frame may come next behind the history
abbrev pub FitsNone : List Entry → List ℕ → Type 0
FitsNone history frame = (e : Entry) → frame ≡ frame_of e → Fits (replay history) e → ⊥

-- Behind so many entries, which are a legal history, the bytes show a frame of which no entry may come next.
pub record IsWrongBehind (count : ℕ) (image : List ℕ) : Type 0 where
  pub capacity : ℕ
  pub history : List Entry
  pub frame : List ℕ
  pub more : List (List ℕ)
  pub shows : Shows capacity (frames_of history ++ frame ∷ more) image
  pub legal : IsLegal history
  pub count_is : length history ≡ count
  pub none : FitsNone history frame

-- the bytes are a journal that is invalid at this frame: torn behind so many whole ones, or its frames so far are legal and this one isn't
abbrev pub IsInvalid : ℕ → List ℕ → Type 0
IsInvalid count image = IsTornAfter count image ⊎ IsWrongBehind count image

-- The disk was synced, and its content shows the history of the office.
pub record OpensOffice {D : Type 0} (office : JournaledView D) (old new : DiskState) : Type 0 where
  pub syncs : new ≡ synced old
  pub shows : ShowsHistory office.journal.capacity office.entries old.content
  pub since : office.fixed.since ≡ time new

-- at most a sync was made
abbrev pub AtMostSyncs : DiskState → DiskState → Type 0
AtMostSyncs old new = (new ≡ old) ⊎ (new ≡ synced old)

-- why no office was opened, and what that left
abbrev pub RefusesOffice : OfficeFault → DiskState → DiskState → Type 0
RefusesOffice NotAJournal old new = (new ≡ synced old) × IsNoJournal old.content
RefusesOffice (Invalid count) old new = (new ≡ synced old) × IsInvalid count old.content
RefusesOffice Disk old new = AtMostSyncs old new
RefusesOffice Memory old new = AtMostSyncs old new
