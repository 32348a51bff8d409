-- What is read of a journal's frames.
use Rattle.std.specs.Prelude.{◌≡◌, ℕ, Bool, true, false, List, [], ◌∷◌, ◌++◌, Result, Ok, Err, length}
use Rattle.al_frame.specs.Frames.{frame_of}
use Rattle.al_model.specs.History.{Fits, IsLegal, replay}
use Rattle.al_model.specs.declared.entry.Entry.{Entry}
use Rattle.al_office.specs.Images.{frames_of}
use Rattle.al_office.specs.Ledger.{LedgerView}
use Rattle.al_office.specs.Opening.{FitsNone, IsWrongBehind}
use Rattle.al_office.specs.declared.fault.OfficeFault.{OfficeFault}
use Rattle.al_office.specs.declared.fault.OfficeFault.TheVariants.{Disk, Invalid, Memory, NotAJournal}

-- the entry of a frame, which may come next behind the history, or none of this frame may
abbrev pub IsEntryIn : List Entry → List ℕ → Result Entry OfficeFault → Type 0
IsEntryIn history frame (Ok entry) = (frame ≡ frame_of entry) × Fits (replay history) entry
IsEntryIn history frame (Err (Invalid count)) = (count ≡ length history) × IsLegal history × FitsNone history frame
IsEntryIn history frame (Err Memory) = Unit {0}
IsEntryIn history frame (Err NotAJournal) = ⊥
IsEntryIn history frame (Err Disk) = ⊥

-- what was read of the frames that are left behind a history: the next one's entry, which makes a longer history; or that none is left; or that the
-- next one is wrong
abbrev pub IsRead : List Entry → List (List ℕ) → Result Bool OfficeFault → List Entry → Type 0
IsRead history left (Ok true) longer = (more : List (List ℕ)) × (frames_of history ++ left ≡ frames_of longer ++ more)
IsRead history left (Ok false) longer = left ≡ []
IsRead history left (Err (Invalid count)) longer = (count ≡ length history) × IsLegal history × ((frame : List ℕ) × (more : List (List ℕ)) × (left ≡ frame ∷ more) × FitsNone history frame)
IsRead history left (Err Memory) longer = Unit {0}
IsRead history left (Err Disk) longer = Unit {0}
IsRead history left (Err NotAJournal) longer = ⊥

-- all payloads are the frames of a history, or one of them is wrong
abbrev pub IsHistoryIn : List (List ℕ) → List ℕ → Result LedgerView OfficeFault → Type 0
IsHistoryIn payloads image (Ok ledger) = payloads ≡ frames_of ledger.entries
IsHistoryIn payloads image (Err (Invalid count)) = IsWrongBehind count image
IsHistoryIn payloads image (Err Memory) = Unit {0}
IsHistoryIn payloads image (Err Disk) = Unit {0}
IsHistoryIn payloads image (Err NotAJournal) = ⊥
