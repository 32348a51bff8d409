-- What the walk over the frames of a journal finds.
use Rattle.std.specs.Prelude.{◌≡◌, ◌≢◌, ◌⊎◌, ℕ, ◌+◌, ◌<◌, ◌≤◌, Bool, true, false, List, [], ◌∷◌, ◌++◌, length, take, slice_index_or, Result, Ok, Err}
use Rattle.al_disk.specs.Images.{MayLeave}
use Rattle.al_disk.specs.States.{DiskState, synced}
use Rattle.al_disk.specs.Moments.{Between}
use Rattle.al_journal.specs.Format.{before_gate, framed, gate_of, in_four}
use Rattle.al_journal.specs.Images.{HoldsNone, IsNoJournal, IsTornAfter, Shows}
use Rattle.al_journal.specs.Views.{Stands}
use Rattle.al_journal.specs.declared.walking.Step.{Step}
use Rattle.al_journal.specs.declared.walking.Step.TheVariants.{Closed, Cut, Whole}
use Rattle.al_journal.specs.declared.walking.Opened.{Opened}
use Rattle.al_journal.specs.declared.faults.OpenFault.{OpenFault}
use Rattle.al_journal.specs.declared.faults.OpenFault.TheVariants.{Disk, Memory, NotAJournal, TornLength}

-- the bytes begin with a gate that is shut
abbrev pub BeginsShut : List ℕ → Type 0
BeginsShut tail = (gate : ℕ) × (rest : List ℕ) × (tail ≡ gate ∷ rest) × (gate ≢ 1)

-- The bytes begin with no shut gate, and hold no whole frame behind an open one for which there is room.
pub record IsCut (room : ℕ) (tail : List ℕ) : Type 0 where
  pub unshut : (tail ≡ []) ⊎ ((rest : List ℕ) × (tail ≡ 1 ∷ rest))
  pub none : (rest : List ℕ) → tail ≡ 1 ∷ rest → HoldsNone room rest

-- what the gate and the length say that these bytes begin with, where there is room for so many bytes
abbrev pub IsHead : Step → ℕ → List ℕ → Type 0
IsHead Closed room tail = BeginsShut tail
IsHead (Whole size) room tail = ((rest : List ℕ) × (tail ≡ 1 ∷ (in_four size ++ rest))) × (6 + size ≤ room)
IsHead Cut room tail = IsCut room tail

-- the same with the payload, which was read, and the next gate
abbrev pub IsFrame : Step → ℕ → List ℕ → List ℕ → Type 0
IsFrame Closed room tail payload = BeginsShut tail
IsFrame (Whole size) room tail payload = ((next : ℕ) × (more : List ℕ) × (tail ≡ 1 ∷ (framed payload ++ next ∷ more))) × (length payload ≡ size) × (6 + size ≤ room)
IsFrame Cut room tail payload = IsCut room tail

-- whether so many bytes and one more are left, with which they begin
abbrev pub IsPayload : Bool → ℕ → List ℕ → List ℕ → Type 0
IsPayload true size tail payload = ((next : ℕ) × (more : List ℕ) × (tail ≡ payload ++ next ∷ more)) × (length payload ≡ size)
IsPayload false size tail payload = length tail ≤ size

-- the disk failed, or there was no memory
abbrev pub IsReadFault : OpenFault → Type 0
IsReadFault Disk = Unit {0}
IsReadFault Memory = Unit {0}
IsReadFault NotAJournal = ⊥
IsReadFault (TornLength _) = ⊥

-- The walk came to a gate behind so many whole frames.
pub record Reaches (capacity count place : ℕ) (content : List ℕ) : Type 0 where
  pub payloads : List (List ℕ)
  pub rest : List ℕ
  pub frames : length payloads ≡ count
  pub place_is : place ≡ gate_of payloads
  pub is : content ≡ before_gate capacity payloads ++ rest
  pub some : place < length content

-- how a walk to the shut gate ended: at its place, or torn
abbrev pub Walked : ℕ → Result ℕ OpenFault → List ℕ → Type 0
Walked capacity (Ok gate) content = (payloads : List (List ℕ)) × Shows capacity payloads content × (gate ≡ gate_of payloads)
Walked capacity (Err (TornLength count)) content = IsTornAfter count content
Walked capacity (Err Disk) content = Unit {0}
Walked capacity (Err NotAJournal) content = ⊥
Walked capacity (Err Memory) content = ⊥

-- how the search for a journal on a disk ended
abbrev pub Finds : Result Opened OpenFault → DiskState → DiskState → Type 0
Finds (Ok opened) old new = (new ≡ synced old) × ((payloads : List (List ℕ)) × Shows opened.capacity payloads old.content × (opened.gate ≡ gate_of payloads))
Finds (Err NotAJournal) old new = (new ≡ synced old) × IsNoJournal old.content
Finds (Err (TornLength count)) old new = (new ≡ synced old) × IsTornAfter count old.content
Finds (Err Disk) old new = (new ≡ old) ⊎ (new ≡ synced old)
Finds (Err Memory) old new = ⊥

-- why no journal was opened, and what that left: at most a sync
abbrev pub Refuses : OpenFault → DiskState → DiskState → Type 0
Refuses NotAJournal old new = (new ≡ synced old) × IsNoJournal old.content
Refuses (TornLength count) old new = (new ≡ synced old) × IsTornAfter count old.content
Refuses Disk old new = (new ≡ old) ⊎ (new ≡ synced old)
Refuses Memory old new = new ≡ old

-- a journal was opened: the disk was synced and holds payloads
abbrev pub Opens : ℕ → ℕ → DiskState → DiskState → Type 0
Opens capacity gate old new = (new ≡ synced old) × ((payloads : List (List ℕ)) × Stands capacity gate payloads new)

-- each image of every moment was possible before
abbrev pub LeavesAsBefore : DiskState → DiskState → Type 0
LeavesAsBefore old new = Between (MayLeave old.now) old new

-- what a walk over these payloads that has read so many of them reads next, and where it comes to
abbrev pub IsNext : List (List ℕ) → ℕ → ℕ → Result Bool OpenFault → List ℕ → ℕ → Type 0
IsNext payloads count place (Ok true) payload next = (count < length payloads) × (payload ≡ slice_index_or payloads count []) × (next ≡ gate_of (take (count + 1) payloads))
IsNext payloads count place (Ok false) payload next = (count ≡ length payloads) × (next ≡ place)
IsNext payloads count place (Err Disk) payload next = next ≡ place
IsNext payloads count place (Err Memory) payload next = next ≡ place
IsNext payloads count place (Err NotAJournal) payload next = ⊥
IsNext payloads count place (Err (TornLength _)) payload next = ⊥
