-- What a crash may have left at every moment of a run of calls.
use Rattle.std.specs.Prelude.{◌≡◌, ℕ, ◌≤◌, List, [], ◌∷◌, ◌++◌, length}
use Rattle.al_disk.specs.Images.{LeavesOnly, Moment}
use Rattle.al_disk.specs.States.{DiskState}

-- a crash at any of these moments leaves only bytes of which P holds
abbrev pub AllLeaveOnly : (List ℕ → Type 0) → List Moment → Type 0
AllLeaveOnly P [] = Unit {0}
AllLeaveOnly P (m ∷ moments) = LeavesOnly P m × AllLeaveOnly P moments

-- P holds of each image of every moment after these earlier ones, all of which are before this one.
pub record SinceMoments (P : List ℕ → Type 0) (earlier : List Moment) (s : DiskState) : Type 0 where
  pub moments : List Moment
  pub are : s.now ∷ s.past ≡ moments ++ earlier
  pub later : length earlier ≤ length s.past
  pub each : AllLeaveOnly P moments

-- P holds of each image of every moment from the one state to the other, those of both states included
abbrev pub Between : (List ℕ → Type 0) → DiskState → DiskState → Type 0
Between P old new = SinceMoments P old.past new

-- P holds of each image of every moment from this time on
abbrev pub Since : (List ℕ → Type 0) → ℕ → DiskState → Type 0
Since P t s = (earlier : List Moment) × (length earlier ≡ t) × SinceMoments P earlier s

-- P holds of the content and of each image now, and R of each image of the moments after the earlier ones.
pub record Has (P R : List ℕ → Type 0) (earlier : List Moment) (s : DiskState) : Type 0 where
  pub content : P s.content
  pub images : LeavesOnly P s.now
  pub moments : SinceMoments R earlier s
