-- What a crash may leave of a disk's bytes.
use Rattle.std.specs.Prelude.{◌≡◌, ℕ, ◌+◌, ◌≤◌, min, max, List, [], ◌∷◌, length, take, drop}

-- What a call asks for: a write of so many bytes at a place, or a cut to a size.
pub data Change : Type 0 where
  Wrote : (place count : ℕ) → Change
  CutTo : (size : ℕ) → Change

-- A part of a write of so many bytes: any bytes in its range, which may end behind the old end; the bytes outside stay.
pub record Torn (place count : ℕ) (old new : List ℕ) : Type 0 where
  pub before : take place new ≡ take place old
  pub after : drop (place + count) new ≡ drop (place + count) old
  pub no_shorter : length old ≤ length new
  pub no_longer : length new ≤ max (length old) (place + count)

-- A part of a cut: a front, of a size between the new one and the old one.
pub record CutBetween (size : ℕ) (old new : List ℕ) : Type 0 where
  pub no_shorter : min size (length old) ≤ length new
  pub front : new ≡ take (length new) old

-- a part of the change
abbrev pub DoesPart : Change → List ℕ → List ℕ → Type 0
DoesPart (Wrote place count) old new = Torn place count old new
DoesPart (CutTo size) old new = CutBetween size old new

-- The disk at a moment: the bytes after the last sync, and the changes since it, newest first.
pub record Moment : Type 0 where
  pub durable : List ℕ
  pub changes : List Change

-- a part of each of the changes, one after the other
abbrev pub Leads : List Change → List ℕ → List ℕ → Type 0
Leads [] old new = new ≡ old
Leads (change ∷ changes) old new = (between : List ℕ) × Leads changes old between × DoesPart change between new

-- a crash at this moment may leave these bytes
abbrev pub MayLeave : Moment → List ℕ → Type 0
MayLeave m image = Leads m.changes m.durable image

-- a crash at this moment leaves only bytes of which P holds
abbrev pub LeavesOnly : (List ℕ → Type 0) → Moment → Type 0
LeavesOnly P m = (image : List ℕ) → MayLeave m image → P image
