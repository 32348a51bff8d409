-- The disk as its calls see it, and what each call makes of it.
use Rattle.std.specs.Prelude.{◌≡◌, ◌⊎◌, ℕ, ◌+◌, List, [], ◌∷◌, ◌++◌, length, take, drop, Option, None, Some, Result, Ok, Err}
use Rattle.al_disk.specs.Images.{Change, DoesPart, Moment, MayLeave}

-- What a read gives, this moment, and the moments before it, newest first.
pub record DiskState : Type 0 where
  pub content : List ℕ
  pub now : Moment
  pub past : List Moment

-- the time, which each change and each sync makes greater
abbrev pub time : DiskState → ℕ
time s = length s.past

-- the bytes with others over them from a place on
abbrev pub put : ℕ → List ℕ → List ℕ → List ℕ
put place bytes old = take place old ++ bytes ++ drop (place + length bytes) old

-- a change was asked for, and a read gives this content since
abbrev pub with_change : Change → List ℕ → DiskState → DiskState
with_change change content s = record {
  content = content;
  now = record { durable = s.now.durable; changes = change ∷ s.now.changes };
  past = s.now ∷ s.past;
}

-- after a sync a crash leaves the content alone
abbrev pub synced : DiskState → DiskState
synced s = record { content = s.content; now = record { durable = s.content; changes = [] }; past = s.now ∷ s.past }

-- a change that was refused: nothing happened, or a part of it, and a crash may leave any other part
abbrev pub MayChange : Change → DiskState → DiskState → Type 0
MayChange change old new = (new ≡ old) ⊎ ((part : List ℕ) × DoesPart change old.content part × (new ≡ with_change change part old))

-- a change to this content was made or refused
abbrev pub Changes : {A E : Type 0} → Change → List ℕ → Result A E → DiskState → DiskState → Type 0
Changes change content (Ok _) old new = new ≡ with_change change content old
Changes change content (Err _) old new = MayChange change old new

-- a sync was made or refused
abbrev pub Syncs : {A E : Type 0} → Result A E → DiskState → DiskState → Type 0
Syncs (Ok _) old new = new ≡ synced old
Syncs (Err _) old new = new ≡ old

-- the content is one of the images that a crash now may leave
abbrev pub ReadsAsAnImage : DiskState → Type 0
ReadsAsAnImage s = MayLeave s.now s.content

-- where the disk tells its state, P holds of it
abbrev pub Told : Option DiskState → (DiskState → Type 0) → Type 0
Told told P = (s : DiskState) → told ≡ Some s → P s

-- The disk goes from what it tells to what it tells: from a state to one in this relation to it, and from silence to silence.
pub record Goes (R : DiskState → DiskState → Type 0) (old new : Option DiskState) : Type 0 where
  pub silent : old ≡ None → new ≡ None
  pub goes : (s : DiskState) → old ≡ Some s → (t : DiskState) × (new ≡ Some t) × R s t
