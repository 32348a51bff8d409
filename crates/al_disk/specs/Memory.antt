-- A disk in memory, and how it tells its state from the calls that it was asked for.
use Rattle.std.specs.Prelude.{ℕ, ◌+◌, ◌*◌, ◌≤◌, Bool, true, false, nat_lt, nat_le, if◌then◌else◌, List, [], ◌∷◌, length, take, drop, Result, Ok, Err}
use Rattle.al_base.specs.Memory.{PlanView, fails_next, after_call}
use Rattle.al_disk.specs.Images.{Change, CutTo, Wrote}
use Rattle.al_disk.specs.States.{DiskState, put, with_change, synced}
use Rattle.al_disk.specs.declared.log.Asked.{Asked}
use Rattle.al_disk.specs.declared.log.Asked.TheVariants.{Write, Cut, Sync}
use Rattle.al_disk.specs.declared.disk.DiskFault.{DiskFault}

-- how many bytes the call wrote
abbrev pub bytes_of : Asked → ℕ
bytes_of (Write place count true) = count
bytes_of _ = 0

-- how many bytes all these calls wrote
abbrev pub bytes_of_all : List Asked → ℕ
bytes_of_all [] = 0
bytes_of_all (asked ∷ rest) = bytes_of asked + bytes_of_all rest

-- the state after a call, which wrote this piece if it was a write that was done
abbrev pub after_asked : DiskState → List ℕ → Asked → DiskState
after_asked s piece (Write place count true) = with_change (Wrote place count) (put place piece s.content) s
after_asked s piece (Write place count false) = with_change (Wrote place count) s.content s
after_asked s piece (Cut size true) = with_change (CutTo size) (take size s.content) s
after_asked s piece (Cut size false) = with_change (CutTo size) s.content s
after_asked s piece Sync = synced s

-- the state after these calls, in order, whose writes wrote these bytes together
abbrev pub replay : DiskState → List Asked → List ℕ → DiskState
replay s [] bytes = s
replay s (asked ∷ rest) bytes = replay (after_asked s (take (bytes_of asked) bytes) asked) rest (drop (bytes_of asked) bytes)

-- nothing was asked for yet, and a crash leaves these bytes
abbrev pub state_of : List ℕ → DiskState
state_of bytes = record { content = bytes; now = record { durable = bytes; changes = [] }; past = [] }

-- the bytes are there that this call needs
abbrev pub CanBeAsked : DiskState → Asked → Type 0
CanBeAsked s (Write place count true) = place ≤ length s.content
CanBeAsked _ _ = Unit {0}

-- What the log of a disk in memory shows: the state, how many bytes were written and how many calls were noted, and the room for both.
pub record LogView : Type 0 where
  pub state : DiskState
  pub written : ℕ
  pub noted : ℕ
  pub bytes_room : ℕ
  pub calls : ℕ

-- A disk in memory: its state, how many bytes were written, how many it can hold, how many calls it takes, and which of them fail.
pub record MemDiskView : Type 0 where
  pub state : DiskState
  pub written : ℕ
  pub room : ℕ
  pub calls : ℕ
  pub plan : PlanView

-- whether its number of calls is used up
abbrev pub is_spent : MemDiskView → Bool
is_spent d = nat_le d.calls d.plan.calls

-- whether the next call fails, be it no write
abbrev pub fails_call : MemDiskView → Bool
fails_call d = if is_spent d then true else fails_next d.plan

-- whether a write of so many bytes at a place, as the next call, fails: the disk would pass its room, or all writes together twice its room
abbrev pub fails_write : MemDiskView → ℕ → ℕ → Bool
fails_write d place count = if fails_call d then true else if nat_lt d.room (place + count) then true else nat_lt (2 * d.room) (d.written + count)

-- what the next call answers
abbrev pub answer_of : {A : Type 0} → Bool → A → Result A DiskFault
answer_of failed value = if failed then Err (record {}) else Ok value

-- the disk after a call that changes nothing
abbrev pub after_look : MemDiskView → MemDiskView
after_look d = record d { plan = after_call d.plan (fails_call d) }

-- the disk after a change to this content, refused or not: a refused one leaves the content, and a crash may leave a part of it
abbrev pub after_change : MemDiskView → Change → List ℕ → Bool → MemDiskView
after_change d change content failed = record d {
  state = if is_spent d then d.state else with_change change (if failed then d.state.content else content) d.state;
  plan = after_call d.plan failed;
}

-- the disk after a write
abbrev pub after_write : MemDiskView → ℕ → List ℕ → MemDiskView
after_write d place bytes =
    let failed = fails_write d place (length bytes) in
    record (after_change d (Wrote place (length bytes)) (put place bytes d.state.content) failed) {
      written = if failed then d.written else d.written + length bytes;
    }

-- the disk after a cut
abbrev pub after_cut : MemDiskView → ℕ → MemDiskView
after_cut d size = after_change d (CutTo size) (take size d.state.content) (fails_call d)

-- the disk after a sync
abbrev pub after_sync : MemDiskView → MemDiskView
after_sync d = record d {
  state = if fails_call d then d.state else synced d.state;
  plan = after_call d.plan (fails_call d);
}
