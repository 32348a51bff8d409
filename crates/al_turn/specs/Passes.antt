-- Passes and turnstiles as contracts see them.
use Rattle.std.specs.Prelude.{◌≡◌, ◌==◌, ℕ, ◌+◌, ◌<◌, ◌≤◌, Bool, true, false, List, [], ◌∷◌, Option, None, Some, drop, length, slice_get}
use Rattle.atomic_table.specs.Seated.{TableId}
use Rattle.atomic_table.specs.Table.{Me}
use Rattle.al_model.specs.declared.kept.Mark.{Mark}
use Rattle.al_turn.specs.Histories.{GoesOn, Numbered, entries_of}
use Rattle.al_turn.specs.Identities.{Identity}
use Rattle.al_turn.specs.Views.{is_taken, rank}
use Rattle.al_turn.specs.declared.view.View.{View}

-- A turnstile: which one it is, and the mark of the value that it was made with.
pub record LockState : Type 0 where
  pub table : TableId
  pub start : Mark

-- A pass: whose it is, and what it knows.
pub record PassState : Type 0 where
  pub table : TableId
  pub view : View

-- What it has seen is no shorter than the history was when the turnstile was made.
abbrev pub IsSince : View → Type 0
IsSince v = v.base ≤ length v.seen.entries

-- A pass between turns has no ticket and no slot.
pub record IsIdle {T : Type 0} (me : Me (Option T) View) : Type 0 where
  pub stage : rank me.0.stage ≡ 0
  pub slots : me.1 ≡ []
  pub number : 0 < me.0.number
  pub since : IsSince me.0

-- A seat between calls: it is idle, or the value is out with it, and it knows how long the history was.
pub record IsSeated {T : Type 0} (me : Me (Option T) View) (before : ℕ) : Type 0 where
  pub number : 0 < me.0.number
  pub since : IsSince me.0
  pub idle : is_taken me.0 ≡ false → (rank me.0.stage ≡ 0) × (me.1 ≡ [])
  pub out : is_taken me.0 ≡ true → (me.1 ≡ (0, None) ∷ []) × (before ≡ length me.0.seen.entries)

abbrev pub identity_of : PassState → Identity
identity_of p = record { table = Some p.table; number = p.view.number; base = p.view.base; made = p.view.made }

-- the one origin that a pass may add
abbrev pub own_origin : PassState → ℕ → Bool
own_origin p origin = origin == p.view.number

-- The passes are those from 1 to the number made, in this order, all of the table.
pub record AllPasses (table : TableId) (passes : List PassState) : Type 0 where
  pub some_pass : 0 < length passes
  pub each : (k : ℕ) (p : PassState) → slice_get passes k ≡ Some p → (p.view.number ≡ k + 1) × (p.table ≡ table)
  pub made : (p : PassState) → slice_get passes 0 ≡ Some p → p.view.made ≡ length passes

-- What the last value shows a pass: it goes on from what the pass has seen, and the pass's own entries in it are what it has put.
pub record Ended (start : Mark) (p : PassState) (last : Mark) : Type 0 where
  pub goes_on : GoesOn p.view.seen last
  pub own : entries_of last.entries p.view.number (length start.entries) ≡ entries_of p.view.seen.entries p.view.number (length start.entries)

-- The last value of a turnstile.
pub record Closed (start : Mark) (passes : List PassState) (last : Mark) : Type 0 where
  pub goes_on : GoesOn start last
  pub each : (k : ℕ) (p : PassState) → slice_get passes k ≡ Some p → Ended start p last
  pub origins : Numbered (length passes) (drop (length start.entries) last.entries)

-- A value without a lock: what was seen of it last, and whether it is out.
pub record AloneState : Type 0 where
  pub seen : Mark
  pub taken : Bool

-- turns at a value without a lock are of no turnstile and no pass
abbrev pub no_identity : Identity
no_identity = record { table = None; number = 0; base = 0; made = 0 }
