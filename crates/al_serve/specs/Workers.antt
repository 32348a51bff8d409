-- Workers, and the connections that they serve.
use Rattle.std.specs.Prelude.{◌≡◌, ◌⊎◌, ℕ, ◌+◌, ◌-◌, ◌*◌, ◌≤◌, ◌<◌, slice_index_or, Bool, true, Option, Some, List, [], ◌∷◌, ◌++◌, length, map}
use Rattle.std.specs.Option.{option_map}
use Rattle.al_base.specs.Outside.{Rose}
use Rattle.al_base.specs.Readings.{Readings}
use Rattle.al_http.specs.Services.{Answers}
use Rattle.al_http.specs.Streams.{request_limit}
use Rattle.al_model.specs.declared.kept.Mark.{Mark}
use Rattle.al_turn.specs.Histories.{GoesOn, entries_by, entries_of, further}
use Rattle.al_turn.specs.Passes.{LockState, PassState, identity_of, own_origin}
use Rattle.al_serve.specs.Conversations.{IsConversation}
use Rattle.al_serve.specs.Doors.{Connection, DoorState, IsAtEnd}
use Rattle.al_serve.specs.declared.conversation.Cause.TheVariants.{ReadFault, WriteFault}
use Rattle.al_serve.specs.declared.conversation.Ending.{Ending}
use Rattle.al_serve.specs.declared.worker.Worker.{Worker}

-- A connection was served: its input was answered in a conversation, until that ended. A fault ended it only where the source's or the sink's count rose.
pub record IsServed (answers : Answers) (origins : ℕ → Bool) (origin : ℕ) (before after : Mark) (given left : Connection) (old_clock new_clock : Option Readings) : Type 0 where
  pub ending : Ending
  pub conversation : IsConversation answers origins origin before after given.input
      (record { old_output = given.output; new_output = left.output; old_clock = old_clock; new_clock = new_clock }) ending
  pub read_fault : ending.cause ≡ ReadFault → Rose given.input_faults left.input_faults
  pub write_fault : ending.cause ≡ WriteFault → Rose given.output_faults left.output_faults
  pub later_input : given.input_faults ≤ left.input_faults
  pub later_output : given.output_faults ≤ left.output_faults

-- A connection as it came and as it was left, and what was seen last and the clock then.
pub record Round : Type 0 where
  pub given : Connection
  pub left : Connection
  pub after : Mark
  pub clock : Option Readings

abbrev pub given_of : List Round → List Connection
given_of rounds = map (λ round. round.given) rounds

abbrev pub left_of : List Round → List Connection
left_of rounds = map (λ round. round.left) rounds

-- The connections were served one after the other, each from what was seen last in the one before it, and with the clock's next readings.
abbrev pub AreServed : Answers → (ℕ → Bool) → ℕ → Mark → Option Readings → List Round → Mark → Option Readings → Type 0
AreServed answers origins origin before old_clock [] after new_clock = (after ≡ before) × (new_clock ≡ old_clock)
AreServed answers origins origin before old_clock (round ∷ rounds) after new_clock =
    IsServed answers origins origin before round.after round.given round.left old_clock round.clock
    × AreServed answers origins origin round.after round.clock rounds after new_clock

-- The door gave those connections and no others, in order, and took them back as they were left.
pub record HandsOut (before : DoorState) (rounds : List Round) (after : DoorState) : Type 0 where
  pub coming : before.coming ≡ option_map (λ rest. given_of rounds ++ rest) after.coming
  pub finished : after.finished ≡ option_map (λ earlier. earlier ++ left_of rounds) before.finished
  pub out : after.out ≡ before.out
  pub later : before.faults ≤ after.faults

-- how many entries the owner of a pass has put
abbrev pub put_by : PassState → ℕ
put_by pass = length (entries_of pass.view.seen.entries pass.view.number pass.view.base)

-- A worker as its work is seen.
pub record Work : Type 0 where
  pub pass : Option PassState
  pub origin : ℕ
  pub door : DoorState
  pub clock : Option Readings
  pub connections : ℕ
  pub served : ℕ
  pub added : ℕ
  pub faulted : Bool

abbrev pub work_of : {T N V K : Type 0} → (N → DoorState) → (K → Option Readings) → Worker T N V K → Work
work_of state readings w =
    record {
      pass = w.pass;
      origin = w.origin;
      door = state w.door;
      clock = readings w.clock;
      connections = w.connections;
      served = w.served;
      added = w.added;
      faulted = w.faulted;
    }

-- It has a pass of the turnstile, with its number and turns enough for the connections that it has still to serve, and hasn't counted more than it did.
pub record IsReady (lock : LockState) (w : Work) : Type 0 where
  pub pass : PassState
  pub has : w.pass ≡ Some pass
  pub table : pass.table ≡ lock.table
  pub number : pass.view.number ≡ w.origin
  pub turns : request_limit * (w.connections - w.served) ≤ pass.view.left
  pub served : w.served ≤ w.connections
  pub added : w.added ≤ put_by pass

-- It has served connections, up to its number of them, the door's end or a fault of the door.
pub record HasWorked (answers : Answers) (before after : Work) : Type 0 where
  pub first : PassState
  pub had : before.pass ≡ Some first
  pub last : PassState
  pub has : after.pass ≡ Some last
  -- it is the same pass, at the same turnstile
  pub identity : identity_of last ≡ identity_of first
  pub origin : after.origin ≡ before.origin
  pub connections : after.connections ≡ before.connections
  pub rounds : List Round
  pub are_served : AreServed answers (own_origin first) before.origin first.view.seen before.clock rounds last.view.seen after.clock
  pub door : HandsOut before.door rounds after.door
  pub served : after.served ≡ before.served + length rounds
  pub within : after.served ≤ after.connections
  -- it has counted just the entries that it put
  pub added : after.added + put_by first ≡ before.added + put_by last
  pub ends : (after.served ≡ after.connections) ⊎ (IsAtEnd after.door ⊎ (after.faulted ≡ true))
  pub faulted : after.faulted ≡ true → Rose before.door.faults after.door.faults

-- The same of the turns and connections alone: so many of a number were served, and so many entries added.
pub record Serves (answers : Answers) (origins : ℕ → Bool) (origin : ℕ) (before after : Mark) (old_door new_door : DoorState) (old_clock new_clock : Option Readings) (number served added : ℕ) (faulted : Bool) : Type 0 where
  pub rounds : List Round
  pub are_served : AreServed answers origins origin before old_clock rounds after new_clock
  pub door : HandsOut old_door rounds new_door
  pub counted : served ≡ length rounds
  pub goes_on : GoesOn before after
  pub added_is : added ≡ length (entries_by origin (further after.entries before.entries))
  pub ends : (served ≡ number) ⊎ (IsAtEnd new_door ⊎ (faulted ≡ true))
  pub within : served ≤ number
  pub faulted_is : faulted ≡ true → Rose old_door.faults new_door.faults

-- Each of the workers has worked.
pub record AllWork {T N V K : Type 0} (answers : V → Answers) (state : N → DoorState) (readings : K → Option Readings) (before after : List (Worker T N V K)) : Type 0 where
  pub count : length after ≡ length before
  pub each : (k : ℕ) (d : Worker T N V K) → k < length before → HasWorked (answers (slice_index_or before k d).service) (work_of state readings (slice_index_or before k d)) (work_of state readings (slice_index_or after k d))
