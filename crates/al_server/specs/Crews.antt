-- The workers of a server, from the passes that they are made with to those that they leave.
use Rattle.std.specs.Prelude.{◌≡◌, ℕ, ◌+◌, ◌≤◌, Bool, IsSome, Option, Some, List, [], ◌∷◌, length, map, slice_get, sum_by, vec_capacity, vec_len, ⊤}
use Rattle.std.specs.List.{AllByRecursion, AllZip, list_any}
use Rattle.std.specs.VecDeque.{deque_capacity}
use Rattle.al_base.specs.Readings.{Readings}
use Rattle.al_restconf.specs.Machine.{IsAnswer}
use Rattle.al_serve.specs.Doors.{DoorState}
use Rattle.al_serve.specs.Workers.{HasWorked, Work}
use Rattle.al_turn.specs.Passes.{LockState, PassState}
use Rattle.al_turn.specs.Views.{turns_at_first}
use Rattle.al_server.specs.declared.crew.Room.{Room}

-- There is room for so many workers, and a framer for each.
pub record IsRoom {T N K : Type 0} (count : ℕ) (room : Room T N K) : Type 0 where
  pub no_worker : room.workers.items ≡ []
  pub workers : count ≤ vec_capacity room.workers
  pub no_pass : room.passes.items ≡ []
  pub passes : count ≤ deque_capacity room.passes
  pub framers : vec_len room.framers ≡ count

-- A pass with a number that has had no turn: it has seen what the turnstile was made with.
pub record IsFresh (lock : LockState) (number : ℕ) (pass : PassState) : Type 0 where
  pub table : pass.table ≡ lock.table
  pub numbered : pass.view.number ≡ number
  pub base : pass.view.base ≡ length lock.start.entries
  pub seen : pass.view.seen ≡ lock.start
  pub left : pass.view.left ≡ turns_at_first

-- the passes have the numbers from this one on
abbrev pub AreFresh : LockState → ℕ → List PassState → Type 0
AreFresh lock number [] = ⊤
AreFresh lock number (pass ∷ passes) = IsFresh lock number pass × AreFresh lock (number + 1) passes

-- They are all passes of the turnstile, as many as there are to be, and have had no turn.
pub record ArePasses (lock : LockState) (count : ℕ) (passes : List PassState) : Type 0 where
  pub some_pass : 1 ≤ count
  pub counted : length passes ≡ count
  pub fresh : AreFresh lock 1 passes
  pub made : (pass : PassState) → slice_get passes 0 ≡ Some pass → pass.view.made ≡ count

-- A worker with a number that has done nothing yet, of so many connections.
pub record HasBegun (connections number : ℕ) (work : Work) : Type 0 where
  pub origin : work.origin ≡ number
  pub due : work.connections ≡ connections
  pub served : work.served ≡ 0
  pub added : work.added ≡ 0

-- the workers have the numbers from this one on
abbrev pub HaveBegun : ℕ → ℕ → List Work → Type 0
HaveBegun connections number [] = ⊤
HaveBegun connections number (work ∷ works) = HasBegun connections number work × HaveBegun connections (number + 1) works

abbrev pub passes_of : List Work → List (Option PassState)
passes_of works = map (λ (work : Work). work.pass) works

abbrev pub doors_of : List Work → List DoorState
doors_of works = map (λ (work : Work). work.door) works

abbrev pub clocks_of : List Work → List (Option Readings)
clocks_of works = map (λ (work : Work). work.clock) works

-- how many connections the workers have served
abbrev pub served_of : List Work → ℕ
served_of works = sum_by (λ (work : Work). work.served) works

-- whether one of their doors failed
abbrev pub any_failed : List Work → Bool
any_failed works = list_any (λ (work : Work). work.faulted) works

-- each has its pass
abbrev pub HavePasses : List Work → Type 0
HavePasses = AllByRecursion (λ (work : Work). IsSome work.pass)

abbrev pub all_there : List PassState → List (Option PassState)
all_there passes = map (λ (pass : PassState). Some pass) passes

-- There is a worker for each of the passes, with its door and its clock.
pub record AreHired (connections : ℕ) (passes : List PassState) (doors : List DoorState) (clocks : List (Option Readings)) (works : List Work) : Type 0 where
  pub passes_are : passes_of works ≡ all_there passes
  pub doors_are : doors_of works ≡ doors
  pub clocks_are : clocks_of works ≡ clocks
  pub begun : HaveBegun connections 1 works

-- The passes and doors are those of the workers, and the connections that they served are added up.
pub record AreDismissed (works : List Work) (passes : List PassState) (doors : List DoorState) (connections : ℕ) (faulted : Bool) : Type 0 where
  pub passes_are : passes_of works ≡ all_there passes
  pub doors_are : doors_of works ≡ doors
  pub connections_are : connections ≡ served_of works
  pub faulted_is : faulted ≡ any_failed works

-- Workers with these passes, doors and clocks have worked, and left those passes and doors.
pub record HaveWorked (connections : ℕ) (passes : List PassState) (doors : List DoorState) (clocks : List (Option Readings)) (last_passes : List PassState) (last_doors : List DoorState) (served : ℕ) (faulted : Bool) : Type 0 where
  pub works : List Work
  pub last_works : List Work
  pub hired : AreHired connections passes doors clocks works
  pub worked : AllZip (HasWorked IsAnswer) works last_works
  pub dismissed : AreDismissed last_works last_passes last_doors served faulted
