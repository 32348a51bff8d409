-- What `serve` does: workers answer the connections of their doors, at the same time, over the one history that a journal shows.
use Rattle.std.specs.Prelude.{◌≡◌, ◌==◌, ◌⊎◌, ℕ, ◌+◌, ◌-◌, ◌≤◌, Bool, true, false, Option, None, Some, List, [], ◌∷◌, ◌++◌, codes, if◌then◌else◌, length, map, min, sum_by, ⊤}
use Rattle.std.specs.List.{list_any}
use Rattle.al_base.specs.Outside.{Rose}
use Rattle.al_base.specs.Readings.{Readings}
use Rattle.al_model.specs.History.{IsLegal}
use Rattle.al_model.specs.declared.kept.Mark.{Mark}
use Rattle.al_restconf.specs.Machine.{IsAnswer}
use Rattle.al_serve.specs.Doors.{Connection, DoorState}
use Rattle.al_serve.specs.Workers.{AreServed, HandsOut, Round}
use Rattle.al_turn.specs.Histories.{GoesOn, Numbered, entries_of, further}
use Rattle.al_commands.specs.Lines.{Tells, count_text, fault_line}
use Rattle.al_commands.specs.Sessions.{Disks, HasNotBegun, KeepsJournal}
use Rattle.al_commands.specs.Statuses.{status_done, status_door_fault}

-- ---- one door

-- What came of one door: the door as it was handed in and as it comes back, the clock as it was handed in and then, the connections that were served, what its
-- worker saw last, how many entries the worker added, and whether the door failed.
pub record Station : Type 0 where
  pub given : DoorState
  pub left : DoorState
  pub old_clock : Option Readings
  pub new_clock : Option Readings
  pub rounds : List Round
  pub seen : Mark
  pub added : ℕ
  pub faulted : Bool

-- how many connections are due, of those to come: a door that doesn't tell them has no end
abbrev pub due_by : ℕ → Option (List Connection) → ℕ
due_by connections None = connections
due_by connections (Some coming) = min connections (length coming)

abbrev pub due_of : ℕ → DoorState → ℕ
due_of connections door = due_by connections door.coming

-- the one origin of a worker's entries: its number
abbrev pub only : ℕ → ℕ → Bool
only number origin = origin == number

-- The worker with the number served connections of its door one after the other, over the history that is `before` at first and `after` at the end. `after` goes on
-- from what the worker saw last, and has no further entry of the worker's. The door gave just the connections that were served, as many as are due unless it failed.
pub record HasServedDoor (connections : ℕ) (before after : Mark) (number : ℕ) (station : Station) : Type 0 where
  pub are_served : AreServed IsAnswer (only number) number before station.old_clock station.rounds station.seen station.new_clock
  pub goes_on : GoesOn station.seen after
  pub own : entries_of after.entries number (length before.entries) ≡ entries_of station.seen.entries number (length before.entries)
  pub added : station.added ≡ length (entries_of after.entries number (length before.entries))
  pub door : HandsOut station.given station.rounds station.left
  pub within : length station.rounds ≤ due_of connections station.given
  pub due : station.faulted ≡ false → length station.rounds ≡ due_of connections station.given
  pub faulted : station.faulted ≡ true → Rose station.given.faults station.left.faults

-- ---- all doors

-- the workers have the numbers from this one on, in the order of their doors
abbrev pub HaveServedDoors : ℕ → Mark → Mark → ℕ → List Station → Type 0
HaveServedDoors connections before after number [] = ⊤
HaveServedDoors connections before after number (station ∷ stations) =
    HasServedDoor connections before after number station × HaveServedDoors connections before after (number + 1) stations

-- how many connections were served
abbrev pub served_by : List Station → ℕ
served_by stations = sum_by (λ station. length station.rounds) stations

-- how many entries were added
abbrev pub added_by : List Station → ℕ
added_by stations = sum_by (λ station. station.added) stations

-- whether a door failed
abbrev pub has_failed : List Station → Bool
has_failed stations = list_any (λ station. station.faulted) stations

abbrev pub status_by : Bool → ℕ
status_by failed = if failed then status_door_fault else status_done

abbrev pub served_line : ℕ → ℕ → List ℕ
served_line connections entries = count_text (codes "served ") connections ++ count_text (codes " connections, ") entries ++ codes " entries\n"

-- The doors, with the clocks of their workers, before and after.
pub record Posts : Type 0 where
  pub old_doors : List DoorState
  pub new_doors : List DoorState
  pub clocks : List (Option Readings)

-- The history `before` was served at all doors, with so many connections for each worker, up to the history `after`. It goes on, and what it has more at the end
-- are the workers' entries, each of one of them, which add up.
pub record AreAllServed (connections : ℕ) (posts : Posts) (before after : Mark) (stations : List Station) : Type 0 where
  pub goes_on : GoesOn before after
  pub given : map (λ (station : Station). station.given) stations ≡ posts.old_doors
  pub left : map (λ (station : Station). station.left) stations ≡ posts.new_doors
  pub clocks : map (λ (station : Station). station.old_clock) stations ≡ posts.clocks
  pub served : HaveServedDoors connections before after 1 stations
  pub origins : Numbered (length stations) (further after.entries before.entries)
  pub added : added_by stations ≡ length after.entries - length before.entries

-- The history that the disk showed was served at all doors and stays legal. The disk shows it as it is at the end, and the line tells how many connections were
-- served and how many entries added.
pub record HasServed (connections : ℕ) (posts : Posts) (disks : Disks) (old_output new_output : Option (List ℕ)) (status : ℕ) : Type 0 where
  pub before : Mark
  pub after : Mark
  pub legal_before : IsLegal before.entries
  pub legal_after : IsLegal after.entries
  pub stations : List Station
  pub all : AreAllServed connections posts before after stations
  pub journal : KeepsJournal before after disks
  pub told : Tells (served_line (served_by stations) (length after.entries - length before.entries)) (status_by (has_failed stations)) old_output new_output status

-- ---- nothing served

-- The journal wasn't opened, by this cause, or there was no memory to begin, and why is told, but for want of memory. The content is as it was, and each image was
-- possible before.
pub record HasNotServed (disks : Disks) (old_output new_output : Option (List ℕ)) (status : ℕ) : Type 0 where
  pub told_status : ℕ
  pub not_begun : HasNotBegun disks told_status
  pub told : Tells (fault_line not_begun.fault) told_status old_output new_output status

-- ---- what the workers leave

-- The workers have served all doors, so many connections, and one of the doors failed where that is so.
pub record EndsShift (connections : ℕ) (posts : Posts) (before after : Mark) (served : ℕ) (failed : Bool) : Type 0 where
  pub stations : List Station
  pub all : AreAllServed connections posts before after stations
  pub served_is : served ≡ served_by stations
  pub failed_is : failed ≡ has_failed stations

-- ---- counts of faults

-- The count of faults of one of the doors rose.
abbrev pub OneRose : List DoorState → List DoorState → Type 0
OneRose [] new_doors = ⊥
OneRose (old ∷ old_doors) [] = ⊥
OneRose (old ∷ old_doors) (new ∷ new_doors) = Rose old.faults new.faults ⊎ OneRose old_doors new_doors
