-- The exchange: requests and their answers, one turn each, over one history to which others may add between the turns, for any service.
use Rattle.std.specs.Prelude.{◌≡◌, ℕ, ◌+◌, ◌≤◌, Bool, true, Some, List, [], ◌∷◌, flat_map, length, take}
use Rattle.std.specs.List.{AllByRecursion}
use Rattle.al_base.specs.Limits.{last_stamp}
use Rattle.al_http.specs.Requests.{RequestMessage}
use Rattle.al_http.specs.Responses.{out_of_memory_response}
use Rattle.al_http.specs.Services.{Adds, Answers}
use Rattle.al_http.specs.declared.response.Response.{Response}
use Rattle.al_model.specs.declared.entry.Entry.{Entry}
use Rattle.al_model.specs.declared.kept.Mark.{Mark}
use Rattle.al_turn.specs.Histories.{GoesOn, MadeByOthers, entries_by, further}

-- How a turn came by its response: the service gave it, or there was no memory for one.
pub data Outcome : Type 0 where
  Plain OutOfMemory : Outcome

-- A request, the reading of the clock at it, its response, and what is kept before and after it: the history with its count of faults.
pub record Turn : Type 0 where
  pub request : RequestMessage
  pub reading : ℕ
  pub before : Mark
  pub response : Response
  pub after : Mark
  pub outcome : Outcome

-- An answer of the service, or want of memory, which is told with the place and adds nothing.
abbrev pub IsOutcome : Answers → ℕ → Turn → Outcome → Type 0
IsOutcome answers origin turn Plain = answers turn.before origin turn.request turn.reading turn.response turn.after
IsOutcome answers origin turn OutOfMemory =
    (turn.response ≡ out_of_memory_response (length turn.before.entries)) × (turn.after.entries ≡ turn.before.entries)

-- A turn over the history that it took, whose length is its place. It adds one entry at most, of its own origin.
pub record IsTurn (answers : Answers) (origin : ℕ) (turn : Turn) : Type 0 where
  pub came_by : IsOutcome answers origin turn turn.outcome
  pub stamp : turn.reading ≤ last_stamp
  pub place : turn.response.place ≡ Some (length turn.before.entries)
  pub adds : Adds origin turn.before turn.after

-- What was kept has gone on by entries that others made.
pub record GoesOnByOthers (origins : ℕ → Bool) (before after : Mark) : Type 0 where
  pub goes_on : GoesOn before after
  pub others : MadeByOthers origins (further after.entries before.entries)

-- The turns take what is kept one after the other. Each finds what the one before it left, gone on by others alone, and nothing changes behind the last one.
abbrev pub GoThrough : (ℕ → Bool) → Mark → List Turn → Mark → Type 0
GoThrough origins before [] after = after ≡ before
GoThrough origins before (turn ∷ turns) after = GoesOnByOthers origins before turn.before × GoThrough origins turn.after turns after

-- Turns of an origin, from what was seen before them to what was seen last. None but they add entries of those origins.
pub record IsExchange (answers : Answers) (origins : ℕ → Bool) (origin : ℕ) (before : Mark) (turns : List Turn) (after : Mark) : Type 0 where
  pub each : AllByRecursion (IsTurn answers origin) turns
  pub through : GoThrough origins before turns after

-- the length of the history that the turn took
abbrev pub place_of : Turn → ℕ
place_of turn = length turn.before.entries

-- the entries that the turn added
abbrev pub added_by : Turn → List Entry
added_by turn = further turn.after.entries turn.before.entries

-- those that the turns added, in order
abbrev pub all_added : List Turn → List Entry
all_added turns = flat_map added_by turns

-- The turns are at places of the history that never fall: what a turn took is the front of the history of that length, what it left is the front that has the
-- turn's entries too, and no turn behind it is at a place before that.
abbrev pub AreAtPlaces : List Entry → ℕ → List Turn → Type 0
AreAtPlaces history least [] = least ≤ length history
AreAtPlaces history least (turn ∷ turns) =
    (least ≤ place_of turn)
    × (turn.before.entries ≡ take (place_of turn) history)
    × (turn.after.entries ≡ take (place_of turn + length (added_by turn)) history)
    × AreAtPlaces history (place_of turn + length (added_by turn)) turns

-- The counts of faults never fall, from the least to the greatest.
abbrev pub CountsRise : ℕ → List Turn → ℕ → Type 0
CountsRise least [] greatest = least ≤ greatest
CountsRise least (turn ∷ turns) greatest = (least ≤ turn.before.faults) × (turn.before.faults ≤ turn.after.faults) × CountsRise turn.after.faults turns greatest

-- What an exchange says of the history that was seen last: it has all that was seen before, the turns are at places of it, and its further entries of
-- the turns' origin are those that the turns added, each once and in order. Where none but they add entries, these are all further ones.
pub record IsOfOneHistory (origins : ℕ → Bool) (origin : ℕ) (before : Mark) (turns : List Turn) (after : Mark) : Type 0 where
  pub goes_on : GoesOn before after
  pub places : AreAtPlaces after.entries (length before.entries) turns
  pub counts : CountsRise before.faults turns after.faults
  pub own : origins origin ≡ true → entries_by origin (further after.entries before.entries) ≡ all_added turns
  pub alone : ((other : ℕ) → origins other ≡ true) → further after.entries before.entries ≡ all_added turns
