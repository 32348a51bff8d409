-- What holds of every state and history.
use Rattle.std.specs.Prelude.{◌≡◌, ◌≢◌, ◌↔◌, ◌⊎◌, ℕ, ◌+◌, ◌<◌, ◌≤◌, ◌^◌, nat_lt, Bool, true, ⊤, Option, None, Some, List, [], ◌∷◌, ◌++◌, length, take, slice_get}
use Rattle.std.specs.List.{AllByRecursion, count_by, zip}
use Rattle.al_base.specs.Limits.{last_stamp, most_alarms}
use Rattle.al_select.specs.declared.compress.CompressFilter.{CompressFilter}
use Rattle.al_select.specs.declared.purge.PurgeFilter.{PurgeFilter}
use Rattle.al_shelf.specs.Places.{AreShelves, without}
use Rattle.al_model.specs.Decision.{changes, decision_of, entry_of, entry_time, event_of, full, missing, reply_of, undeclared}
use Rattle.al_model.specs.History.{Fits, IsLegal, replay}
use Rattle.al_model.specs.Limits.{IsEntryWithin, IsRequestWithin}
use Rattle.al_model.specs.State.{AlarmState, State, alarms_on}
use Rattle.al_model.specs.Step.{IsSameButTime, step}
use Rattle.al_model.specs.Validity.{IsBounded, IsInOrder, IsMarked, IsNewest, IsTimed, IsValid}
use Rattle.al_model.specs.declared.decision.Decision.TheVariants.{Refuse, Same, Change}
use Rattle.al_model.specs.declared.decision.Decision.{Decision}
use Rattle.al_model.specs.declared.decision.Refusal.TheVariants.{Disk, JournalFull, Memory}
use Rattle.al_model.specs.declared.decision.Refusal.{Refusal}
use Rattle.al_model.specs.declared.decision.Reply.TheVariants.{Count}
use Rattle.al_model.specs.declared.decision.Reply.{Reply}
use Rattle.al_model.specs.declared.entry.Entry.{Entry}
use Rattle.al_model.specs.declared.event.Event.{Event}
use Rattle.al_model.specs.declared.event.Event.TheVariants as events
use Rattle.al_model.specs.declared.event.Side.{Side}
use Rattle.al_model.specs.declared.event.Side.TheVariants as sides
use Rattle.al_model.specs.declared.request.Request.{Request}
use Rattle.al_model.specs.declared.request.Request.TheVariants as requests

-- ---- the state after a legal history

-- The newest status entry of each alarm agrees with it.
abbrev pub NewestStatusAgrees : Type 0
NewestStatusAgrees = (h : List Entry) → IsLegal h → AllByRecursion IsNewest (replay h).alarms

-- Times fall strictly within each history, and each alarm's times are in order and not after the last entry's.
abbrev pub TimesFall : Type 0
TimesFall = (h : List Entry) → IsLegal h → AllByRecursion (IsTimed (replay h).time) (replay h).alarms

-- An alarm is on a shelf exactly where its newest operator entry says so, with the name of its first shelf.
abbrev pub ShelvedIsMarked : Type 0
ShelvedIsMarked = (h : List Entry) → IsLegal h → AllByRecursion (IsMarked (replay h)) (replay h).alarms

-- Histories keep their bounds.
abbrev pub HistoriesAreBounded : Type 0
HistoriesAreBounded = (h : List Entry) → IsLegal h → AllByRecursion (IsBounded (replay h).max) (replay h).alarms

-- Alarms stand in the order of their keys, which are distinct, and there are at most 10,000.
abbrev pub AlarmsAreInOrder : Type 0
AlarmsAreInOrder = (h : List Entry) → IsLegal h → IsInOrder (replay h).alarms × (length (replay h).alarms ≤ most_alarms)

-- There are at most 64 shelves, of distinct names.
abbrev pub ShelvesAreFew : Type 0
ShelvesAreFew = (h : List Entry) → IsLegal h → AreShelves (replay h).shelves

-- All of this, and the rest of what is valid.
abbrev pub ReplaysAreValid : Type 0
ReplaysAreValid = (h : List Entry) → IsLegal h → IsValid (replay h)

-- Each step keeps what is valid.
abbrev pub StepsKeepValid : Type 0
StepsKeepValid = (s : State) (e : Entry) → Fits s e → IsValid s → IsValid (step s e)

-- The time of a side is that of the last entry that changed its alarms in anything.
abbrev pub side_time : State → Side → Option ℕ
side_time s sides.List = s.list_time
side_time s sides.Shelf = s.shelf_time

pub record MovesSideTime (s : State) (e : Entry) (side : Side) : Type 0 where
  pub stays : alarms_on (step s e) side ≡ alarms_on s side → side_time (step s e) side ≡ side_time s side
  pub moves : alarms_on (step s e) side ≢ alarms_on s side → side_time (step s e) side ≡ Some e.time

abbrev pub SideTimesFollow : Type 0
SideTimesFollow = (s : State) (e : Entry) (side : Side) → IsValid s → Fits s e → MovesSideTime s e side

-- ---- decisions

-- The decision is that nothing changes.
abbrev pub IsSame : Decision → Type 0
IsSame (Refuse refusal) = ⊥
IsSame (Same reply) = ⊤
IsSame (Change event reply) = ⊥

-- A request that may be carried out is decided on as the same exactly where the step of its event leaves all but the time.
abbrev pub SameLeavesAllButTime : Type 0
SameLeavesAllButTime =
    (s : State) (origin : ℕ) (request : Request) (now : ℕ) → IsValid s → missing s request ≡ None → undeclared s request ≡ None
    → IsSame (decision_of s request now) ↔ IsSameButTime s (step s (entry_of s origin (event_of s request) now))

-- It is refused for one of three points: for what it is about, for the inventory, or for want of room where it would change anything.
-- Each is asked only where those before it don't refuse.
abbrev pub IsRefused : State → Request → ℕ → Refusal → Type 0
IsRefused s request now refusal =
    (missing s request ≡ Some refusal)
    ⊎ ((missing s request ≡ None) × (undeclared s request ≡ Some refusal))
    ⊎ ((missing s request ≡ None) × (undeclared s request ≡ None) × (changes s (entry_time s now) (event_of s request) ≡ true)
    × (full s (entry_time s now) (event_of s request) ≡ Some refusal))

abbrev pub RefusalsFollowPoints : Type 0
RefusalsFollowPoints =
    (s : State) (request : Request) (now : ℕ) (refusal : Refusal) → (decision_of s request now ≡ Refuse refusal) ↔ IsRefused s request now refusal

-- No decision refuses for the journal, the disk or want of memory.
abbrev pub NeverRefusesForMeans : Type 0
NeverRefusesForMeans =
    (s : State) (request : Request) (now : ℕ) →
    (decision_of s request now ≢ Refuse JournalFull) × (decision_of s request now ≢ Refuse Disk) × (decision_of s request now ≢ Refuse Memory)

-- What is the same and what is changed answer the request's reply, and a change is by the request's event.
abbrev pub AnswersReply : Type 0
AnswersReply =
    (s : State) (request : Request) (now : ℕ) →
    ((reply : Reply) → decision_of s request now ≡ Same reply → reply ≡ reply_of s (entry_time s now) request)
    × ((event : Event) (reply : Reply) → decision_of s request now ≡ Change event reply
    → (event ≡ event_of s request) × (reply ≡ reply_of s (entry_time s now) request))

-- What is decided on fits: the entry by which a request within limits is carried out goes on with a legal history.
abbrev pub DecidedEntriesFit : Type 0
DecidedEntriesFit =
    (h : List Entry) (origin : ℕ) (request : Request) (now : ℕ) (event : Event) (reply : Reply) → IsLegal h → IsRequestWithin request
    → origin < 2 ^ 16 → now ≤ last_stamp → decision_of (replay h) request now ≡ Change event reply
    → Fits (replay h) (entry_of (replay h) origin event now)

-- ---- counts and repeats

-- A purge answers how many alarms go.
abbrev pub PurgesCountAlarms : Type 0
PurgesCountAlarms =
    (s : State) (origin : ℕ) (side : Side) (filter : PurgeFilter) (now : ℕ) (event : Event) (n : ℕ)
    → decision_of s (requests.Purge side filter) now ≡ Change event (Count n)
    → n + length (step s (entry_of s origin event now)).alarms ≡ length s.alarms

-- whether the second alarm has fewer status entries than the first
abbrev pub lost_entry : AlarmState × AlarmState → Bool
lost_entry p = nat_lt (length p.1.statuses) (length p.0.statuses)

-- A compression answers how many alarms lose an entry.
abbrev pub CompressionsCountAlarms : Type 0
CompressionsCountAlarms =
    (s : State) (origin : ℕ) (side : Side) (filter : CompressFilter) (now : ℕ) (event : Event) (n : ℕ)
    → decision_of s (requests.Compress side filter) now ≡ Change event (Count n)
    → n ≡ count_by lost_entry (zip s.alarms (step s (entry_of s origin event now)).alarms)

-- Where neither changes anything, it answers none.
abbrev pub SameCountsNone : Type 0
SameCountsNone = (s : State) (request : Request) (now n : ℕ) → decision_of s request now ≡ Same (Count n) → n ≡ 0

-- The event says the same whenever it comes: an operator's action is new each time, and an age passes with time.
abbrev pub IsRepeatable : State → Event → Type 0
IsRepeatable s (events.Report key status text) = ⊤
IsRepeatable s (events.Operate key state operator text) = ⊥
IsRepeatable s (events.SetMax max) = ⊤
IsRepeatable s (events.SetNotify rule) = ⊤
IsRepeatable s (events.PutShelf shelf at) = at ≤ length (without shelf.name s.shelves)
IsRepeatable s (events.DropShelf name) = ⊤
IsRepeatable s (events.Purge side filter) = filter.age ≡ None
IsRepeatable s (events.Compress side filter) = ⊤
IsRepeatable s (events.Install inventory) = ⊤

-- A repeat of such an event leaves all but the time.
abbrev pub RepeatsLeaveAll : Type 0
RepeatsLeaveAll =
    (s : State) (e again : Entry) → IsRepeatable s e.event → again.event ≡ e.event → IsSameButTime (step s e) (step (step s e) again)

-- ---- histories

-- A history is legal exactly where each entry fits the replay of what is before it.
abbrev pub EveryPrefixFits : Type 0
EveryPrefixFits =
    (h : List Entry) → IsLegal h ↔ ((n : ℕ) (e : Entry) → slice_get h n ≡ Some e → Fits (replay (take n h)) e)

-- The replay of one more entry is one step.
abbrev pub OneMoreIsOneStep : Type 0
OneMoreIsOneStep = (h : List Entry) (e : Entry) → replay (h ++ e ∷ []) ≡ step (replay h) e

-- A history of one more entry is legal exactly where the history is and the entry fits its replay.
abbrev pub OneMoreFits : Type 0
OneMoreFits = (h : List Entry) (e : Entry) → IsLegal (h ++ e ∷ []) ↔ (IsLegal h × Fits (replay h) e)

-- The front of a legal history is legal.
abbrev pub FrontsAreLegal : Type 0
FrontsAreLegal = (h : List Entry) (n : ℕ) → IsLegal h → IsLegal (take n h)

-- Every entry of a legal history is within limits, its time among them.
abbrev pub EntriesAreWithin : Type 0
EntriesAreWithin = (h : List Entry) → IsLegal h → AllByRecursion IsEntryWithin h

-- No legal history ends later than the last stamp.
abbrev pub EndsInTime : Type 0
EndsInTime = (h : List Entry) → IsLegal h → (replay h).time ≤ last_stamp
