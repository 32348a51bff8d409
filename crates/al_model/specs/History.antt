-- Histories: what stands after them, and which of them are legal.
use Rattle.std.specs.Prelude.{◌≡◌, ◌<◌, ℕ, zero, suc, ⊤, Option, Some, List, [], ◌∷◌, slice_get, if◌then◌else◌}
use Rattle.std.specs.Option.{option_map}
use Rattle.al_notify.specs.declared.rule.NotifyRule.{NotifyRule}
use Rattle.al_shelf.specs.Places.{without}
use Rattle.al_shelf.specs.declared.shelf.Shelf.{Shelf}
use Rattle.al_shelf.specs.declared.spot.Spot.TheVariants.{First, After}
use Rattle.al_model.specs.Decision.{decision_of}
use Rattle.al_model.specs.Limits.{IsEntryWithin}
use Rattle.al_model.specs.Sames.{same_mode}
use Rattle.al_model.specs.State.{State, start}
use Rattle.al_model.specs.Step.{step}
use Rattle.al_model.specs.declared.decision.Decision.TheVariants.{Change}
use Rattle.al_model.specs.declared.decision.Reply.{Reply}
use Rattle.al_model.specs.declared.entry.Entry.{Entry}
use Rattle.al_model.specs.declared.event.Event.{Event}
use Rattle.al_model.specs.declared.event.Event.TheVariants as events
use Rattle.al_model.specs.declared.request.Request.{Request}
use Rattle.al_model.specs.declared.request.Request.TheVariants as requests

-- ---- replays

-- the state after a history that goes on from a state, and after a whole one
abbrev pub replay_from : State → List Entry → State
replay_from s [] = s
replay_from s (e ∷ rest) = replay_from (step s e) rest

abbrev pub replay : List Entry → State
replay h = replay_from start h

-- ---- asked requests

-- A rule is asked for by its mode where this is another one, else by its level.
abbrev pub asked_rule : NotifyRule → NotifyRule → Request
asked_rule before rule = if same_mode before.mode rule.mode then requests.SetLevel rule.level else requests.SetMode rule.mode

-- A shelf's position is asked for as the first, or after the shelf that is then right before it, where there is one.
abbrev pub asked_shelf : List Shelf → Shelf → ℕ → Option Request
asked_shelf others shelf zero = Some (requests.PutShelf shelf First)
asked_shelf others shelf (suc before) = option_map (λ other. requests.PutShelf shelf (After other.name)) (slice_get others before)

-- the request that an event answers, if there is one
abbrev pub asked_for : State → Event → Option Request
asked_for s (events.Report key status text) = Some (requests.Report key status text)
asked_for s (events.Operate key state operator text) = Some (requests.Operate key state operator text)
asked_for s (events.SetMax max) = Some (requests.SetMax max)
asked_for s (events.SetNotify rule) = Some (asked_rule s.rule rule)
asked_for s (events.PutShelf shelf at) = asked_shelf (without shelf.name s.shelves) shelf at
asked_for s (events.DropShelf name) = Some (requests.DropShelf name)
asked_for s (events.Purge side filter) = Some (requests.Purge side filter)
asked_for s (events.Compress side filter) = Some (requests.Compress side filter)
asked_for s (events.Install inventory) = Some (requests.Install inventory)

abbrev pub asked_by : State → Entry → Option Request
asked_by s e = asked_for s e.event

-- ---- legal histories

-- The entry may come next: it is within limits and later than the last one, and there is a request that asks for its event, on which
-- the decision at its time is a change by just this event, whatever it answers.
pub record Fits (s : State) (e : Entry) : Type 0 where
  pub within : IsEntryWithin e
  pub later : s.time < e.time
  pub request : Request
  pub reply : Reply
  pub asked : asked_by s e ≡ Some request
  pub decided : decision_of s request e.time ≡ Change e.event reply

-- Each entry fits the state that those before it leave.
abbrev pub IsLegalFrom : State → List Entry → Type 0
IsLegalFrom s [] = ⊤
IsLegalFrom s (e ∷ rest) = Fits s e × IsLegalFrom (step s e) rest

abbrev pub IsLegal : List Entry → Type 0
IsLegal h = IsLegalFrom start h
