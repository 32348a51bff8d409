-- Which events are asked for and carried out.
use Rattle.std.specs.Prelude.{◌≡◌, ℕ, true, Some}
use Rattle.al_model.specs.Decision.{event_of}
use Rattle.al_model.specs.History.{asked_for}
use Rattle.al_model.specs.State.{State}
use Rattle.al_model.specs.declared.event.Event.{Event}
use Rattle.al_model.specs.declared.request.Request.{Request}
use Rattle.al_lists.specs.Verdicts.{is_change, verdict_at}

-- There is a request that asks for the event, and it would be carried out by just this event at the time.
pub record IsAsked (s : State) (time : ℕ) (event : Event) : Type 0 where
  pub request : Request
  pub asked : asked_for s event ≡ Some request
  pub event_is : event_of s request ≡ event
  pub changes : is_change (verdict_at s time request) ≡ true
