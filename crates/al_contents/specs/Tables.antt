-- What the tables show.
use Rattle.std.specs.Prelude.{ℕ, List}
use Rattle.al_model.specs.State.{State}
use Rattle.al_contents.specs.Views.{AlarmView}

-- The state, its alarms with their rooms, and for how many more alarms memory is at hand.
pub record TablesView : Type 0 where
  pub state : State
  pub alarms : List AlarmView
  pub room : ℕ
