-- What becomes of the alarms, with the memory that is at hand for it.
use Rattle.std.specs.Prelude.{◌≡◌, ℕ, zero, suc, ◌<◌, ⊤, Option, None, Some, List, [], ◌∷◌, slice_get, slice_set}
use Rattle.std.specs.List.{AllByRecursion}
use Rattle.al_model.specs.Alarms.{with_operator}
use Rattle.al_model.specs.State.{AlarmState}
use Rattle.al_model.specs.declared.entry.OperatorEntry.{OperatorEntry}
use Rattle.al_contents.specs.Views.{AlarmView, mark_of, states}

-- ---- one alarm

-- the alarms with the one at the place as the function makes it
abbrev pub at_place : ℕ → (AlarmState → AlarmState) → List AlarmState → List AlarmState
at_place place f [] = []
at_place zero f (x ∷ xs) = f x ∷ xs
at_place (suc place) f (x ∷ xs) = x ∷ at_place place f xs

-- An alarm stands at the place, with a property.
pub record HasAlarm (views : List AlarmView) (place : ℕ) (P : AlarmView → Type 0) : Type 0 where
  pub view : AlarmView
  pub stands : slice_get views place ≡ Some view
  pub has : P view

-- The alarm at the place, if one stands there, is on the list by its newest operator entry.
abbrev pub IsListedAt : List AlarmState → ℕ → Type 0
IsListedAt alarms place = (a : AlarmState) → slice_get alarms place ≡ Some a → mark_of a.operators ≡ None

-- The alarm at the place is now as the function makes it, which knows how many status entries it keeps.
pub record ChangesAt (f : Option ℕ → AlarmState → AlarmState) (place : ℕ) (before after : List AlarmView) : Type 0 where
  pub view : AlarmView
  pub stands : slice_get before place ≡ Some view
  pub becomes : AlarmView
  pub list : after ≡ slice_set before place becomes
  pub state : becomes.state ≡ f view.max view.state
  pub max : becomes.max ≡ view.max

-- ---- how many status entries alarms keep

-- Where each alarm kept so many before, each does after.
abbrev pub AreMaxesKept : List AlarmView → List AlarmView → Type 0
AreMaxesKept before after = (max : Option ℕ) → AllByRecursion (λ v. v.max ≡ max) before → AllByRecursion (λ v. v.max ≡ max) after

-- The alarms are the same but for the memory that is at hand.
pub record ReservesOnly (before after : List AlarmView) : Type 0 where
  pub states_same : states after ≡ states before
  pub maxes : AreMaxesKept before after

-- ---- moves

-- the alarms after moves, of which there is one for each alarm, or none
abbrev pub after_moves : List (Option OperatorEntry) → List AlarmState → List AlarmState
after_moves [] xs = xs
after_moves (move ∷ moves) [] = []
after_moves (move ∷ moves) (x ∷ xs) = with_operator move x ∷ after_moves moves xs

-- room for the entry of a move, if there is one
abbrev pub HasRoomFor : Option OperatorEntry → AlarmView → Type 0
HasRoomFor None view = ⊤
HasRoomFor (Some e) view = 0 < view.operator_room

abbrev pub HaveRoom : List (Option OperatorEntry) → List AlarmView → Type 0
HaveRoom [] views = ⊤
HaveRoom (move ∷ moves) [] = ⊥
HaveRoom (move ∷ moves) (view ∷ views) = HasRoomFor move view × HaveRoom moves views
