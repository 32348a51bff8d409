-- What it means that a change of the tables is prepared for an event.
use Rattle.std.specs.Prelude.{◌≡◌, ℕ, None, Some, List, map}
use Rattle.std.specs.List.{filter_map, list_any}
use Rattle.al_shelf.specs.declared.shelf.Shelf.{Shelf}
use Rattle.al_types.specs.Inventories.{InventoryView}
use Rattle.al_model.specs.Alarms.{with_newcomer}
use Rattle.al_model.specs.Events.{after_event, fate, newcomer, set_by}
use Rattle.al_model.specs.History.{Fits}
use Rattle.al_model.specs.State.{AlarmState, State, shelf_name}
use Rattle.al_model.specs.Step.{moved, note_of, touches_side}
use Rattle.al_model.specs.Validity.{IsValid}
use Rattle.al_model.specs.declared.event.Event.{Event}
use Rattle.al_model.specs.declared.event.Side.TheVariants as sides
use Rattle.al_contents.specs.Changes.{HasRoom, with_change}
use Rattle.al_contents.specs.Edits.{after_moves}
use Rattle.al_contents.specs.Tables.{TablesView}
use Rattle.al_lists.specs.Moves.{move_to, moves_by}
use Rattle.al_lists.specs.declared.prepared.Prepared.{Prepared}

-- the alarms after an event at the time and the moves that follow
abbrev pub alarms_after : State → ℕ → Event → List AlarmState
alarms_after s time event = map (moved s (after_event s time event) time) (with_newcomer (newcomer s time event) (filter_map (fate s time event) s.alarms))

-- An entry of the event may come next at the time.
pub record Comes (s : State) (time : ℕ) (event : Event) : Type 0 where
  pub origin : ℕ
  pub fits : Fits s (record { time = time; origin = origin; event = event })

-- Each part of what was prepared is that of the event's step.
pub record Prepares (t : TablesView) (time : ℕ) (event : Event) (p : Prepared) : Type 0 where
  pub room : HasRoom t p.change
  pub time_is : p.time ≡ time
  pub change : with_change time p.change t.state ≡ (let c : State = record (set_by t.state event) { alarms = alarms_after t.state time event } in c)
  pub note : p.note ≡ note_of t.state event
  pub list : p.list ≡ touches_side t.state time event sides.List
  pub shelf : p.shelf ≡ touches_side t.state time event sides.Shelf

-- the state with other shelves, or another inventory
abbrev pub with_shelves : State → List Shelf → State
with_shelves s shelves = record s { shelves = shelves }

abbrev pub with_inventory : State → InventoryView → State
with_inventory s inventory = record s { inventory = Some inventory }

-- They move all alarms to where the shelves and the inventory after have them, and do nothing else.
pub record PreparesMoves (t : TablesView) (time : ℕ) (after : State) (p : Prepared) : Type 0 where
  pub room : HasRoom t p.change
  pub time_is : p.time ≡ time
  pub change : with_change time p.change t.state ≡ (let c : State = record after { alarms = after_moves (map (move_to time (shelf_name after)) t.state.alarms) t.state.alarms } in c)
  pub note : p.note ≡ None
  pub list : p.list ≡ list_any (moves_by time (shelf_name after) sides.List) t.state.alarms
  pub shelf : p.shelf ≡ list_any (moves_by time (shelf_name after) sides.Shelf) t.state.alarms

-- It is prepared for the event in whatever valid tables the event may come to.
abbrev pub PreparesAnywhere : ℕ → Event → Prepared → Type 0
PreparesAnywhere time event p = (t : TablesView) → IsValid t.state → Comes t.state time event → Prepares t time event p
