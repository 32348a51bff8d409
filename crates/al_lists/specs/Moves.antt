-- How alarms move where their first shelves become others, and which of them an event chooses.
use Rattle.std.specs.Prelude.{◌≡◌, ℕ, nat_lt, Bool, true, false, not, ◌&&◌, ◌||◌, Option, None, Some, List, [], ◌∷◌, ◌++◌, is_some, length, map}
use Rattle.std.specs.List.{list_any}
use Rattle.std.specs.Option.{option_map}
use Rattle.al_base.specs.declared.text.Text.{Text}
use Rattle.al_ids.specs.declared.key.AlarmKey.{AlarmKey}
use Rattle.al_shelf.specs.Taking.{first_shelf}
use Rattle.al_shelf.specs.declared.shelf.Shelf.{Shelf}
use Rattle.al_types.specs.Inventories.{InventoryView}
use Rattle.al_model.specs.Alarms.{move_entry}
use Rattle.al_model.specs.State.{AlarmState}
use Rattle.al_model.specs.declared.entry.OperatorEntry.{OperatorEntry}
use Rattle.al_model.specs.declared.event.Side.{Side}
use Rattle.al_model.specs.declared.event.Side.TheVariants as sides
use Rattle.al_contents.specs.Views.{mark_of}
use Rattle.al_lists.specs.declared.prepare.moves.Moves.{Moves}

-- ---- moves

-- the name of the first of the shelves that takes the alarms of the key
abbrev pub first_name : InventoryView → List Shelf → AlarmKey → Option Text
first_name inventory shelves key = option_map (λ shelf. shelf.name) (first_shelf inventory key shelves)

-- whether alarms whose first shelf has this name are on the side
abbrev pub is_side : Side → Option Text → Bool
is_side sides.List name = not (is_some name)
is_side sides.Shelf name = is_some name

-- whether alarms of a first shelf get an entry by their move to another, and are on the side before or after
abbrev pub is_move : ℕ → Side → Option Text → Option Text → Bool
is_move time side before after = is_some (move_entry time before after) && (is_side side before || is_side side after)

-- the entry that an alarm gets at the time by its move, if it moves, where this tells the name of the first shelf of each key
abbrev pub move_to : ℕ → (AlarmKey → Option Text) → AlarmState → Option OperatorEntry
move_to time name a = move_entry time (mark_of a.operators) (name a.key)

-- whether it moves, and is on the side before or after
abbrev pub moves_by : ℕ → (AlarmKey → Option Text) → Side → AlarmState → Bool
moves_by time name side a = is_move time side (mark_of a.operators) (name a.key)

-- The move of one more alarm, from a first shelf to another, is added.
pub record AddsMove (time : ℕ) (before after : Option Text) (old new : Moves) : Type 0 where
  pub entries : new.entries.items ≡ old.entries.items ++ move_entry time before after ∷ []
  pub list : new.list ≡ (old.list || is_move time sides.List before after)
  pub shelf : new.shelf ≡ (old.shelf || is_move time sides.Shelf before after)

-- They are the moves of these alarms at the time, where this tells the name of the first shelf of each key.
pub record AreMoves (time : ℕ) (name : AlarmKey → Option Text) (alarms : List AlarmState) (moves : Moves) : Type 0 where
  pub entries : moves.entries.items ≡ map (move_to time name) alarms
  pub list : moves.list ≡ list_any (moves_by time name sides.List) alarms
  pub shelf : moves.shelf ≡ list_any (moves_by time name sides.Shelf) alarms

-- ---- sides and cuts

-- whether alarms that are chosen on one side are on the other one
abbrev pub is_in : Side → Side → Bool
is_in sides.List sides.List = true
is_in sides.List sides.Shelf = false
is_in sides.Shelf sides.List = false
is_in sides.Shelf sides.Shelf = true

-- whether the alarm has more status entries than this maximum allows
abbrev pub is_cut : Option ℕ → AlarmState → Bool
is_cut None a = false
is_cut (Some most) a = nat_lt most (length a.statuses)
