-- Moves of all alarms are what is prepared for an event of shelves or of the inventory.
use Rattle.std.proofs.Common.{◌≡◌, ℕ, zero, suc, ◌+◌, Bool, true, false, ◌&&◌, ◌||◌, List, [], ◌∷◌, ◌++◌, map, Option, None, Some, refl, ap, sym, ◌∙◌, take, arith}
use Rattle.std.specs.List.{AllByRecursion, cons_option, filter_map, list_any, slice_get}
use Rattle.std.specs.Option.{is_some, option_to_list}
use Rattle.al_base.specs.declared.text.Text.{Text}
use Rattle.al_ids.specs.declared.key.AlarmKey.{AlarmKey}
use Rattle.al_model.specs.Alarms.{move_entry, with_newcomer, with_operator}
use Rattle.al_model.specs.Events.{after_event, fate, moves, newcomer, set_by, touches}
use Rattle.al_model.specs.State.{AlarmState, State, is_on, shelf_name}
use Rattle.al_model.specs.Step.{moved, touches_side}
use Rattle.al_model.specs.Validity.{IsMarked}
use Rattle.al_model.specs.declared.event.Event.{Event}
use Rattle.al_model.specs.declared.event.Side.{Side}
use Rattle.al_model.specs.declared.event.Side.TheVariants as sides
use Rattle.al_model.proofs.Sameness.{alarms_after}
use Rattle.al_contents.specs.Edits.{after_moves}
use Rattle.al_lists.specs.Moves.{AddsMove, AreMoves, is_side, move_to, moves_by}
use Rattle.al_contents.specs.Views.{AlarmView, mark_of, states}
use Rattle.al_lists.specs.declared.prepare.moves.Moves.{Moves}
use Rattle.al_lists.proofs.Placing.{or_false}
use Rattle.al_contents.proofs.Sides.{mark_is}

-- the moves are by the marks
moves_are : (s after : State) (time : ℕ) (alarms : List AlarmState) → AllByRecursion (IsMarked s) alarms → map (moved s after time) alarms ≡ after_moves (map (move_to time (shelf_name after)) alarms) alarms
moves_are s after time [] h = refl
moves_are s after time (a ∷ rest) h =
    ap (λ name. with_operator (move_entry time name (shelf_name after a.key)) a ∷ map (moved s after time) rest) (sym (mark_is s a h.0))
    ∙ ap (λ ys. with_operator (move_to time (shelf_name after) a) a ∷ ys) (moves_are s after time rest h.1)

-- the names of the first shelves after an event
abbrev pub names_after : State → Event → AlarmKey → Option Text
names_after s event key = shelf_name (set_by s event) key

pub put_alarms : (s : State) (time : ℕ) (event : Event) → newcomer s time event ≡ None → ((a : AlarmState) → fate s time event a ≡ Some a) → AllByRecursion (IsMarked s) s.alarms → alarms_after s time event ≡ after_moves (map (move_to time (names_after s event)) s.alarms) s.alarms
put_alarms s time event none stay marked =
    ap (λ o. map (moved s (after_event s time event) time) (with_newcomer o (filter_map (fate s time event) s.alarms))) none
    ∙ ap (map (moved s (after_event s time event) time)) (all_stay s.alarms)
    ∙ moves_are s (after_event s time event) time s.alarms marked
  where
    all_stay : (xs : List AlarmState) → filter_map (fate s time event) xs ≡ xs
    all_stay [] = refl
    all_stay (x ∷ xs) = ap (λ o. cons_option o (filter_map (fate s time event) xs)) (stay x) ∙ ap (λ ys. x ∷ ys) (all_stay xs)

-- ---- both sides

pub on_is_side : (s : State) (side : Side) (key : AlarmKey) → is_on s side key ≡ is_side side (shelf_name s key)
on_is_side s sides.List key = refl
on_is_side s sides.Shelf key = refl

-- whether an alarm moves on a side is told by its mark
moves_like : (s after : State) (time : ℕ) (side : Side) (a : AlarmState) → IsMarked s a → (moves s after time a && (is_on s side a.key || is_on after side a.key)) ≡ moves_by time (shelf_name after) side a
moves_like s after time side a marked =
    let mark = mark_is s a marked in
    ap (λ b. moves s after time a && (b || is_on after side a.key)) (on_is_side s side a.key)
    ∙ ap (λ b. moves s after time a && (is_side side (shelf_name s a.key) || b)) (on_is_side after side a.key)
    ∙ ap (λ name. is_some (move_entry time name (shelf_name after a.key)) && (is_side side name || is_side side (shelf_name after a.key))) (sym mark)

any_moves : (s after : State) (time : ℕ) (side : Side) (alarms : List AlarmState) → AllByRecursion (IsMarked s) alarms → list_any (λ a. moves s after time a && (is_on s side a.key || is_on after side a.key)) alarms ≡ list_any (moves_by time (shelf_name after) side) alarms
any_moves s after time side [] h = refl
any_moves s after time side (a ∷ rest) h =
    ap (λ b. b || list_any (λ x. moves s after time x && (is_on s side x.key || is_on after side x.key)) rest) (moves_like s after time side a h.0)
    ∙ ap (λ b. moves_by time (shelf_name after) side a || b) (any_moves s after time side rest h.1)

pub any_like : {X : Type 0} (p q : X → Bool) → ((x : X) → p x ≡ q x) → (xs : List X) → list_any p xs ≡ list_any q xs
any_like p q same [] = refl
any_like p q same (x ∷ xs) = ap (λ b. b || list_any p xs) (same x) ∙ ap (λ b. q x || b) (any_like p q same xs)

pub put_side : (s : State) (time : ℕ) (event : Event) (side : Side) → newcomer s time event ≡ None → ((a : AlarmState) → touches s time event a ≡ moves s (set_by s event) time a) → AllByRecursion (IsMarked s) s.alarms → touches_side s time event side ≡ list_any (moves_by time (names_after s event) side) s.alarms
put_side s time event side none touch marked =
    ap (λ o. list_any (λ a. touches s time event a && (is_on s side a.key || is_on (set_by s event) side a.key)) s.alarms || list_any (λ a. is_on s side a.key) (option_to_list o)) none
    ∙ or_false (list_any (λ a. touches s time event a && (is_on s side a.key || is_on (set_by s event) side a.key)) s.alarms)
    ∙ any_like (λ a. touches s time event a && (is_on s side a.key || is_on (set_by s event) side a.key)) (λ a. moves s (set_by s event) time a && (is_on s side a.key || is_on (set_by s event) side a.key))
    (λ a. ap (λ b. b && (is_on s side a.key || is_on (set_by s event) side a.key)) (touch a)) s.alarms
    ∙ any_moves s (set_by s event) time side s.alarms marked

-- ---- one more alarm

list_any_append : {X : Type 0} (p : X → Bool) (xs : List X) (x : X) → list_any p (xs ++ x ∷ []) ≡ (list_any p xs || p x)
list_any_append p [] x = or_false (p x)
list_any_append {X} p (y ∷ ys) x = by (p y) (list_any_append p ys x)
  where
    by : (b : Bool) → list_any p (ys ++ x ∷ []) ≡ (list_any p ys || p x) → (b || list_any p (ys ++ x ∷ [])) ≡ ((b || list_any p ys) || p x)
    by true same = refl
    by false same = same

map_append : {X Y : Type 0} (f : X → Y) (xs : List X) (x : X) → map f (xs ++ x ∷ []) ≡ map f xs ++ f x ∷ []
map_append f [] x = refl
map_append f (y ∷ ys) x = ap (λ zs. f y ∷ zs) (map_append f ys x)

pub moves_more : (time : ℕ) (name : AlarmKey → Option Text) (alarms : List AlarmState) (a : AlarmState) (before after : Moves) → AreMoves time name alarms before → AddsMove time (mark_of a.operators) (name a.key) before after → AreMoves time name (alarms ++ a ∷ []) after
moves_more time name alarms a before after h adds =
    record {
      entries = adds.entries ∙ ap (λ xs. xs ++ move_to time name a ∷ []) h.entries ∙ sym (map_append (move_to time name) alarms a);
      list = adds.list ∙ ap (λ b. b || moves_by time name sides.List a) h.list ∙ sym (list_any_append (moves_by time name sides.List) alarms a);
      shelf = adds.shelf ∙ ap (λ b. b || moves_by time name sides.Shelf a) h.shelf ∙ sym (list_any_append (moves_by time name sides.Shelf) alarms a);
    }

take_suc : (views : List AlarmView) (i : ℕ) (v : AlarmView) → slice_get views i ≡ Some v → take (suc i) (states views) ≡ take i (states views) ++ v.state ∷ []
take_suc [] i v is = absurd (cc)
take_suc (x ∷ xs) zero v is = let first : x ≡ v = cc in ap (λ (w : AlarmView). w.state ∷ []) first
take_suc (x ∷ xs) (suc i) v is = ap (λ ys. x.state ∷ ys) (take_suc xs i v is)

pub take_more : (views : List AlarmView) (i : ℕ) (v : AlarmView) → slice_get views i ≡ Some v → take (i + 1) (states views) ≡ take i (states views) ++ v.state ∷ []
take_more views i v is = let e : i + 1 ≡ suc i = omega arith in ap (λ n. take n (states views)) e ∙ take_suc views i v is
