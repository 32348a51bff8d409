-- What putting a shelf and leaving one out makes of a list of shelves.
use Rattle.std.proofs.Common.{◌≡◌, ◌≢◌, ℕ, ◌+◌, ◌<◌, ◌≤◌, Bool, true, false, not, cond, ltb, inl, inr, List, [], length, get_or, refl, sym, ◌∙◌, ap, arith}
use Rattle.std.proofs.lemmas.Bool.{false≢true, ltb-false, not-true}
use Rattle.std.proofs.lemmas.List.Edits.{length-insert, length-remove}
use Rattle.std.proofs.lemmas.List.Elements.{filter_passes}
use Rattle.std.proofs.lemmas.List.Filters.{length-filter_both}
use Rattle.std.proofs.lemmas.List.Folds.{find_at}
use Rattle.std.proofs.lemmas.List.Kept.{AllPairs-filter}
use Rattle.std.proofs.lemmas.List.Quantifiers.{position-Some}
use Rattle.std.proofs.lemmas.List.Sums.{fails_before_first, position_or_len_is}
use Rattle.std.proofs.lemmas.Option.{none-some, same_Some, slice_get_past, slice_get-get_or}
use Rattle.std.specs.List.{All, insert, remove, position_or_len}
use Rattle.std.specs.Option.{option_map}
use Rattle.std.specs.Prelude.{◌⊎◌, IsSome, Option, None, Some, unwrap_or, slice_get, suc}
use lib.Pointwise.{bytes_decides}
use Rattle.al_base.specs.Limits.{most_shelves}
use Rattle.al_shelf.specs.Places.{AreShelves, is_named, place_of, shelf_of, without, place_for}
use Rattle.al_shelf.specs.declared.shelf.Shelf.{Shelf}
use Rattle.al_shelf.specs.declared.spot.Spot.{Spot}
use Rattle.al_shelf.specs.declared.spot.Spot.TheVariants.{First, Last, Before, After, Keep}
use Rattle.al_shelf.proofs.Once.{PassesOnce, all_others, fewer_others, one_left_out, pairs_inserted}

-- some shelf
pub bare : Shelf
bare = record { name = []; resources = []; types = []; description = None }

same_name : (name : List ℕ) (shelf : Shelf) → is_named name shelf ≡ true → shelf.name ≡ name
same_name name shelf = (bytes_decides shelf.name name).0

other_name : (name : List ℕ) (shelf : Shelf) → is_named name shelf ≡ false → shelf.name ≢ name
other_name name shelf differs same = false≢true (sym differs ∙ (bytes_decides shelf.name name).1 same)

named_once : (name : List ℕ) (shelves : List Shelf) → AreShelves shelves → PassesOnce (is_named name) shelves
named_once name shelves sound i j d below within first second =
    sound.names i j d below within (same_name name (get_or shelves i d) first ∙ sym (same_name name (get_or shelves j d) second))

-- where none stands
pub none_within : {A : Type 0} (b : Bool) (x : A) → cond b (Some x) None ≡ None → b ≡ false
none_within true x e = absurd (cc)
none_within false x e = refl

none_named : (name : List ℕ) (shelves : List Shelf) → place_of name shelves ≡ None → All (λ shelf. is_named name shelf ≡ false) shelves
none_named name shelves none k d lt =
    let first = position_or_len (is_named name) shelves in
    let past = ltb-false first (length shelves) (none_within (ltb first (length shelves)) first none) in
    fails_before_first (is_named name) shelves k d (omega arith)

pub without_none : (name : List ℕ) (shelves : List Shelf) → place_of name shelves ≡ None → without name shelves ≡ shelves
without_none name shelves none = all_others (is_named name) shelves (none_named name shelves none)

-- where one stands
pub without_one : (name : List ℕ) (shelves : List Shelf) (place : ℕ) → AreShelves shelves → place_of name shelves ≡ Some place
    → without name shelves ≡ remove shelves place
without_one name shelves place sound found =
    let at = position-Some (is_named name) shelves place bare found in
    one_left_out (is_named name) shelves place bare (named_once name shelves sound) at.0 at.1

pub count_of_others : (name : List ℕ) (shelves : List Shelf) (place : ℕ) → AreShelves shelves → place_of name shelves ≡ Some place
    → length (without name shelves) + 1 ≡ length shelves
count_of_others name shelves place sound found =
    let at = position-Some (is_named name) shelves place bare found in
    ap (λ l. length l + 1) (without_one name shelves place sound found) ∙ length-remove shelves place at.0

pub shelf_of_one : (name : List ℕ) (shelves : List Shelf) (place : ℕ) (d : Shelf) → place_of name shelves ≡ Some place → shelf_of name shelves ≡ Some (get_or shelves place d)
shelf_of_one name shelves place d found =
    let at = position-Some (is_named name) shelves place d found in
    let first = position_or_len_is (is_named name) shelves place d (omega (arith, at.0)) at.2 (λ lt. at.1) in
    find_at (is_named name) shelves ∙ ap (slice_get shelves) first ∙ slice_get-get_or shelves place d at.0

pub shelf_of_none : (name : List ℕ) (shelves : List Shelf) → place_of name shelves ≡ None → shelf_of name shelves ≡ None
shelf_of_none name shelves none =
    let first = position_or_len (is_named name) shelves in
    let past = ltb-false first (length shelves) (none_within (ltb first (length shelves)) first none) in
    find_at (is_named name) shelves ∙ slice_get_past shelves first past

others_differ : (name : List ℕ) (shelves : List Shelf) → All (λ shelf. shelf.name ≢ name) (without name shelves)
others_differ name shelves k d lt =
    other_name name (get_or (without name shelves) k d) (not-true _ (filter_passes (λ shelf. not (is_named name shelf)) shelves k d lt))

-- the names of the others and that of the shelf are distinct
pub inserted_sound : (shelf : Shelf) (shelves others : List Shelf) (place : ℕ) → others ≡ without shelf.name shelves → AreShelves others → place ≤ length others
    → length others < most_shelves → AreShelves (insert others place shelf)
inserted_sound shelf shelves others place same sound within room =
    let differ : All (λ s. s.name ≢ shelf.name) others = rw same (others_differ shelf.name shelves) in
    record {
      few = omega (arith, length-insert others place shelf within);
      names = pairs_inserted (λ a b. a.name ≢ b.name) (λ a b differ same. differ (sym same)) others place shelf within sound.names differ;
    }

pub others_sound : (name : List ℕ) (shelves : List Shelf) → AreShelves shelves → AreShelves (without name shelves)
others_sound name shelves sound =
    let fewer = length-filter_both (is_named name) (λ s. not (is_named name s)) (λ s. refl) shelves in
    let few = sound.few in
    record { few = omega arith; names = AllPairs-filter (λ a b. a.name ≢ b.name) (λ s. not (is_named name s)) shelves sound.names }

pub put_sound : (shelf : Shelf) (shelves : List Shelf) (place : ℕ) → AreShelves shelves → place ≤ length (without shelf.name shelves)
    → length (without shelf.name shelves) < most_shelves → AreShelves (insert (without shelf.name shelves) place shelf)
put_sound shelf shelves place sound within room =
    inserted_sound shelf shelves (without shelf.name shelves) place refl (others_sound shelf.name shelves sound) within room

found_within : (name : List ℕ) (shelves : List Shelf) (place : ℕ) → place_of name shelves ≡ Some place → place < length shelves
found_within name shelves place found = (position-Some (is_named name) shelves place bare found).0

pub none_named_so : (name : List ℕ) (shelves : List Shelf) → place_of name shelves ≡ None → All (λ shelf. shelf.name ≢ name) shelves
none_named_so name shelves none k d lt = other_name name (get_or shelves k d) (none_named name shelves none k d lt)

pub one_named_so : (name : List ℕ) (shelves : List Shelf) (place : ℕ) → place_of name shelves ≡ Some place → ¬ (All (λ shelf. shelf.name ≢ name) shelves)
one_named_so name shelves place found none =
    let at = position-Some (is_named name) shelves place bare found in
    none place bare at.0 (same_name name (get_or shelves place bare) at.1)

-- the place that is kept
kept : (name : List ℕ) (shelves : List Shelf) (found : Option ℕ) → AreShelves shelves → place_of name shelves ≡ found
    → unwrap_or found (length (without name shelves)) ≤ length (without name shelves)
kept name shelves None sound e = omega arith
kept name shelves (Some place) sound e =
    let left = count_of_others name shelves place sound e in
    let lt = found_within name shelves place e in
    omega arith

pub kept_within : (name : List ℕ) (shelves : List Shelf) → AreShelves shelves
    → unwrap_or (place_of name shelves) (length (without name shelves)) ≤ length (without name shelves)
kept_within name shelves sound = kept name shelves (place_of name shelves) sound refl

after_within : (point : List ℕ) (others : List Shelf) (found : Option ℕ) (place : ℕ) → place_of point others ≡ found → option_map suc found ≡ Some place → place ≤ length others
after_within point others None place e at = absurd (none-some place at)
after_within point others (Some before) place e at =
    let same = same_Some (suc before) place at in
    let lt = found_within point others before e in
    omega arith

-- the place of a spot is one among the others, or right behind them
pub spot_within : (spot : Spot) (name : List ℕ) (shelves : List Shelf) (place : ℕ) → AreShelves shelves → place_for spot name shelves ≡ Some place
    → place ≤ length (without name shelves)
spot_within First name shelves place sound e = let same = same_Some 0 place e in omega arith
spot_within Last name shelves place sound e = let same = same_Some (length (without name shelves)) place e in omega arith
spot_within (Before point) name shelves place sound e = let lt = found_within point (without name shelves) place e in omega arith
spot_within (After point) name shelves place sound e = after_within point (without name shelves) (place_of point (without name shelves)) place refl e
spot_within Keep name shelves place sound e =
    let same = same_Some (unwrap_or (place_of name shelves) (length (without name shelves))) place e in
    let le = kept_within name shelves sound in
    omega arith

-- where a shelf of the name stands, there are fewer others
fewer_named : (name : List ℕ) (shelves : List Shelf) (found : Option ℕ) → place_of name shelves ≡ found → IsSome found → length (without name shelves) + 1 ≤ length shelves
fewer_named name shelves None e some = absurd (false≢true some)
fewer_named name shelves (Some place) e some =
    let at = position-Some (is_named name) shelves place bare e in
    fewer_others (is_named name) shelves place bare at.0 at.1

-- the room that is left where the shelf of a name goes
pub room_left : (name : List ℕ) (shelves : List Shelf) (spare left : ℕ) → (0 < spare) ⊎ IsSome (place_of name shelves)
    → left + length (without name shelves) ≡ spare + length shelves → 0 < left
room_left name shelves spare left (inl some) e =
    let fewer = length-filter_both (is_named name) (λ s. not (is_named name s)) (λ s. refl) shelves in
    omega arith
room_left name shelves spare left (inr named) e =
    let fewer = fewer_named name shelves (place_of name shelves) refl named in
    omega arith
