-- Where shelves stand, and what putting one and removing one makes of the list.
use Rattle.std.specs.Prelude.{◌≡◌, ◌≢◌, ℕ, ◌≤◌, Bool, not, ◌==◌, List, Option, None, Some, length, filter, find, position, unwrap_or, suc}
use Rattle.std.specs.Cmp.Lexicographic.{pointwise}
use Rattle.std.specs.List.{AllPairs, insert}
use Rattle.std.specs.Option.{option_map}
use Rattle.al_base.specs.Limits.{most_shelves}
use Rattle.al_shelf.specs.declared.shelf.Shelf.{Shelf}
use Rattle.al_shelf.specs.declared.spot.Placed.{Placed}
use Rattle.al_shelf.specs.declared.spot.Placed.TheVariants.{Made, Replaced}
use Rattle.al_shelf.specs.declared.spot.Spot.{Spot}
use Rattle.al_shelf.specs.declared.spot.Spot.TheVariants.{First, Last, Before, After, Keep}

-- the shelves in their order, and for how many more memory is at hand
pub record ShelvesView : Type 0 where
  pub shelves : List Shelf
  pub spare : ℕ

-- At most 64 shelves, each of another name.
pub record AreShelves (shelves : List Shelf) : Type 0 where
  pub few : length shelves ≤ most_shelves
  pub names : AllPairs (λ a b. a.name ≢ b.name) shelves

abbrev pub is_named : List ℕ → Shelf → Bool
is_named name shelf = pointwise ◌==◌ shelf.name name

-- where the shelf of this name stands
abbrev pub place_of : List ℕ → List Shelf → Option ℕ
place_of name shelves = position (is_named name) shelves

-- the shelf of this name
abbrev pub shelf_of : List ℕ → List Shelf → Option Shelf
shelf_of name shelves = find (is_named name) shelves

-- the shelves of other names
abbrev pub without : List ℕ → List Shelf → List Shelf
without name shelves = filter (λ shelf. not (is_named name shelf)) shelves

-- The position that a shelf of this name gets, among the shelves of other names; none where its point isn't one of these.
abbrev pub place_for : Spot → List ℕ → List Shelf → Option ℕ
place_for First name shelves = Some 0
place_for Last name shelves = Some (length (without name shelves))
place_for (Before point) name shelves = place_of point (without name shelves)
place_for (After point) name shelves = option_map suc (place_of point (without name shelves))
place_for Keep name shelves = Some (unwrap_or (place_of name shelves) (length (without name shelves)))

-- replaced where there was a shelf of the name, else made
abbrev pub placed : Option ℕ → ℕ → Placed
placed None place = Made place
placed (Some before) place = Replaced place

-- The shelf is put at its spot, the others staying in their order.
pub record IsPut (before : List Shelf) (shelf : Shelf) (spot : Spot) (answer : Placed) (after : List Shelf) : Type 0 where
  pub place : ℕ
  pub spotted : place_for spot shelf.name before ≡ Some place
  pub answered : answer ≡ placed (place_of shelf.name before) place
  pub list : after ≡ insert (without shelf.name before) place shelf
