-- Where the alarms of each side stand among all.
use Rattle.std.specs.Prelude.{◌≡◌, ℕ, suc, ◌<◌, ◌≤◌, Bool, cond, List, [], ◌∷◌, ◌++◌, map}
use Rattle.std.specs.List.{AllByRecursion}
use Rattle.al_contents.specs.Views.{AlarmView, is_marked, is_unmarked, states}

-- the places of those that pass the test
abbrev pub places_of : {X : Type 0} → (X → Bool) → List X → List ℕ
places_of p [] = []
places_of p (x ∷ xs) = cond (p x) (0 ∷ map suc (places_of p xs)) (map suc (places_of p xs))

-- The first list has the places of the alarms of the list, and the second of those on shelves.
pub record AreSides (views : List AlarmView) (list shelf : List ℕ) : Type 0 where
  pub listed : list ≡ places_of is_unmarked (states views)
  pub shelved : shelf ≡ places_of is_marked (states views)

-- The places are those before the one, and then those from it on.
pub record AreParted (place : ℕ) (places before after : List ℕ) : Type 0 where
  pub all : places ≡ before ++ after
  pub below : AllByRecursion (λ i. i < place) before
  pub above : AllByRecursion (λ i. place ≤ i) after
