-- Where a shelf that is put, or one that is taken away, leaves the shelves as they are, and how many there are then.
use Rattle.std.proofs.Common.{◌≡◌, ℕ, zero, suc, ◌+◌, ◌≤◌, ◌||◌, Bool, true, false, Option, None, Some, List, [], ◌∷◌, length, get_or, refl, sym, ap, ◌∙◌, arith}
use Rattle.std.specs.Bool.{Decides, nat_le, nat_lt}
use Rattle.std.specs.List.{insert, remove, slice_get}
use Rattle.std.specs.Option.{is_none, is_some, option_to_list}
use Rattle.std.proofs.lemmas.Bool.Decides.{nat_tests}
use Rattle.std.proofs.lemmas.List.Edits.{length-insert}
use Rattle.std.proofs.lemmas.Option.{get_or_from_slice_get, slice_get_within}
use Rattle.al_base.specs.Limits.{most_shelves}
use Rattle.al_base.specs.declared.text.Text.{Text}
use Rattle.al_shelf.specs.Places.{AreShelves, is_named, place_of, without}
use Rattle.al_shelf.specs.declared.shelf.Shelf.{Shelf}
use Rattle.al_shelf.proofs.Once.{PassesOnce, one_left_out}
use Rattle.al_shelf.proofs.Puts.{count_of_others, without_none}
use Rattle.al_model.specs.Sames.{same_shelves}
use Rattle.al_model.proofs.Moves.{same_is, same_itself}
use Rattle.al_model.proofs.Sames.{decides_shelves}

-- two tests of facts that follow from one another
pub same_tests : {P Q : Type 0} (a b : Bool) → Decides a P → Decides b Q → (P → Q) → (Q → P) → a ≡ b
same_tests true true d e there back = refl
same_tests true false d e there back = let so : false ≡ true = e.1 (there (d.0 refl)) in absurd (cc)
same_tests false true d e there back = let so : false ≡ true = d.1 (back (e.0 refl)) in absurd (cc)
same_tests false false d e there back = refl

-- ---- puts

-- an item that is taken out and put in again
put_back : {X : Type 0} (xs : List X) (i : ℕ) (x : X) → slice_get xs i ≡ Some x → insert (remove xs i) i x ≡ xs
put_back [] i x is = absurd (cc)
put_back (y ∷ ys) zero x is = let same : y ≡ x = cc in ap (λ z. z ∷ ys) (sym same)
put_back (y ∷ ys) (suc i) x is = ap (λ zs. y ∷ zs) (put_back ys i x is)

stands_there : {X : Type 0} (xs : List X) (i : ℕ) (x : X) → i ≤ length xs → slice_get (insert xs i x) i ≡ Some x
stands_there xs zero x le = refl
stands_there [] (suc i) x le = absurd (omega arith)
stands_there (y ∷ ys) (suc i) x le = stands_there ys i x (omega arith)

named_once : (name : Text) (shelves : List Shelf) → AreShelves shelves → PassesOnce (is_named name) shelves
named_once name shelves sound i j d below within first second =
    sound.names i j d below within (same_is (get_or shelves i d).name name first ∙ sym (same_is (get_or shelves j d).name name second))

kept_by_put : (shelf : Shelf) (shelves : List Shelf) (at : ℕ) → AreShelves shelves → slice_get shelves at ≡ Some shelf → shelves ≡ insert (without shelf.name shelves) at shelf
kept_by_put shelf shelves at sound is =
    let within = slice_get_within shelves at shelf is in
    let there : get_or shelves at shelf ≡ shelf = get_or_from_slice_get shelves at shelf shelf is in
    let named : is_named shelf.name (get_or shelves at shelf) ≡ true = ap (is_named shelf.name) there ∙ same_itself shelf.name in
    let others : without shelf.name shelves ≡ remove shelves at = one_left_out (is_named shelf.name) shelves at shelf (named_once shelf.name shelves sound) within named in
    sym (ap (λ l. insert l at shelf) others ∙ put_back shelves at shelf is)

-- A shelf that is put leaves the shelves exactly where it stands at its position already.
pub put_same : (shelf : Shelf) (shelves : List Shelf) (at : ℕ) (there : Bool) → AreShelves shelves → at ≤ length (without shelf.name shelves) → Decides there (slice_get shelves at ≡ Some shelf) → same_shelves shelves (insert (without shelf.name shelves) at shelf) ≡ there
put_same shelf shelves at there sound within d =
    let after = insert (without shelf.name shelves) at shelf in
    same_tests (same_shelves shelves after) there (decides_shelves shelves after) d
    (λ same. ap (λ l. slice_get l at) same ∙ stands_there (without shelf.name shelves) at shelf within) (kept_by_put shelf shelves at sound)

-- There is room for it where a shelf of its name goes, or fewer than 64 stand.
pub put_fits : (shelf : Shelf) (shelves : List Shelf) (at : ℕ) → AreShelves shelves → at ≤ length (without shelf.name shelves) → (is_some (place_of shelf.name shelves) || nat_lt (length shelves) most_shelves) ≡ nat_le (length (insert (without shelf.name shelves) at shelf)) most_shelves
put_fits shelf shelves at sound within = by (place_of shelf.name shelves) refl
  where
    by : (place : Option ℕ) → place_of shelf.name shelves ≡ place → (is_some place || nat_lt (length shelves) most_shelves) ≡ nat_le (length (insert (without shelf.name shelves) at shelf)) most_shelves
    by None is =
        let same = ap length (without_none shelf.name shelves is) in
        let more = length-insert (without shelf.name shelves) at shelf within in
        grind (arith, nat_tests)
    by (Some place) is =
        let fewer = count_of_others shelf.name shelves place sound is in
        let more = length-insert (without shelf.name shelves) at shelf within in
        let few = sound.few in
        grind (arith, nat_tests)

-- how many others there are
pub others_count : (name : Text) (shelves : List Shelf) (place : Option ℕ) → AreShelves shelves → place_of name shelves ≡ place → length (without name shelves) + length (option_to_list place) ≡ length shelves
others_count name shelves None sound is = let same = ap length (without_none name shelves is) in omega arith
others_count name shelves (Some place) sound is = let fewer = count_of_others name shelves place sound is in omega arith

-- ---- drops

-- A name that is dropped leaves the shelves exactly where none has it.
pub drop_same : (name : Text) (shelves : List Shelf) → AreShelves shelves → same_shelves shelves (without name shelves) ≡ is_none (place_of name shelves)
drop_same name shelves sound = by (place_of name shelves) refl
  where
    not_same : (b : Bool) → Decides b (shelves ≡ without name shelves) → length (without name shelves) + 1 ≡ length shelves → b ≡ false
    not_same true d fewer = let same = ap length (d.0 refl) in absurd (omega arith)
    not_same false d fewer = refl

    by : (place : Option ℕ) → place_of name shelves ≡ place → same_shelves shelves (without name shelves) ≡ is_none place
    by None is = (decides_shelves shelves (without name shelves)).1 (sym (without_none name shelves is))
    by (Some place) is = not_same (same_shelves shelves (without name shelves)) (decides_shelves shelves (without name shelves)) (count_of_others name shelves place sound is)
