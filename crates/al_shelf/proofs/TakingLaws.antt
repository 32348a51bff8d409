-- The functions say what the relations say: which shelf takes a key.
use Rattle.std.proofs.Common.{◌≡◌, ℕ, ◌+◌, ◌<◌, suc, Bool, true, false, cond, inl, inr, List, [], ◌∷◌, length, get_or, ltb, ◌≤◌, refl, sym, ap, ◌∙◌, arith}
use Rattle.std.specs.Bool.{Decides}
use Rattle.std.specs.List.{Any, list_any, position_or_len}
use Rattle.std.specs.Option.{option_and_then}
use Rattle.std.specs.Prelude.{◌==◌, Option, Some, None, chars, find, position, slice_get}
use Rattle.std.proofs.Math.Nat.{eq-or-lt_of_le}
use Rattle.std.proofs.lemmas.Bool.{eqb-true, false≢true, le-ltb, lt-ltb, ltb-false}
use Rattle.std.proofs.lemmas.Bool.Decides.{Decides-and, Decides-like, Decides-or}
use Rattle.std.proofs.lemmas.List.Folds.{Any-from_list_any, find_at, list_any-from_Any}
use Rattle.std.proofs.lemmas.List.Quantifiers.{position-Some}
use Rattle.std.proofs.lemmas.List.Sums.{fails_before_first, position_or_len_is}
use Rattle.std.proofs.lemmas.Option.{same_Some, slice_get_past, slice_get-get_or, slice_get_within}
use Rattle.al_ids.specs.Matches.{Matches}
use Rattle.al_ids.specs.Matching.{matches}
use Rattle.al_ids.specs.declared.key.AlarmKey.{AlarmKey}
use Rattle.al_ids.proofs.MatchingLaws.{decides_match}
use Rattle.al_pattern.specs.Membership.{is_in_language}
use Rattle.al_pattern.proofs.MembershipLaws.{decides_language}
use Rattle.al_types.specs.Faults.{IsSound}
use Rattle.al_types.specs.Inventories.{InventoryView, derives_from}
use Rattle.al_types.proofs.Heirs.{derives_decides}
use Rattle.al_shelf.proofs.Puts.{bare, none_within}
use Rattle.al_shelf.specs.Takes.{IsFirstShelf, IsOfType, Takes}
use Rattle.al_shelf.specs.Taking.{first_shelf, is_empty, is_of_type, takes, takes_resource, takes_type}
use Rattle.al_shelf.specs.declared.shelf.Shelf.{Shelf}
use Rattle.al_shelf.specs.declared.shelf.TypeMatch.{TypeMatch}

none_left : (n : ℕ) → (suc n == 0) ≡ true → ⊥
none_left n h = let same = eqb-true (suc n) 0 h in omega arith

decides_empty : {X : Type 0} (xs : List X) → Decides (is_empty xs) (xs ≡ [])
decides_empty [] = (λ h. refl, λ h. refl)
decides_empty (x ∷ xs) = (λ h. absurd (none_left (length xs) h), λ h. absurd (cc))

decides_any : {X : Type 0} (p : X → Bool) (P : X → Type 0) (each : (x : X) → Decides (p x) (P x)) (xs : List X) → Decides (list_any p xs) (Any P xs)
decides_any p P each xs = (
  λ h. let some = Any-from_list_any p xs h in (some.0, some.1, some.2, some.3, (each some.1).0 some.4),
  λ some. list_any-from_Any p xs (some.0, some.1, some.2, some.3, (each some.1).1 some.4),
)

decides_of_type : (i : InventoryView) → IsSound i.identities i.rows → (key : AlarmKey) (criterion : TypeMatch) → Decides (is_of_type i key criterion) (IsOfType i key criterion)
decides_of_type i sound key criterion =
    Decides-like (is_of_type i key criterion) (λ h. record { derives = h.0; qualifier = h.1 }) (λ is. (is.derives, is.qualifier))
    (Decides-and (derives_from i key.type_id criterion.type_id) (is_in_language criterion.qualifier (chars key.qualifier))
    (derives_decides i sound key.type_id criterion.type_id) (decides_language criterion.qualifier (chars key.qualifier)))

pub decides_takes : (i : InventoryView) → IsSound i.identities i.rows → (key : AlarmKey) (shelf : Shelf) → Decides (takes i key shelf) (Takes i key shelf)
unfolding takes
decides_takes i sound key shelf =
    Decides-like (takes i key shelf) (λ h. record { resource = h.0; type_id = h.1 }) (λ t. (t.resource, t.type_id))
    (Decides-and (takes_resource key.resource shelf) (takes_type i key shelf)
    (Decides-or (is_empty shelf.resources) (list_any (λ m. matches m key.resource) shelf.resources) (decides_empty shelf.resources)
    (decides_any (λ m. matches m key.resource) (λ m. Matches m key.resource) (λ m. decides_match m key.resource) shelf.resources))
    (Decides-or (is_empty shelf.types) (list_any (is_of_type i key) shelf.types) (decides_empty shelf.types)
    (decides_any (is_of_type i key) (IsOfType i key) (decides_of_type i sound key) shelf.types)))

-- ---- the first that passes

abbrev pub Fails : {X : Type 0} → (X → Bool) → List X → ℕ → Type 0
Fails {X} p xs n = (k : ℕ) (d : X) → k < n → p (get_or xs k d) ≡ false

place_found : (n len : ℕ) → n < len → Some n ≡ cond (ltb n len) (Some n) None
place_found n len lt = sym (ap (λ b. cond b (Some n) None) (lt-ltb n len lt))

pub found : {X : Type 0} (p : X → Bool) (xs : List X) (n : ℕ) (x : X) → slice_get xs n ≡ Some x → p x ≡ true → Fails p xs n
    → (Some n ≡ position p xs) × (find p xs ≡ Some x)
found p xs n x there passes before =
    let lt = slice_get_within xs n x there in
    let same : get_or xs n x ≡ x = same_Some (get_or xs n x) x (sym (slice_get-get_or xs n x lt) ∙ there) in
    let first = position_or_len_is p xs n x (omega arith) (λ k below. before k x below) (λ _. ap p same ∙ passes) in
    (place_found n (length xs) lt ∙ ap (λ m. cond (ltb m (length xs)) (Some m) None) (sym first), find_at p xs ∙ ap (slice_get xs) first ∙ there)

pub not_found : {X : Type 0} (p : X → Bool) (xs : List X) (n : ℕ) (d : X) → length xs ≤ n → Fails p xs n → (None ≡ position p xs) × (find p xs ≡ None)
not_found p xs n d all before =
    let first = position_or_len_is p xs (length xs) d (omega arith) (λ k below. before k d (omega arith)) (λ lt. absurd (omega arith)) in (
      sym (ap (λ m. cond (ltb m (length xs)) (Some m) None) first ∙ ap (λ b. cond b (Some (length xs)) None) (le-ltb (length xs) (length xs) (omega arith))),
      find_at p xs ∙ ap (slice_get xs) first ∙ slice_get_past xs (length xs) (omega arith),
    )

pub fails_more : {X : Type 0} (p : X → Bool) (xs : List X) (n : ℕ) (x : X) → slice_get xs n ≡ Some x → p x ≡ false → Fails p xs n → Fails p xs (n + 1)
fails_more p xs n x there fails before k d lt =
    let le : k ≤ n = omega arith in
    elim (eq-or-lt_of_le le) [
      | inl e ↦
          let within = slice_get_within xs n x there in
          let same : get_or xs n d ≡ x = same_Some (get_or xs n d) x (sym (slice_get-get_or xs n d within) ∙ there) in
          ap (λ m. p (get_or xs m d)) e ∙ ap p same ∙ fails
      | inr below ↦ before k d below
    ]

nowhere : {X : Type 0} (p : X → Bool) (xs : List X) → position p xs ≡ None → (k : ℕ) (d : X) → k < length xs → p (get_or xs k d) ≡ false
nowhere p xs e k d lt =
    let first = position_or_len p xs in
    let past = ltb-false first (length xs) (none_within (ltb first (length xs)) first e) in
    fails_before_first p xs k d (omega arith)

-- the place of the first shelf that takes a key is where the relation says that it is
at_place : (i : InventoryView) → IsSound i.identities i.rows → (key : AlarmKey) (shelves : List Shelf) (place : Option ℕ) → position (takes i key) shelves ≡ place
    → IsFirstShelf i key shelves place
at_place i sound key shelves None e = λ n taken.
    let lt = slice_get_within shelves n taken.0 taken.1 in
    let same : get_or shelves n bare ≡ taken.0 = same_Some (get_or shelves n bare) taken.0 (sym (slice_get-get_or shelves n bare lt) ∙ taken.1) in
    let fails = nowhere (takes i key) shelves e n bare lt in
    false≢true (sym fails ∙ ap (takes i key) same ∙ (decides_takes i sound key taken.0).1 taken.2)
at_place i sound key shelves (Some n) e =
    let at = position-Some (takes i key) shelves n bare e in (
      (get_or shelves n bare, slice_get-get_or shelves n bare at.0, (decides_takes i sound key (get_or shelves n bare)).0 at.1),
      λ k below taken.
          let same : get_or shelves k bare ≡ taken.0 = same_Some (get_or shelves k bare) taken.0 (sym (slice_get-get_or shelves k bare (omega (arith, at.0))) ∙ taken.1) in
          false≢true (sym (at.2 k below) ∙ ap (takes i key) same ∙ (decides_takes i sound key taken.0).1 taken.2),
    )

pub position_is_first : (i : InventoryView) → IsSound i.identities i.rows → (key : AlarmKey) (shelves : List Shelf) → IsFirstShelf i key shelves (position (takes i key) shelves)
position_is_first i sound key shelves = at_place i sound key shelves (position (takes i key) shelves) refl

shelf_at : {X : Type 0} (p : X → Bool) (xs : List X) (b : Bool) → b ≡ ltb (position_or_len p xs) (length xs) → find p xs ≡ option_and_then (slice_get xs) (cond b (Some (position_or_len p xs)) None)
shelf_at p xs true e = find_at p xs
shelf_at p xs false e = find_at p xs ∙ slice_get_past xs (position_or_len p xs) (ltb-false (position_or_len p xs) (length xs) (sym e))

pub shelf_is_first : (i : InventoryView) (key : AlarmKey) (shelves : List Shelf) → first_shelf i key shelves ≡ option_and_then (slice_get shelves) (position (takes i key) shelves)
shelf_is_first i key shelves = shelf_at (takes i key) shelves (ltb (position_or_len (takes i key) shelves) (length shelves)) refl
