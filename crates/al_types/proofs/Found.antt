-- What a search through a list has found as far as it has come.
use Rattle.std.proofs.Common.{◌≡◌, ℕ, ◌+◌, ◌<◌, ◌≤◌, ◌⊎◌, List, [], ◌∷◌, ◌++◌, zero, suc, length, refl, sym, ◌∙◌, ap, inl, inr, arith, subst}
use Rattle.std.proofs.Math.Nat.{eq-or-lt_of_le}
use Rattle.std.proofs.lemmas.Bool.{cases_order}
use Rattle.std.proofs.lemmas.List.{length_push}
use Rattle.std.proofs.lemmas.Option.{slice_get_within, slice_get-get_or}
use Rattle.std.specs.Prelude.{Option, None, Some, slice_get}
use Rattle.al_types.specs.Inventories.{InventoryView, IsRowOf, IsOnlyRow}
use Rattle.al_types.specs.Known.{IsNamed, IsKnownBefore, IsDuplicateIdentity, IsUnknownBase, IsDuplicateRow}
use Rattle.al_types.specs.Places.{StandsAt, IsBefore, HasBases}
use Rattle.al_types.specs.declared.place.Place.{Place}
use Rattle.al_types.specs.declared.place.Place.TheVariants.{Root, Declared}
use Rattle.al_types.specs.declared.row.Identity.{Identity}
use Rattle.al_types.specs.declared.row.Row.{Row}

-- what holds of none before a place, nor there, holds of none before the next
pub none_to : (P : ℕ → Type 0) (n : ℕ) → ((k : ℕ) → k < n → ¬ (P k)) → ¬ (P n) → (k : ℕ) → k < n + 1 → ¬ (P k)
none_to P n before here k lt =
    let le : k ≤ n = omega arith in
    elim (eq-or-lt_of_le le) [ inl e ↦ λ p. here (subst P e p) | inr below ↦ before k below ]

-- the name and the base of what was found
abbrev pub name_in : Option Identity → List ℕ
name_in None = []
name_in (Some identity) = identity.name

abbrev pub base_in : Option Identity → List ℕ
base_in None = []
base_in (Some identity) = identity.base

pub named_here : (identities : List Identity) (n : ℕ) (identity : Identity) (name : List ℕ) → slice_get identities n ≡ Some identity → identity.name ≡ name → IsNamed identities n name
named_here identities n identity name at e =
    let P : List ℕ → Type 0 = λ text. slice_get identities n ≡ Some (record { name = text; base = identity.base }) in
    (identity.base, subst P e at)

pub name_there : (identities : List Identity) (n : ℕ) (identity : Identity) (name : List ℕ) → slice_get identities n ≡ Some identity → IsNamed identities n name → identity.name ≡ name
name_there identities n identity name at named = ap name_in (sym at ∙ named.1)

-- a type at a place before is known before
pub known_from : (identities : List Identity) (n : ℕ) (place : Place) (type_id : List ℕ) → IsBefore place n → StandsAt identities place type_id → IsKnownBefore identities n type_id
known_from identities n Root type_id before at = inl at
known_from identities n (Declared place) type_id before at = inr (place, before, at)

pub same_identity : (identities : List Identity) (n : ℕ) (a b : Identity) → slice_get identities n ≡ Some a → slice_get identities n ≡ Some b → a ≡ b
same_identity identities n a b at there = cc

pub not_duplicate : (identities : List Identity) (n : ℕ) (identity : Identity) → slice_get identities n ≡ Some identity → ¬ (IsKnownBefore identities n identity.name) → ¬ (IsDuplicateIdentity identities n)
not_duplicate identities n identity at unknown d =
    let P : Identity → Type 0 = λ i. IsKnownBefore identities n i.name in
    unknown (subst P (same_identity identities n d.identity identity d.stands at) d.known)

pub none_duplicate : (identities : List Identity) → ((k : ℕ) → k < length identities → ¬ (IsDuplicateIdentity identities k)) → (k : ℕ) → ¬ (IsDuplicateIdentity identities k)
none_duplicate identities below k d = below k (slice_get_within identities k d.identity d.stands) d

pub none_repeated : (rows : List Row) → ((k : ℕ) → k < length rows → ¬ (IsDuplicateRow rows k)) → (k : ℕ) → ¬ (IsDuplicateRow rows k)
none_repeated rows below k d = below k (slice_get_within rows k d.row d.second) d

-- none of the first rows repeats it
abbrev pub NoneBefore : List Row → ℕ → ℕ → Type 0
NoneBefore rows n earlier =
    (k : ℕ) (a b : Row) → k < earlier → slice_get rows k ≡ Some a → slice_get rows n ≡ Some b → a.type_id ≡ b.type_id → ¬ (a.qualifier ≡ b.qualifier)

pub repeats_none : (rows : List Row) (n : ℕ) → NoneBefore rows n n → ¬ (IsDuplicateRow rows n)
repeats_none rows n none d = none d.earlier d.repeated d.row d.before d.first d.second d.same_type d.same_qualifier

pub none_before_next : (rows : List Row) (n earlier : ℕ) (a b : Row) → NoneBefore rows n earlier → slice_get rows earlier ≡ Some a → slice_get rows n ≡ Some b
    → (a.type_id ≡ b.type_id → ¬ (a.qualifier ≡ b.qualifier)) → NoneBefore rows n (earlier + 1)
none_before_next rows n earlier a b before first second differ k x y lt at there same_type same_qualifier =
    let le : k ≤ earlier = omega arith in
    elim (eq-or-lt_of_le le) [
      | inl e ↦
          let f : Some x ≡ Some a = sym at ∙ ap (slice_get rows) e ∙ first in
          let p : x ≡ a = cc in
          let q : y ≡ b = cc in
          let type_ids : a.type_id ≡ b.type_id = sym (ap (λ (row : Row). row.type_id) p) ∙ same_type ∙ ap (λ (row : Row). row.type_id) q in
          let qualifiers : a.qualifier ≡ b.qualifier = sym (ap (λ (row : Row). row.qualifier) p) ∙ same_qualifier ∙ ap (λ (row : Row). row.qualifier) q in
          differ type_ids qualifiers
      | inr below ↦ before k x y below at there same_type same_qualifier
    ]

-- rows of one type and qualifier are one row
pub one_row : (rows : List Row) (j k : ℕ) (a b : Row) → ((n : ℕ) → ¬ (IsDuplicateRow rows n)) → slice_get rows j ≡ Some a → slice_get rows k ≡ Some b
    → a.type_id ≡ b.type_id → a.qualifier ≡ b.qualifier → a ≡ b
one_row rows j k a b none at there same_type same_qualifier =
    elim (cases_order j k) [
      | inl e ↦ (let f : Some a ≡ Some b = sym at ∙ ap (slice_get rows) e ∙ there in cc)
      | inr other ↦ elim other [
        | inl lt ↦ absurd (none k (record { earlier = j; before = lt; repeated = a; row = b; first = at; second = there; same_type = same_type; same_qualifier = same_qualifier }))
        | inr gt ↦ absurd (none j (record { earlier = k; before = gt; repeated = b; row = a; first = there; second = at; same_type = sym same_type; same_qualifier = sym same_qualifier }))
      ]
    ]

-- where the place of each base is known, no base is unknown
pub known_below : (identities : List Identity) (places : List Place) (n : ℕ) → HasBases identities places n → (k : ℕ) → k < n → ¬ (IsUnknownBase identities k)
known_below identities places n has k below u =
    let lt : k < length places = rw has.count below in
    let here = has.each k _ u.identity (slice_get-get_or places k Root lt) u.stands in
    u.unknown (known_from identities k _ u.identity.base here.0 here.1)

pub all_known : (identities : List Identity) (places : List Place) → HasBases identities places (length identities) → (n : ℕ) → ¬ (IsUnknownBase identities n)
all_known identities places has n u =
    known_below identities places (length identities) has n (slice_get_within identities n u.identity u.stands) u

-- the place that was pushed, or one before
pub pushed : {X : Type 0} (xs : List X) (x y : X) (k : ℕ) → slice_get (xs ++ x ∷ []) k ≡ Some y → (slice_get xs k ≡ Some y) ⊎ ((k ≡ length xs) × (x ≡ y))
pushed [] x y zero h = inr (refl, cc)
pushed [] x y (suc k) h = absurd (cc)
pushed (z ∷ xs) x y zero h = inl h
pushed (z ∷ xs) x y (suc k) h = elim (pushed xs x y k h) [ inl e ↦ inl e | inr e ↦ inr (ap suc e.0, e.1) ]

pub has_more : (identities : List Identity) (places : List Place) (n : ℕ) (place : Place) (identity : Identity) → HasBases identities places n → slice_get identities n ≡ Some identity
    → IsBefore place n → StandsAt identities place identity.base → HasBases identities (places ++ place ∷ []) (n + 1)
has_more identities places n place identity has at before stands = record {
  count = length_push places place ∙ ap (λ m. m + 1) has.count;
  each = λ k p i get there.
      elim (pushed places place p k get) [
        | inl old ↦ has.each k p i old there
        | inr new ↦
            let e : k ≡ n = new.0 ∙ has.count in
            let f : Some identity ≡ Some i = sym at ∙ ap (slice_get identities) (sym e) ∙ there in
            let g : identity ≡ i = cc in
            let P : ℕ → Place → Identity → Type 0 = λ m q j. IsBefore q m × StandsAt identities q j.base in
            subst (λ m. P m p i) (sym e) (subst (λ q. P n q i) new.1 (subst (λ j. P n place j) g (before, stands)))
      ];
}

-- the one row of its type and qualifier
pub only_row : (i : InventoryView) → ((n : ℕ) → ¬ (IsDuplicateRow i.rows n)) → (k : ℕ) (row : Row) (type_id qualifier : List ℕ) → slice_get i.rows k ≡ Some row
    → row.type_id ≡ type_id → row.qualifier ≡ qualifier → IsOnlyRow i type_id qualifier row
only_row i none k row type_id qualifier at same_type same_qualifier = record {
  is = record { place = k; stands = at; same_type = same_type; same_qualifier = same_qualifier };
  only = λ other o. one_row i.rows o.place k other row none o.stands at (o.same_type ∙ sym same_type) (o.same_qualifier ∙ sym same_qualifier);
}

-- none of the first rows is of the type and qualifier
abbrev pub NoneOf : List Row → List ℕ → List ℕ → ℕ → Type 0
NoneOf rows type_id qualifier n =
    (k : ℕ) (row : Row) → k < n → slice_get rows k ≡ Some row → row.type_id ≡ type_id → ¬ (row.qualifier ≡ qualifier)

pub none_of_next : (rows : List Row) (type_id qualifier : List ℕ) (n : ℕ) (row : Row) → NoneOf rows type_id qualifier n → slice_get rows n ≡ Some row
    → (row.type_id ≡ type_id → ¬ (row.qualifier ≡ qualifier)) → NoneOf rows type_id qualifier (n + 1)
none_of_next rows type_id qualifier n row before at other k found lt there same_type same_qualifier =
    let le : k ≤ n = omega arith in
    elim (eq-or-lt_of_le le) [
      | inl e ↦
          let f : Some row ≡ Some found = sym at ∙ ap (slice_get rows) (sym e) ∙ there in
          let p : row ≡ found = cc in
          other (ap (λ (r : Row). r.type_id) p ∙ same_type) (ap (λ (r : Row). r.qualifier) p ∙ same_qualifier)
      | inr below ↦ before k found below there same_type same_qualifier
    ]

pub none_is_of : (i : InventoryView) (type_id qualifier : List ℕ) → NoneOf i.rows type_id qualifier (length i.rows) → (row : Row) → ¬ (IsRowOf i type_id qualifier row)
none_is_of i type_id qualifier none row o = none o.place row (slice_get_within i.rows o.place row o.stands) o.stands o.same_type o.same_qualifier
