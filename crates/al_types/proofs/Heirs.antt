-- The heirs of a base are the types that derive from it.
use Rattle.std.proofs.Common.{◌≡◌, ℕ, suc, ◌+◌, ◌<◌, ◌≤◌, ◌⊎◌, Bool, true, false, ◌||◌, cond, List, [], ◌∷◌, length, refl, sym, ◌∙◌, ap, inl, inr, arith, subst}
use Rattle.std.proofs.lemmas.Bool.{cases_Bool, cases_lt}
use Rattle.std.proofs.lemmas.Option.{slice_get_within}
use Rattle.std.specs.Bool.{Decides}
use Rattle.std.specs.Cmp.Lexicographic.{pointwise, bytes_decides}
use Rattle.std.specs.Prelude.{◌==◌, Some, slice_get}
use Rattle.al_types.specs.Faults.{IsSound}
use Rattle.al_types.specs.Inventories.{InventoryView, Leads, DerivesFrom, is_among, with_heirs, derives_from}
use Rattle.al_types.specs.Known.{IsNamed, IsKnownBefore}
use Rattle.al_types.specs.declared.place.Place.TheVariants.{Declared}
use Rattle.al_types.specs.declared.row.Identity.{Identity}
use Rattle.al_types.proofs.Derivations.{number, one_place, one_base}
use Rattle.al_types.proofs.Found.{name_in}

-- ---- among types

or_cases : (a b : Bool) → (a || b) ≡ true → (a ≡ true) ⊎ (b ≡ true)
or_cases true b h = inl refl
or_cases false b h = inr h

or_right : (a b : Bool) → b ≡ true → (a || b) ≡ true
or_right true b h = refl
or_right false b h = h

among_first : (x y : List ℕ) (types : List (List ℕ)) → x ≡ y → is_among x (y ∷ types) ≡ true
among_first x y types e = rw ((bytes_decides x y).1 e) refl

among_later : (x y : List ℕ) (types : List (List ℕ)) → is_among x types ≡ true → is_among x (y ∷ types) ≡ true
among_later x y types h = or_right (pointwise ◌==◌ x y) (is_among x types) h

among_cases : (x y : List ℕ) (types : List (List ℕ)) → is_among x (y ∷ types) ≡ true → (x ≡ y) ⊎ (is_among x types ≡ true)
among_cases x y types h = elim (or_cases (pointwise ◌==◌ x y) (is_among x types) h) [ inl e ↦ inl ((bytes_decides x y).0 e) | inr later ↦ inr later ]

abbrev with_heir : Identity → List (List ℕ) → List (List ℕ)
with_heir identity types = cond (is_among identity.base types) (identity.name ∷ types) types

-- what was among them still is
still : (b : Bool) (x y : List ℕ) (types : List (List ℕ)) → is_among x types ≡ true → is_among x (cond b (y ∷ types) types) ≡ true
still true x y types h = among_later x y types h
still false x y types h = h

-- ---- the identities from the n-th on

abbrev AreFrom : InventoryView → ℕ → List Identity → Type 0
AreFrom i n later = (k : ℕ) → slice_get i.identities (n + k) ≡ slice_get later k

next_from : (i : InventoryView) (n : ℕ) (identity : Identity) (later : List Identity) → AreFrom i n (identity ∷ later) → AreFrom i (suc n) later
next_from i n identity later from k = let e : suc n + k ≡ n + suc k = omega arith in rw e (from (suc k))

first_from : (i : InventoryView) (n : ℕ) (identity : Identity) (later : List Identity) → AreFrom i n (identity ∷ later) → slice_get i.identities n ≡ Some identity
first_from i n identity later from = let e : n ≡ n + 0 = omega arith in ap (slice_get i.identities) e ∙ from 0

-- ---- heirs derive

heir_derives : (i : InventoryView) (n : ℕ) (identity : Identity) (base : List ℕ) → slice_get i.identities n ≡ Some identity → DerivesFrom i identity.base base → DerivesFrom i identity.name base
heir_derives i n identity base at d = (identity.base ∷ d.0, ((n, at), d.1))

one_derives : (i : InventoryView) (n : ℕ) (identity : Identity) (base : List ℕ) (types : List (List ℕ)) (b : Bool) → b ≡ is_among identity.base types
    → slice_get i.identities n ≡ Some identity → ((x : List ℕ) → is_among x types ≡ true → DerivesFrom i x base)
    → (x : List ℕ) → is_among x (cond b (identity.name ∷ types) types) ≡ true → DerivesFrom i x base
one_derives i n identity base types false e at each x h = each x h
one_derives i n identity base types true e at each x h =
    elim (among_cases x identity.name types h) [
      | inl same ↦ (let P : List ℕ → Type 0 = λ y. DerivesFrom i y base in subst P (sym same) (heir_derives i n identity base at (each identity.base (sym e))))
      | inr later ↦ each x later
    ]

heirs_derive : (i : InventoryView) (base : List ℕ) (n : ℕ) (later : List Identity) (types : List (List ℕ)) → AreFrom i n later
    → ((x : List ℕ) → is_among x types ≡ true → DerivesFrom i x base) → (x : List ℕ) → is_among x (with_heirs later types) ≡ true → DerivesFrom i x base
heirs_derive i base n [] types from each x h = each x h
heirs_derive i base n (identity ∷ later) types from each x h =
    let more = one_derives i n identity base types (is_among identity.base types) refl (first_from i n identity later from) each in
    heirs_derive i base (suc n) later (with_heir identity types) (next_from i n identity later from) more x h

-- ---- what derives is an heir

-- The type is declared before the n-th identity, if it is.
abbrev IsNotFrom : InventoryView → ℕ → List ℕ → Type 0
IsNotFrom i n x = (place : ℕ) → IsNamed i.identities place x → place < n

one_name : (i : InventoryView) → IsSound i.identities i.rows → (p q : ℕ) (x : List ℕ) → IsNamed i.identities p x → IsNamed i.identities q x → p ≡ q
one_name i s p q x a b = ap number (one_place i.identities i.rows s (Declared p) (Declared q) x a b)

base_before : (i : InventoryView) → IsSound i.identities i.rows → (n : ℕ) (identity : Identity) → slice_get i.identities n ≡ Some identity → IsNotFrom i n identity.base
base_before i s n identity at place named =
    elim (cases_lt place n) [
      | inl lt ↦ lt
      | inr past ↦ absurd (s.bases n (record { identity = identity; stands = at; unknown = unknown past }))
    ]
  where
    unknown : n ≤ place → IsKnownBefore i.identities n identity.base → ⊥
    unknown past (inl is_root) = s.names place (record { identity = record { name = identity.base; base = named.0 }; stands = named.1; known = inl is_root })
    unknown past (inr earlier) =
        let same : earlier.0 ≡ place = one_name i s earlier.0 place identity.base earlier.2 named in
        let lt : earlier.0 < n = earlier.1 in
        omega arith

-- the n-th identity is an heir, if it derives from the base
nth_is_heir : (i : InventoryView) → IsSound i.identities i.rows → (base : List ℕ) (n : ℕ) (identity : Identity) (types : List (List ℕ)) → slice_get i.identities n ≡ Some identity
    → is_among base types ≡ true → ((x : List ℕ) → IsNotFrom i n x → DerivesFrom i x base → is_among x types ≡ true)
    → (further : List (List ℕ)) → Leads i identity.name further base → is_among identity.name (with_heir identity types) ≡ true
nth_is_heir i s base n identity types at first before [] same = still (is_among identity.base types) identity.name identity.name types (rw same first)
nth_is_heir i s base n identity types at first before (next ∷ further) leads =
    let same : next ≡ identity.base = one_base i s identity.name next identity.base n leads.0 at in
    let derives : DerivesFrom i identity.base base = (let P : List ℕ → Type 0 = λ x. DerivesFrom i x base in subst P same (further, leads.1)) in
    let base_in : is_among identity.base types ≡ true = before identity.base (base_before i s n identity at) derives in
    rw base_in (among_first identity.name identity.name types refl)

is_heir : (i : InventoryView) → IsSound i.identities i.rows → (base : List ℕ) (n : ℕ) (identity : Identity) (types : List (List ℕ)) → slice_get i.identities n ≡ Some identity
    → is_among base types ≡ true → ((x : List ℕ) → IsNotFrom i n x → DerivesFrom i x base → is_among x types ≡ true)
    → (x : List ℕ) → IsNotFrom i (suc n) x → DerivesFrom i x base → is_among x (with_heir identity types) ≡ true
is_heir i s base n identity types at first before x bound d =
    elim (cases_Bool (pointwise ◌==◌ identity.name x)) [
      | inl named ↦
          let same : identity.name ≡ x = (bytes_decides identity.name x).0 named in
          let P : List ℕ → Type 0 = λ y. DerivesFrom i y base → is_among y (with_heir identity types) ≡ true in
          subst P same (λ e. nth_is_heir i s base n identity types at first before e.0 e.1) d
      | inr apart ↦ still (is_among identity.base types) x identity.name types (before x (earlier apart) d)
    ]
  where
    earlier : pointwise ◌==◌ identity.name x ≡ false → IsNotFrom i n x
    earlier differ place named =
        elim (cases_lt place n) [
          | inl lt ↦ lt
          | inr past ↦
              let lt : place < suc n = bound place named in
              let same : place ≡ n = omega arith in
              let there : Some (record { name = x; base = named.0 }) ≡ Some identity = sym named.1 ∙ ap (slice_get i.identities) same ∙ at in
              let names : identity.name ≡ x = sym (ap name_in there) in
              let also : pointwise ◌==◌ identity.name x ≡ true = (bytes_decides identity.name x).1 names in
              absurd (cc)
        ]

are_heirs : (i : InventoryView) → IsSound i.identities i.rows → (base : List ℕ) (n : ℕ) (later : List Identity) (types : List (List ℕ)) → AreFrom i n later
    → is_among base types ≡ true → ((x : List ℕ) → IsNotFrom i n x → DerivesFrom i x base → is_among x types ≡ true)
    → (x : List ℕ) → IsNotFrom i (n + length later) x → DerivesFrom i x base → is_among x (with_heirs later types) ≡ true
are_heirs i s base n [] types from first before x bound d = before x (λ place named. (let lt : place < n + 0 = bound place named in omega arith)) d
are_heirs i s base n (identity ∷ later) types from first before x bound d =
    let at = first_from i n identity later from in
    are_heirs i s base (suc n) later (with_heir identity types) (next_from i n identity later from)
    (still (is_among identity.base types) base identity.name types first) (is_heir i s base n identity types at first before)
    x (λ place named. (let lt : place < n + suc (length later) = bound place named in omega arith)) d

-- ---- the test

kept : (later : List Identity) (types : List (List ℕ)) (x : List ℕ) → is_among x types ≡ true → is_among x (with_heirs later types) ≡ true
kept [] types x h = h
kept (identity ∷ later) types x h = kept later (with_heir identity types) x (still (is_among identity.base types) x identity.name types h)

-- a type derives from itself
pub derives_itself : (i : InventoryView) (t base : List ℕ) → t ≡ base → derives_from i t base ≡ true
unfolding derives_from
derives_itself i t base same = kept i.identities (base ∷ []) t (among_first t base [] same)

base_derives : (i : InventoryView) (base x : List ℕ) → is_among x (base ∷ []) ≡ true → DerivesFrom i x base
base_derives i base x h = elim (among_cases x base [] h) [ inl same ↦ ([], same) | inr none ↦ absurd (cc) ]

undeclared : (i : InventoryView) (base x : List ℕ) → IsNotFrom i 0 x → DerivesFrom i x base → is_among x (base ∷ []) ≡ true
undeclared i base x none d = alone d.0 d.1
  where
    alone : (further : List (List ℕ)) → Leads i x further base → is_among x (base ∷ []) ≡ true
    alone [] same = among_first x base [] same
    alone (next ∷ further) leads = (let lt : leads.0.0 < 0 = none leads.0.0 (next, leads.0.1) in absurd (omega arith))

all_from : (i : InventoryView) → AreFrom i 0 i.identities
all_from i k = let e : 0 + k ≡ k = omega arith in ap (slice_get i.identities) e

pub derives_decides : (i : InventoryView) → IsSound i.identities i.rows → (t base : List ℕ) → Decides (derives_from i t base) (DerivesFrom i t base)
unfolding derives_from
derives_decides i s t base = (
  heirs_derive i base 0 i.identities (base ∷ []) (all_from i) (base_derives i base) t,
  are_heirs i s base 0 i.identities (base ∷ []) (all_from i) (among_first base base [] refl) (undeclared i base) t
      (λ place named. (let lt : place < length i.identities = slice_get_within i.identities place _ named.1 in omega arith)),
)
