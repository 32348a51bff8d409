-- The test of lists holds exactly where they make an inventory.
use Rattle.std.proofs.Common.{◌≡◌, ℕ, zero, suc, ◌+◌, ◌<◌, ◌≤◌, Bool, true, false, ◌||◌, ◌⊎◌, inl, inr, List, [], ◌∷◌, ◌++◌, length, refl, sym, ap, ◌∙◌, arith, subst, append_assoc, append-nil, length-append}
use Rattle.std.proofs.lemmas.Bool.{false≢true}
use Rattle.std.proofs.lemmas.Bool.Decides.{Decides-and, Decides-or, Decides-like, Decides-not}
use Rattle.std.proofs.lemmas.Option.{slice_get_within, same_Some}
use Rattle.std.proofs.Math.Nat.{eq-or-lt_of_le}
use Rattle.std.specs.Bool.{Decides}
use Rattle.std.specs.Cmp.Lexicographic.{pointwise, bytes_decides}
use Rattle.std.specs.List.{list_any}
use Rattle.std.specs.Prelude.{◌==◌, Some, slice_get}
use Rattle.al_base.proofs.FormTests.{decides_le}
use Rattle.al_types.specs.Faults.{IsSound}
use Rattle.al_types.specs.Known.{root, IsNamed, IsKnownBefore, IsDuplicateIdentity, IsUnknownBase, IsDuplicateRow}
use Rattle.al_types.specs.Sound.{is_known, are_in_order, is_same_kind, has_repeats, is_sound}
use Rattle.al_types.specs.declared.row.Identity.{Identity}
use Rattle.al_types.specs.declared.row.Row.{Row}

-- ---- lists

-- a member that passes stands somewhere
abbrev Passes : {X : Type 0} → (X → Bool) → List X → Type 0
Passes {X} test xs = (place : ℕ) × (x : X) × (slice_get xs place ≡ Some x) × (test x ≡ true)

any_at : {X : Type 0} (test : X → Bool) (xs : List X) → list_any test xs ≡ true → Passes test xs
any_at test [] h = absurd (false≢true h)
any_at test (x ∷ xs) h = by (test x) refl (any_at test xs) h
  where
    by : (passes : Bool) → test x ≡ passes → (list_any test xs ≡ true → Passes test xs) → (passes || list_any test xs) ≡ true → Passes test (x ∷ xs)
    by true e further g = (0, x, refl, e)
    by false e further g = (let later = further g in (suc later.0, later.1, later.2, later.3))

or_right : (a b : Bool) → b ≡ true → (a || b) ≡ true
or_right true b h = refl
or_right false b h = h

at_any : {X : Type 0} (test : X → Bool) (xs : List X) (place : ℕ) (x : X) → slice_get xs place ≡ Some x → test x ≡ true → list_any test xs ≡ true
at_any test [] zero x at h = absurd (cc)
at_any test [] (suc place) x at h = absurd (cc)
at_any test (y ∷ xs) zero x at h = (let same : y ≡ x = same_Some y x at in rw (same, h) refl)
at_any test (y ∷ xs) (suc place) x at h = or_right (test y) (list_any test xs) (at_any test xs place x at h)

-- what stands in a front stands in the whole, and the other way below its length
in_front : {X : Type 0} (xs ys : List X) (place : ℕ) → place < length xs → slice_get (xs ++ ys) place ≡ slice_get xs place
in_front [] ys place lt = absurd (omega arith)
in_front (x ∷ xs) ys zero lt = refl
in_front (x ∷ xs) ys (suc place) lt = in_front xs ys place (omega arith)

behind : {X : Type 0} (xs : List X) (y : X) (ys : List X) → slice_get (xs ++ y ∷ ys) (length xs) ≡ Some y
behind [] y ys = refl
behind (x ∷ xs) y ys = behind xs y ys

-- ---- identities

known_of : (earlier further : List Identity) (t : List ℕ) → Decides (is_known earlier t) (IsKnownBefore (earlier ++ further) (length earlier) t)
known_of earlier further t =
    Decides-or (pointwise ◌==◌ t root) (list_any (λ identity. pointwise ◌==◌ t identity.name) earlier) (bytes_decides t root) (named, declared)
  where
    named : list_any (λ identity. pointwise ◌==◌ t identity.name) earlier ≡ true → (place : ℕ) × (place < length earlier) × IsNamed (earlier ++ further) place t
    named h =
        let at = any_at (λ identity. pointwise ◌==◌ t identity.name) earlier h in
        let lt : at.0 < length earlier = slice_get_within earlier at.0 at.1 at.2 in
        let name : t ≡ at.1.name = (bytes_decides t at.1.name).0 at.3 in
        let P : List ℕ → Type 0 = λ n. slice_get (earlier ++ further) at.0 ≡ Some (record { name = n; base = at.1.base }) in
        (at.0, lt, (at.1.base, subst P (sym name) (in_front earlier further at.0 lt ∙ at.2)))

    declared : (place : ℕ) × (place < length earlier) × IsNamed (earlier ++ further) place t → list_any (λ identity. pointwise ◌==◌ t identity.name) earlier ≡ true
    declared k =
        at_any (λ identity. pointwise ◌==◌ t identity.name) earlier k.0 (record { name = t; base = k.2.0 })
        (sym (in_front earlier further k.0 k.1) ∙ k.2.1) ((bytes_decides t t).1 refl)

-- From the n-th on no identity has a known name or an unknown base.
abbrev AreGood : List Identity → ℕ → Type 0
AreGood identities n = (k : ℕ) → n ≤ k → (¬ (IsDuplicateIdentity identities k)) × (¬ (IsUnknownBase identities k))

good_end : (identities : List Identity) → AreGood identities (length identities)
good_end identities k le = (
  λ d. (let lt : k < length identities = slice_get_within identities k d.identity d.stands in omega arith),
  λ u. (let lt : k < length identities = slice_get_within identities k u.identity u.stands in omega arith),
)

decided_true : {P : Type 0} (test : Bool) → Decides test P → ¬ (¬ P) → test ≡ true
decided_true true d h = refl
decided_true false d h = absurd (h (λ p. false≢true (d.1 p)))

in_order_decides : (earlier further : List Identity) → Decides (are_in_order earlier further) (AreGood (earlier ++ further) (length earlier))
in_order_decides earlier [] = (λ h. rw (append-nil earlier) (good_end earlier), λ g. refl)
in_order_decides earlier (identity ∷ further) =
    Decides-like (are_in_order earlier (identity ∷ further)) good bad
    (Decides-and _ _ (Decides-and _ _ (Decides-not (is_known earlier identity.name) (known_of earlier (identity ∷ further) identity.name))
    (known_of earlier (identity ∷ further) identity.base)) (later (in_order_decides (earlier ++ identity ∷ []) further)))
  where
    here : slice_get (earlier ++ identity ∷ further) (length earlier) ≡ Some identity
    here = behind earlier identity further

    later : Decides (are_in_order (earlier ++ identity ∷ []) further) (AreGood ((earlier ++ identity ∷ []) ++ further) (length (earlier ++ identity ∷ [])))
        → Decides (are_in_order (earlier ++ identity ∷ []) further) (AreGood (earlier ++ identity ∷ further) (length earlier + 1))
    later d =
        let joined : (earlier ++ identity ∷ []) ++ further ≡ earlier ++ identity ∷ further = append_assoc earlier (identity ∷ []) further in
        let long : length (earlier ++ identity ∷ []) ≡ length earlier + 1 = length-append earlier (identity ∷ []) in
        let P : List Identity → ℕ → Type 0 = λ xs n. Decides (are_in_order (earlier ++ identity ∷ []) further) (AreGood xs n) in
        subst (λ n. P (earlier ++ identity ∷ further) n) long (subst (λ xs. P xs (length (earlier ++ identity ∷ []))) joined d)

    good : ((¬ (IsKnownBefore (earlier ++ identity ∷ further) (length earlier) identity.name)) × IsKnownBefore (earlier ++ identity ∷ further) (length earlier) identity.base)
        × AreGood (earlier ++ identity ∷ further) (length earlier + 1) → AreGood (earlier ++ identity ∷ further) (length earlier)
    good h k le =
        elim (eq-or-lt_of_le le) [
          | inl e ↦ (let P : ℕ → Type 0 = λ n. (¬ (IsDuplicateIdentity (earlier ++ identity ∷ further) n)) × (¬ (IsUnknownBase (earlier ++ identity ∷ further) n)) in subst P e (
            λ d. (let Q : Identity → Type 0 = λ i. IsKnownBefore (earlier ++ identity ∷ further) (length earlier) i.name in
                h.0.0 (subst Q (same_Some d.identity identity (sym d.stands ∙ here)) d.known)),
            λ u. (let Q : Identity → Type 0 = λ i. ¬ (IsKnownBefore (earlier ++ identity ∷ further) (length earlier) i.base) in
                subst Q (same_Some u.identity identity (sym u.stands ∙ here)) u.unknown h.0.1),
          ))
          | inr lt ↦ h.1 k (omega arith)
        ]

    bad : AreGood (earlier ++ identity ∷ further) (length earlier) → ((¬ (IsKnownBefore (earlier ++ identity ∷ further) (length earlier) identity.name))
        × IsKnownBefore (earlier ++ identity ∷ further) (length earlier) identity.base) × AreGood (earlier ++ identity ∷ further) (length earlier + 1)
    bad g =
        let now = g (length earlier) (omega arith) in
        let base : is_known earlier identity.base ≡ true = decided_true (is_known earlier identity.base) (known_of earlier (identity ∷ further) identity.base)
        (λ unknown. now.1 (record { identity = identity; stands = here; unknown = unknown })) in
        ((λ known. now.0 (record { identity = identity; stands = here; known = known }), (known_of earlier (identity ∷ further) identity.base).0 base), λ k le. g k (omega arith))

-- ---- rows

same_kind_decides : (a b : Row) → Decides (is_same_kind a b) ((a.type_id ≡ b.type_id) × (a.qualifier ≡ b.qualifier))
same_kind_decides a b = Decides-and _ _ (bytes_decides a.type_id b.type_id) (bytes_decides a.qualifier b.qualifier)

-- a row that repeats an earlier one
abbrev Repeats : List Row → Type 0
Repeats rows = (n : ℕ) × IsDuplicateRow rows n

repeats_decides : (rows : List Row) → Decides (has_repeats rows) (Repeats rows)
repeats_decides [] = (λ h. absurd (false≢true h), λ r. nothing r.0 r.1)
  where
    nothing : (n : ℕ) → IsDuplicateRow [] n → has_repeats [] ≡ true
    nothing n d = (let lt : n < 0 = slice_get_within [] n d.row d.second in absurd (omega arith))
repeats_decides (row ∷ further) =
    Decides-like (has_repeats (row ∷ further)) found lost
    (Decides-or (list_any (is_same_kind row) further) (has_repeats further) (any_at (is_same_kind row) further, λ p. at_any (is_same_kind row) further p.0 p.1 p.2 p.3)
    (repeats_decides further))
  where
    found : Passes (is_same_kind row) further ⊎ Repeats further → Repeats (row ∷ further)
    found (inl p) =
        let same = (same_kind_decides row p.1).0 p.3 in
        (suc p.0, record { earlier = 0; before = omega arith; repeated = row; row = p.1; first = refl; second = p.2; same_type = same.0; same_qualifier = same.1 })
    found (inr r) =
        let d = r.1 in
        (suc r.0, record { earlier = suc d.earlier; before = omega arith; repeated = d.repeated; row = d.row; first = d.first; second = d.second; same_type = d.same_type; same_qualifier = d.same_qualifier })

    lost_at : (n earlier : ℕ) (a b : Row) → earlier < n → slice_get (row ∷ further) earlier ≡ Some a → slice_get (row ∷ further) n ≡ Some b → a.type_id ≡ b.type_id → a.qualifier ≡ b.qualifier
        → Passes (is_same_kind row) further ⊎ Repeats further
    lost_at zero earlier a b lt first second types qualifiers = absurd (omega arith)
    lost_at (suc n) zero a b lt first second types qualifiers =
        let same : row ≡ a = same_Some row a first in
        inl (n, b, second, (same_kind_decides row b).1 (ap (λ (r : Row). r.type_id) same ∙ types, ap (λ (r : Row). r.qualifier) same ∙ qualifiers))
    lost_at (suc n) (suc earlier) a b lt first second types qualifiers =
        inr (n, record { earlier = earlier; before = omega arith; repeated = a; row = b; first = first; second = second; same_type = types; same_qualifier = qualifiers })

    lost : Repeats (row ∷ further) → Passes (is_same_kind row) further ⊎ Repeats further
    lost r = (let d = r.1 in lost_at r.0 d.earlier d.repeated d.row d.before d.first d.second d.same_type d.same_qualifier)

pub decides_sound : (identities : List Identity) (rows : List Row) → Decides (is_sound identities rows) (IsSound identities rows)
unfolding is_sound
decides_sound identities rows =
    Decides-like (is_sound identities rows)
    (λ h. record {
      few = (h.0.0.0, h.0.0.1);
      names = λ n. (h.0.1 n (omega arith)).0;
      bases = λ n. (h.0.1 n (omega arith)).1;
      kinds = λ n d. h.1 (n, d);
    })
    (λ s. (((s.few.0, s.few.1), λ n le. (s.names n, s.bases n)), λ r. s.kinds r.0 r.1))
    (Decides-and _ _ (Decides-and _ _ (Decides-and _ _ (decides_le (length identities) 2000) (decides_le (length rows) 2000)) (in_order_decides [] identities))
    (Decides-not (has_repeats rows) (repeats_decides rows)))
