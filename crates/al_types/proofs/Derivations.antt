-- Following one base after the other.
use Rattle.std.proofs.Common.{◌≡◌, ℕ, ◌+◌, ◌<◌, ◌≤◌, List, [], ◌∷◌, length, refl, sym, ◌∙◌, ap, inl, inr, arith, subst, true, false, rules}
use Rattle.std.proofs.lemmas.Bool.{cases_order}
use Rattle.std.proofs.lemmas.Option.{slice_get_within}
use Rattle.std.specs.Prelude.{Some, slice_get}
use Rattle.al_types.specs.Faults.{IsSound}
use Rattle.al_types.specs.Inventories.{InventoryView, Declares, Leads, DerivesFrom}
use Rattle.al_types.specs.Known.{root, IsNamed, IsKnownBefore}
use Rattle.al_types.specs.Places.{StandsAt, IsBefore, IsInventory, IsStanding, TellsDerivation}
use Rattle.al_types.specs.declared.place.Place.{Place}
use Rattle.al_types.specs.declared.place.Place.TheVariants.{Root, Declared}
use Rattle.al_types.specs.declared.row.Identity.{Identity}
use Rattle.al_types.specs.declared.row.Row.{Row}
use Rattle.al_types.proofs.Found.{name_in, base_in}

-- how many bases can follow
abbrev pub depth : Place → ℕ
depth Root = 0
depth (Declared n) = n + 1

abbrev pub number : Place → ℕ
number Root = 0
number (Declared n) = n

-- From the place that was reached, the goal is derived from as it is from the start.
pub record GoesOn (i : InventoryView) (start goal at : Place) : Type 0 where
  pub standing : IsStanding i.identities at
  pub down : (t base now : List ℕ) → StandsAt i.identities start t → StandsAt i.identities goal base → StandsAt i.identities at now → DerivesFrom i t base → DerivesFrom i now base
  pub up : (t base now : List ℕ) → StandsAt i.identities start t → StandsAt i.identities goal base → StandsAt i.identities at now → DerivesFrom i now base → DerivesFrom i t base

one_type : (identities : List Identity) (place : Place) (a b : List ℕ) → StandsAt identities place a → StandsAt identities place b → a ≡ b
one_type identities Root a b h k = h ∙ sym k
one_type identities (Declared n) a b h k = ap name_in (sym h.1 ∙ k.1)

pub one_place : (identities : List Identity) (rows : List Row) → IsSound identities rows → (p q : Place) (a : List ℕ) → StandsAt identities p a → StandsAt identities q a → p ≡ q
one_place identities rows s Root Root a h k = refl
one_place identities rows s Root (Declared n) a h k = absurd (s.names n (record { identity = record { name = a; base = k.0 }; stands = k.1; known = inl h }))
one_place identities rows s (Declared n) Root a h k = absurd (s.names n (record { identity = record { name = a; base = h.0 }; stands = h.1; known = inl k }))
one_place identities rows s (Declared m) (Declared n) a h k =
    elim (cases_order m n) [
      | inl e ↦ ap Declared e
      | inr other ↦ elim other [
        | inl lt ↦ absurd (s.names n (record { identity = record { name = a; base = k.0 }; stands = k.1; known = inr (m, lt, h) }))
        | inr gt ↦ absurd (s.names m (record { identity = record { name = a; base = h.0 }; stands = h.1; known = inr (n, gt, k) }))
      ]
    ]

pub one_base : (i : InventoryView) → IsSound i.identities i.rows → (t b c : List ℕ) (n : ℕ) → Declares i t b → slice_get i.identities n ≡ Some (record { name = t; base = c }) → b ≡ c
one_base i s t b c n d h =
    let e : d.0 ≡ n = ap number (one_place i.identities i.rows s (Declared d.0) (Declared n) t (b, d.1) (c, h)) in
    ap base_in (sym d.1 ∙ ap (slice_get i.identities) e ∙ h)

step_down : (i : InventoryView) → IsSound i.identities i.rows → (t next base : List ℕ) (n : ℕ) (further : List (List ℕ)) → Leads i t further base → ¬ (t ≡ base)
    → slice_get i.identities n ≡ Some (record { name = t; base = next }) → DerivesFrom i next base
step_down i s t next base n [] l other h = absurd (other l)
step_down i s t next base n (x ∷ rest) l other h =
    let P : List ℕ → Type 0 = λ y. Leads i y rest base in
    (rest, subst P (one_base i s t x next n l.0 h) l.1)

step_up : (i : InventoryView) (t next base : List ℕ) (n : ℕ) → DerivesFrom i next base → slice_get i.identities n ≡ Some (record { name = t; base = next }) → DerivesFrom i t base
step_up i t next base n d h = (next ∷ d.0, ((n, h), d.1))

root_alone : (i : InventoryView) → IsSound i.identities i.rows → (base : List ℕ) (further : List (List ℕ)) → Leads i root further base → root ≡ base
root_alone i s base [] l = l
root_alone i s base (x ∷ rest) l = absurd (s.names l.0.0 (record { identity = record { name = root; base = x }; stands = l.0.1; known = inl refl }))

pub goes_from_start : (i : InventoryView) (start goal : Place) → IsStanding i.identities start → GoesOn i start goal start
goes_from_start i start goal standing = record {
  standing = standing;
  down = λ t base now at to here d. (let P : List ℕ → Type 0 = λ x. DerivesFrom i x base in subst P (one_type i.identities start t now at here) d);
  up = λ t base now at to here d. (let P : List ℕ → Type 0 = λ x. DerivesFrom i x base in subst P (one_type i.identities start now t here at) d);
}

pub goes_on : (i : InventoryView) (places : List Place) → IsInventory i.identities i.rows places → (start goal place : Place) (n : ℕ) → slice_get places n ≡ Some place → ¬ (Declared n ≡ goal)
    → GoesOn i start goal (Declared n) → GoesOn i start goal place
goes_on i places v start goal place n at other g =
    let type_id : List ℕ = g.standing.0 in
    let next : List ℕ = g.standing.1.0 in
    let named : IsNamed i.identities n type_id = g.standing.1 in
    let here = v.bases.each n place (record { name = type_id; base = next }) at named.1 in
    let same : (now : List ℕ) → StandsAt i.identities place now → next ≡ now = λ now stands. one_type i.identities place next now here.1 stands in
    record {
      standing = (next, here.1);
      down = λ t base now from to stands d.
          let P : List ℕ → Type 0 = λ x. DerivesFrom i x base in
          let Q : List ℕ → Type 0 = λ x. StandsAt i.identities goal x in
          let apart : ¬ (type_id ≡ base) = λ e. other (one_place i.identities i.rows v.sound (Declared n) goal type_id named (subst Q (sym e) to)) in
          let before = g.down t base type_id from to named d in
          subst P (same now stands) (step_down i v.sound type_id next base n before.0 before.1 apart named.1);
      up = λ t base now from to stands d.
          let P : List ℕ → Type 0 = λ x. DerivesFrom i x base in
          g.up t base type_id from to named (step_up i type_id next base n (subst P (sym (same now stands)) d) named.1);
    }

pub goes_down : (i : InventoryView) (places : List Place) → IsInventory i.identities i.rows places → (start goal place : Place) (n : ℕ) → slice_get places n ≡ Some place
    → GoesOn i start goal (Declared n) → depth place < depth (Declared n)
goes_down i places v start goal place n at g =
    let here = v.bases.each n place (record { name = g.standing.0; base = g.standing.1.0 }) at g.standing.1.1 in
    lower place here.0
  where
    lower : (p : Place) → IsBefore p n → depth p < n + 1
    lower Root before = omega arith
    lower (Declared m) before = omega arith

pub reached : (i : InventoryView) (start goal : Place) → GoesOn i start goal goal → TellsDerivation i start goal true
reached i start goal g t base from to = (λ yes. g.up t base base from to to ([], refl), λ d. search rules)

pub stopped : (i : InventoryView) → IsSound i.identities i.rows → (start goal : Place) → ¬ (Root ≡ goal) → GoesOn i start goal Root → TellsDerivation i start goal false
stopped i s start goal other g t base from to =
    let Q : List ℕ → Type 0 = λ x. StandsAt i.identities goal x in (
      λ yes. absurd (search rules),
      λ d. let rest = g.down t base root from to refl d in
          absurd (other (one_place i.identities i.rows s Root goal root refl (subst Q (sym (root_alone i s base rest.0 rest.1)) to))),
    )

-- a type that isn't known derives from itself alone
pub unknown_alone : (i : InventoryView) (t base : List ℕ) → ¬ (IsKnownBefore i.identities (length i.identities) t) → ¬ (t ≡ base) → ¬ (DerivesFrom i t base)
unknown_alone i t base unknown other d = leads d.0 d.1
  where
    leads : (further : List (List ℕ)) → Leads i t further base → ⊥
    leads [] l = other l
    leads (x ∷ rest) l = unknown (inr (l.0.0, slice_get_within i.identities l.0.0 _ l.0.1, (x, l.0.1)))

later_known : (identities : List Identity) (n m : ℕ) (t : List ℕ) → n ≤ m → IsKnownBefore identities n t → IsKnownBefore identities m t
later_known identities n m t le k = elim k [ inl e ↦ inl e | inr e ↦ inr (e.0, (let lt : e.0 < n = e.1 in omega arith), e.2) ]

reaches_known : (i : InventoryView) → IsSound i.identities i.rows → (base t x : List ℕ) (further : List (List ℕ)) → ¬ (IsKnownBefore i.identities (length i.identities) base)
    → Declares i t x → Leads i x further base → ⊥
reaches_known i s base t x [] unknown d l =
    let P : List ℕ → Type 0 = λ y. ¬ (IsKnownBefore i.identities d.0 y) in
    let within : d.0 < length i.identities = slice_get_within i.identities d.0 _ d.1 in
    let le : d.0 ≤ length i.identities = omega arith in
    s.bases d.0 (record {
      identity = record { name = t; base = x };
      stands = d.1;
      unknown = subst P (sym l) (λ k. unknown (later_known i.identities d.0 (length i.identities) base le k));
    })
reaches_known i s base t x (y ∷ rest) unknown d l = reaches_known i s base x y rest unknown l.0 l.1

-- nor does another derive from it
pub unknown_underived : (i : InventoryView) → IsSound i.identities i.rows → (t base : List ℕ) → ¬ (IsKnownBefore i.identities (length i.identities) base) → ¬ (t ≡ base) → ¬ (DerivesFrom i t base)
unknown_underived i s t base unknown other d = leads d.0 d.1
  where
    leads : (further : List (List ℕ)) → Leads i t further base → ⊥
    leads [] l = other l
    leads (x ∷ rest) l = reaches_known i s base t x rest unknown l.0 l.1
