-- Cutting a list, and what a quantifier says of a list with a first character.
use Rattle.std.proofs.Common.{◌≡◌, ℕ, Bool, true, false, ◌&&◌, ◌||◌, ◌⊎◌, inl, inr, List, [], ◌∷◌, ◌++◌, refl, ap, sym, ◌∙◌, subst}
use Rattle.std.specs.List.{concat}
use Rattle.std.proofs.lemmas.List.{append-nil}
use Rattle.al_pattern.specs.declared.token.Quantifier.{Quantifier}
use Rattle.al_pattern.specs.declared.token.Quantifier.TheVariants.{Once, Optional, Star, Plus}
use Rattle.al_pattern.specs.Language.{AreParts, IsRepeated, IsQuantified}
use Rattle.al_pattern.specs.Walk.{may_skip, may_repeat}
use Rattle.al_pattern.proofs.Marks.{IsAfter, CompletesPiece}

-- a list with a first character is cut before it or behind it
abbrev pub IsCut : ℕ → List ℕ → List ℕ → List ℕ → Type 0
IsCut c text front back = ((front ≡ []) × (back ≡ c ∷ text)) ⊎ ((rest : List ℕ) × (front ≡ c ∷ rest) × (text ≡ rest ++ back))

pub cut : (c : ℕ) (text front back : List ℕ) → c ∷ text ≡ front ++ back → IsCut c text front back
cut c text [] back e = inl (refl, sym e)
cut c text (x ∷ rest) back e = inr (rest, cc, cc)

pub nil_cut : (front back : List ℕ) → [] ≡ front ++ back → (front ≡ []) × (back ≡ [])
nil_cut [] back e = (refl, sym e)
nil_cut (x ∷ front) back e = absurd (cc)

pub or_true : (a b : Bool) → (a || b) ≡ true → (a ≡ true) ⊎ (b ≡ true)
or_true true b e = inl refl
or_true false b e = inr e

pub or_left : (a b : Bool) → a ≡ true → (a || b) ≡ true
or_left true b e = refl
or_left false b e = absurd (cc)

pub or_right : (a b : Bool) → b ≡ true → (a || b) ≡ true
or_right true b e = refl
or_right false b e = e

pub and_true : (a b : Bool) → (a && b) ≡ true → (a ≡ true) × (b ≡ true)
and_true true b e = (refl, e)
and_true false b e = absurd (cc)

pub true_and : (a b : Bool) → a ≡ true → b ≡ true → (a && b) ≡ true
true_and true b e f = f
true_and false b e f = absurd (cc)

-- ---- a first character

-- the first part of a list that is cut, with its first character, and the list of what is left
pub record First (c : ℕ) (Takes After : List ℕ → Type 0) (text : List ℕ) : Type 0 where
  pub front : List ℕ
  pub back : List ℕ
  pub parts : text ≡ front ++ back
  pub taken : Takes (c ∷ front)
  pub after : After back

pub repeated_first : (Takes : List ℕ → Type 0) (c : ℕ) (text : List ℕ) → IsRepeated Takes (c ∷ text) → First c Takes (IsRepeated Takes) text
repeated_first Takes c text (parts, taken, e) = by_parts parts taken e where
  by_parts : (parts : List (List ℕ)) → AreParts Takes parts → c ∷ text ≡ concat parts → First c Takes (IsRepeated Takes) text
  by_parts [] taken e = absurd (cc)
  by_parts ([] ∷ parts) taken e = absurd (taken.0 refl)
  by_parts ((x ∷ front) ∷ parts) taken e =
      let same : x ≡ c = cc in
      record { front = front; back = concat parts; parts = cc; taken = subst (λ n. Takes (n ∷ front)) same taken.1; after = (parts, taken.2, refl) }

pub repeated_more : (Takes : List ℕ → Type 0) (c : ℕ) (front back : List ℕ) → Takes (c ∷ front) → IsRepeated Takes back → IsRepeated Takes (c ∷ (front ++ back))
repeated_more Takes c front back taken (parts, others, e) =
    ((c ∷ front) ∷ parts, ((λ nil. cc), taken, others), ap (λ t. c ∷ (front ++ t)) e)

pub quantified_first : (q : Quantifier) (Takes : List ℕ → Type 0) (c : ℕ) (text : List ℕ) → IsQuantified q Takes (c ∷ text) → First c Takes (IsAfter q Takes) text
quantified_first Once Takes c text taken = record { front = text; back = []; parts = sym (append-nil text); taken = taken; after = refl }
quantified_first Optional Takes c text (inl e) = absurd (cc)
quantified_first Optional Takes c text (inr taken) = record { front = text; back = []; parts = sym (append-nil text); taken = taken; after = refl }
quantified_first Star Takes c text repeated = repeated_first Takes c text repeated
quantified_first Plus Takes c text (front, back, e, taken, repeated) = elim (cut c text front back e) [
  | inl h ↦ repeated_first Takes c text (subst (IsRepeated Takes) h.1 repeated)
  | inr h ↦ record { front = h.0; back = back; parts = h.2; taken = subst Takes h.1 taken; after = repeated }
]

pub quantified_more : (q : Quantifier) (Takes : List ℕ → Type 0) (c : ℕ) (front back : List ℕ) → Takes (c ∷ front) → IsAfter q Takes back → IsQuantified q Takes (c ∷ (front ++ back))
quantified_more Once Takes c front back taken after = subst (λ t. Takes (c ∷ t)) (sym (ap (λ b. front ++ b) after ∙ append-nil front)) taken
quantified_more Optional Takes c front back taken after = inr (subst (λ t. Takes (c ∷ t)) (sym (ap (λ b. front ++ b) after ∙ append-nil front)) taken)
quantified_more Star Takes c front back taken after = repeated_more Takes c front back taken after
quantified_more Plus Takes c front back taken after = (c ∷ front, back, refl, taken, after)

pub after_first : (q : Quantifier) (Takes : List ℕ → Type 0) (c : ℕ) (text : List ℕ) → IsAfter q Takes (c ∷ text) → (may_repeat q ≡ true) × First c Takes (IsAfter q Takes) text
after_first Once Takes c text e = absurd (cc)
after_first Optional Takes c text e = absurd (cc)
after_first Star Takes c text repeated = (refl, repeated_first Takes c text repeated)
after_first Plus Takes c text repeated = (refl, repeated_first Takes c text repeated)

pub after_more : (q : Quantifier) (Takes : List ℕ → Type 0) (c : ℕ) (front back : List ℕ) → may_repeat q ≡ true → Takes (c ∷ front) → IsAfter q Takes back → IsAfter q Takes (c ∷ (front ++ back))
after_more Once Takes c front back never taken after = absurd (cc)
after_more Optional Takes c front back never taken after = absurd (cc)
after_more Star Takes c front back often taken after = repeated_more Takes c front back taken after
after_more Plus Takes c front back often taken after = repeated_more Takes c front back taken after

pub after_nil : (q : Quantifier) (Takes : List ℕ → Type 0) → IsAfter q Takes []
after_nil Once Takes = refl
after_nil Optional Takes = refl
after_nil Star Takes = ([], tt, refl)
after_nil Plus Takes = ([], tt, refl)

-- ---- the empty list

pub quantified_nil : (q : Quantifier) (Takes : List ℕ → Type 0) → (Takes [] ⊎ (may_skip q ≡ true)) → IsQuantified q Takes []
quantified_nil Once Takes (inl taken) = taken
quantified_nil Once Takes (inr never) = absurd (cc)
quantified_nil Optional Takes h = inl refl
quantified_nil Star Takes h = ([], tt, refl)
quantified_nil Plus Takes (inl taken) = ([], [], refl, taken, ([], tt, refl))
quantified_nil Plus Takes (inr never) = absurd (cc)

pub nil_quantified : (q : Quantifier) (Takes : List ℕ → Type 0) → IsQuantified q Takes [] → Takes [] ⊎ (may_skip q ≡ true)
nil_quantified Once Takes taken = inl taken
nil_quantified Optional Takes h = inr refl
nil_quantified Star Takes h = inr refl
nil_quantified Plus Takes (front, back, e, taken, repeated) = inl (subst Takes (nil_cut front back e).0 taken)

-- ---- a piece takes one character more

-- what a part takes, where it may begin, or completes, with a first character, is what it completes after it
pub record Moves (c : ℕ) (begins : Bool) (Takes Completes Completes' : List ℕ → Type 0) : Type 0 where
  pub on : (text : List ℕ) → ((begins ≡ true) × Takes (c ∷ text)) ⊎ Completes (c ∷ text) → Completes' text
  pub back : (text : List ℕ) → Completes' text → ((begins ≡ true) × Takes (c ∷ text)) ⊎ Completes (c ∷ text)

pub record Ends (final : Bool) (Completes : List ℕ → Type 0) : Type 0 where
  pub on : final ≡ true → Completes []
  pub back : Completes [] → final ≡ true

pub piece_moves : (c : ℕ) (q : Quantifier) (enter final : Bool) (Takes Completes Completes' : List ℕ → Type 0)
    → Moves c (enter || (may_repeat q && final)) Takes Completes Completes' → Ends final Completes
    → Moves c enter (IsQuantified q Takes) (CompletesPiece q Takes Completes) (CompletesPiece q Takes Completes')
piece_moves c q enter final Takes Completes Completes' moves ends = record {
  on = λ text. elim [
    | inl h ↦ let f = quantified_first q Takes c text h.1 in
        (f.front, f.back, f.parts, moves.on f.front (inl (or_left enter (may_repeat q && final) h.0, f.taken)), f.after)
    | inr h ↦ elim (cut c text h.0 h.1 h.2) [
      | inl k ↦ let a = after_first q Takes c text (subst (IsAfter q Takes) k.1 h.4) in
          let again : (enter || (may_repeat q && final)) ≡ true = or_right enter (may_repeat q && final) (true_and (may_repeat q) final a.0 (ends.back (subst Completes k.0 h.3))) in
          (a.1.front, a.1.back, a.1.parts, moves.on a.1.front (inl (again, a.1.taken)), a.1.after)
      | inr k ↦ (k.0, h.1, k.2, moves.on k.0 (inr (subst Completes k.1 h.3)), h.4)
    ]
  ];
  back = λ text h. elim (moves.back h.0 h.3) [
    | inl k ↦ elim (or_true enter (may_repeat q && final) k.0) [
      | inl e ↦ inl (e, subst (λ t. IsQuantified q Takes (c ∷ t)) (sym h.2) (quantified_more q Takes c h.0 h.1 k.1 h.4))
      | inr r ↦ let both = and_true (may_repeat q) final r in
          inr ([], c ∷ text, refl, ends.on both.1, subst (λ t. IsAfter q Takes (c ∷ t)) (sym h.2) (after_more q Takes c h.0 h.1 both.0 k.1 h.4))
    ]
    | inr k ↦ inr (c ∷ h.0, h.1, ap (λ t. c ∷ t) h.2, k, h.4)
  ];
}
