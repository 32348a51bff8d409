-- A text has one fault at most, and one just where it is no pattern.
use Rattle.std.proofs.Common.{◌≡◌, ◌↔◌, ℕ, ◌⊎◌, inl, inr, List, [], ◌∷◌, ◌++◌, length, take, drop, Some, Result, Ok, Err, IfOk, refl, ap, sym, ◌∙◌, subst, append_assoc}
use Rattle.std.proofs.lemmas.List.{append-nil, take-append-drop, length-take-le}
use Rattle.al_pattern.specs.declared.letter.Item.TheVariants.{Range}
use Rattle.al_pattern.specs.declared.fault.FaultKind.{FaultKind}
use Rattle.al_pattern.specs.declared.fault.FaultKind.TheVariants.{Syntax, Unsupported, TooLarge, TooDeep}
use Rattle.al_pattern.specs.declared.fault.Fault.{Fault}
use Rattle.al_pattern.specs.declared.fault.PatternFault.{PatternFault}
use Rattle.al_pattern.specs.declared.fault.PatternFault.TheVariants as faults
use Rattle.al_pattern.specs.Tests.{item_spelling}
use Rattle.al_pattern.specs.Trees.{Choice, choice_spelling, IsSpelled}
use Rattle.al_pattern.specs.Reading.{reading, placed, fault_named, first_fault, fault_or_none, IsFirstFault}
use Rattle.al_pattern.specs.Places.{IsForm, IsRising, HasFewNodes, HasFewGroups, IsWithin, Begins, IsLeftOut, IsFalling, IsSound, Stops, IsTooLarge, IsTooDeep, IsFaultAt, IsFaultIn, IsPlaced}
use Rattle.al_pattern.proofs.GrammarLemmas.{reading_found}
use Rattle.al_pattern.proofs.CloseLemmas.{choice_form, begins_shorter}
use Rattle.al_pattern.proofs.FaultLemmas.{overlap, form_of, range_head}
use Rattle.al_pattern.proofs.PlaceLemmas.{fault_placed}

-- ---- what is within the limits is within each

few_of : (front : List ℕ) → Begins IsWithin front → Begins HasFewNodes front
few_of front b = record { tree = b.tree; rest = b.rest; such = (b.such.0, b.such.1); spelled = b.spelled }

flat_of : (front : List ℕ) → Begins IsWithin front → Begins HasFewGroups front
flat_of front b = record { tree = b.tree; rest = b.rest; such = (b.such.0, b.such.2); spelled = b.spelled }

form_from_few : (front : List ℕ) → Begins HasFewNodes front → Begins IsForm front
form_from_few front b = record { tree = b.tree; rest = b.rest; such = b.such.0; spelled = b.spelled }

stops_not : (front behind : List ℕ) (b : ℕ) (rest : List ℕ) → Stops front behind → behind ≡ b ∷ rest → Begins IsForm (front ++ b ∷ []) → ⊥
stops_not front [] b rest stops e goes = cc
stops_not front (a ∷ behind) b rest stops e goes =
    let same : a ≡ b = cc in
    stops (subst (λ (i : ℕ). Begins IsForm (front ++ i ∷ [])) (sym same) goes)

large_not : (front behind : List ℕ) (b : ℕ) (rest : List ℕ) → IsTooLarge front behind → behind ≡ b ∷ rest → Begins HasFewNodes (front ++ b ∷ []) → ⊥
large_not front behind b rest h e goes =
    let both : b ∷ rest ≡ h.next ∷ h.rest = sym e ∙ h.whole in
    let same : b ≡ h.next = cc in
    h.many (subst (λ (i : ℕ). Begins HasFewNodes (front ++ i ∷ [])) same goes)

deep_not : (front behind : List ℕ) (b : ℕ) (rest : List ℕ) → IsTooDeep front behind → behind ≡ b ∷ rest → Begins HasFewGroups (front ++ b ∷ []) → ⊥
deep_not front behind b rest h e goes =
    let both : b ∷ rest ≡ 40 ∷ h.rest = sym e ∙ h.whole in
    let same : b ≡ 40 = cc in
    h.deep (subst (λ (i : ℕ). Begins HasFewGroups (front ++ i ∷ [])) same goes)

-- ---- no fault behind another

sound_of : (kind : FaultKind) (front behind : List ℕ) → IsFaultAt kind front behind → IsSound front behind
sound_of Syntax front behind h = h.0
sound_of Unsupported front behind h = h.0
sound_of TooLarge front behind h = h.0
sound_of TooDeep front behind h = h.0

later : (kind : FaultKind) (front behind front' behind' : List ℕ) (c : ℕ) (z : List ℕ) → IsFaultAt kind front behind → IsSound front' behind' → front' ≡ front ++ c ∷ z → behind ≡ (c ∷ z) ++ behind' → ⊥
later kind front behind front' behind' c z h sound split whole = by_kind kind h where
  goes : Begins IsWithin (front ++ c ∷ [])
  goes = begins_shorter IsWithin (front ++ c ∷ []) z (subst (Begins IsWithin) (split ∙ sym (append_assoc front (c ∷ []) z)) sound.begins)

  by_kind : (kind : FaultKind) → IsFaultAt kind front behind → ⊥
  by_kind Unsupported h = sound.lower front c z split (inl (subst (IsLeftOut front) whole h.1))
  by_kind TooLarge h = large_not front behind c (z ++ behind') h.2 whole (few_of (front ++ c ∷ []) goes)
  by_kind TooDeep h = deep_not front behind c (z ++ behind') h.2 whole (flat_of (front ++ c ∷ []) goes)
  by_kind Syntax h = elim h.2 [
    | inl stops ↦ stops_not front behind c (z ++ behind') stops whole (form_of (front ++ c ∷ []) goes)
    | inr f ↦ sound.lower front c z split (inr (subst (IsFalling front) whole f))
  ]

-- ---- no two at one byte

-- a range that falls begins with a byte with which a tree within the limits goes on
falls_on : (front behind : List ℕ) (b : ℕ) (rest : List ℕ) → IsFalling front behind → behind ≡ b ∷ rest → Begins IsWithin (front ++ b ∷ [])
falls_on front behind b rest f e = range_head front f.first f.last b rest f.rest (sym e ∙ f.whole) f.form

large_deep : (front behind : List ℕ) → IsTooLarge front behind → IsTooDeep front behind → ⊥
large_deep front behind h k = large_not front behind 40 k.rest h k.whole k.few

large_syntax : (front behind : List ℕ) → IsTooLarge front behind → Stops front behind ⊎ IsFalling front behind → ⊥
large_syntax front behind h = elim [
  | inl stops ↦ stops_not front behind h.next h.rest stops h.whole h.form
  | inr f ↦ large_not front behind h.next h.rest h h.whole (few_of (front ++ h.next ∷ []) (falls_on front behind h.next h.rest f h.whole))
]

deep_syntax : (front behind : List ℕ) → IsTooDeep front behind → Stops front behind ⊎ IsFalling front behind → ⊥
deep_syntax front behind h = elim [
  | inl stops ↦ stops_not front behind 40 h.rest stops h.whole (form_from_few (front ++ 40 ∷ []) h.few)
  | inr f ↦ deep_not front behind 40 h.rest h h.whole (flat_of (front ++ 40 ∷ []) (falls_on front behind 40 h.rest f h.whole))
]

same_kind : (kind kind' : FaultKind) (front behind : List ℕ) → IsFaultAt kind front behind → IsFaultAt kind' front behind → kind ≡ kind'
same_kind Unsupported Unsupported front behind h k = refl
same_kind Unsupported TooLarge front behind h k = absurd (k.1 h.1)
same_kind Unsupported TooDeep front behind h k = absurd (k.1 h.1)
same_kind Unsupported Syntax front behind h k = absurd (k.1 h.1)
same_kind TooLarge Unsupported front behind h k = absurd (h.1 k.1)
same_kind TooLarge TooLarge front behind h k = refl
same_kind TooLarge TooDeep front behind h k = absurd (large_deep front behind h.2 k.2)
same_kind TooLarge Syntax front behind h k = absurd (large_syntax front behind h.2 k.2)
same_kind TooDeep Unsupported front behind h k = absurd (h.1 k.1)
same_kind TooDeep TooLarge front behind h k = absurd (large_deep front behind k.2 h.2)
same_kind TooDeep TooDeep front behind h k = refl
same_kind TooDeep Syntax front behind h k = absurd (deep_syntax front behind h.2 k.2)
same_kind Syntax Unsupported front behind h k = absurd (h.1 k.1)
same_kind Syntax TooLarge front behind h k = absurd (large_syntax front behind k.2 h.2)
same_kind Syntax TooDeep front behind h k = absurd (deep_syntax front behind k.2 h.2)
same_kind Syntax Syntax front behind h k = refl

same_fault : (kind kind' : FaultKind) (text : List ℕ) (n n' : ℕ) → IsFaultIn kind text n → IsFaultIn kind' text n' → fault_named kind n ≡ fault_named kind' n'
same_fault kind kind' text n n' h h' =
    elim (overlap (take n text) (drop n text) (take n' text) (drop n' text) (take-append-drop n text ∙ sym (take-append-drop n' text))) [
      | inl o ↦ by_more o.0 o.1 o.2
      | inr o ↦ by_less o.0 o.1 o.2
    ] where
      at_one : take n text ≡ take n' text → drop n text ≡ drop n' text → fault_named kind n ≡ fault_named kind' n'
      at_one front behind =
          let there = subst (IsFaultAt kind' (take n text)) (sym behind) (subst (λ t. IsFaultAt kind' t (drop n' text)) (sym front) h'.1) in
          let place : n ≡ n' = sym (length-take-le n text h.0) ∙ ap length front ∙ length-take-le n' text h'.0 in
          ap (λ k. fault_named k n) (same_kind kind kind' (take n text) (drop n text) h.1 there) ∙ ap (fault_named kind') place

      by_more : (z : List ℕ) → take n text ≡ take n' text ++ z → drop n' text ≡ z ++ drop n text → fault_named kind n ≡ fault_named kind' n'
      by_more [] front behind = at_one (front ∙ append-nil (take n' text)) (sym behind)
      by_more (c ∷ z) front behind = absurd (later kind' (take n' text) (drop n' text) (take n text) (drop n text) c z h'.1 (sound_of kind (take n text) (drop n text) h.1) front behind)

      by_less : (z : List ℕ) → take n' text ≡ take n text ++ z → drop n text ≡ z ++ drop n' text → fault_named kind n ≡ fault_named kind' n'
      by_less [] front behind = at_one (sym (front ∙ append-nil (take n text))) behind
      by_less (c ∷ z) front behind = absurd (later kind (take n text) (drop n text) (take n' text) (drop n' text) c z h.1 (sound_of kind' (take n' text) (drop n' text) h'.1) front behind)

-- ---- no fault of a pattern

spelled_begins : (Is : Choice → Type 0) (tree : Choice) (front part rest : List ℕ) → Is tree → front ++ (part ++ rest) ≡ choice_spelling tree → Begins Is (front ++ part)
spelled_begins Is tree front part rest such spelled = record { tree = tree; rest = rest; such = such; spelled = append_assoc front part rest ∙ spelled }

never_pattern : (kind : FaultKind) (tree : Choice) (front behind : List ℕ) → IsFaultAt kind front behind → IsSpelled tree (front ++ behind) → ⊥
never_pattern Unsupported tree front behind h s =
    h.1.refused (spelled_begins IsForm tree front h.1.part h.1.rest (choice_form tree s.pattern.written) (ap (λ t. front ++ t) (sym h.1.whole) ∙ s.spelled))
never_pattern TooLarge tree front behind h s =
    h.2.many (spelled_begins HasFewNodes tree front (h.2.next ∷ []) h.2.rest (choice_form tree s.pattern.written, s.pattern.few_nodes) (ap (λ t. front ++ t) (sym h.2.whole) ∙ s.spelled))
never_pattern TooDeep tree front behind h s =
    h.2.deep (spelled_begins HasFewGroups tree front (40 ∷ []) h.2.rest (choice_form tree s.pattern.written, s.pattern.few_groups) (ap (λ t. front ++ t) (sym h.2.whole) ∙ s.spelled))
never_pattern Syntax tree front behind h s = elim h.2 [
  | inl stops ↦ by_rest behind stops s.spelled
  | inr f ↦ f.refused (spelled_begins IsRising tree front (item_spelling (Range f.first f.last)) f.rest s.pattern.written (ap (λ t. front ++ t) (sym f.whole) ∙ s.spelled))
] where
  by_rest : (behind : List ℕ) → Stops front behind → front ++ behind ≡ choice_spelling tree → ⊥
  by_rest [] stops spelled = stops tree (choice_form tree s.pattern.written) (sym (append-nil front) ∙ spelled)
  by_rest (b ∷ behind) stops spelled = stops (spelled_begins IsForm tree front (b ∷ []) behind (choice_form tree s.pattern.written) spelled)

-- ---- the laws

record Named (text : List ℕ) (fault : PatternFault) : Type 0 where
  pub kind : FaultKind
  pub place : ℕ
  pub named : fault ≡ fault_named kind place
  pub there : IsFaultIn kind text place

named_from : (text : List ℕ) (fault : PatternFault) → IsPlaced text fault → Named text fault
named_from text faults.Memory h = absurd h
named_from text (faults.Syntax n) h = record { kind = Syntax; place = n; named = refl; there = h }
named_from text (faults.Unsupported n) h = record { kind = Unsupported; place = n; named = refl; there = h }
named_from text (faults.TooLarge n) h = record { kind = TooLarge; place = n; named = refl; there = h }
named_from text (faults.TooDeep n) h = record { kind = TooDeep; place = n; named = refl; there = h }

one_fault : (text : List ℕ) (fault fault' : PatternFault) → IsPlaced text fault → IsPlaced text fault' → fault ≡ fault'
one_fault text fault fault' h h' =
    let n = named_from text fault h in
    let n' = named_from text fault' h' in
    n.named ∙ same_fault n.kind n'.kind text n.place n'.place n.there n'.there ∙ sym n'.named

pattern_not_placed : (text : List ℕ) (tree : Choice) (fault : PatternFault) → IsSpelled tree text → IsPlaced text fault → ⊥
pattern_not_placed text tree fault s h =
    let n = named_from text fault h in
    never_pattern n.kind tree (take n.place text) (drop n.place text) n.there.1 (subst (IsSpelled tree) (sym (take-append-drop n.place text)) s)

placed_first : (text : List ℕ) (fault : PatternFault) → IsPlaced text fault → first_fault text ≡ Some fault
unfolding first_fault
placed_first text fault h = by_read (reading text) (reading_found text) refl where
  by_read : (r : Result Choice Fault) → IfOk r (λ tree. IsSpelled tree text) → reading text ≡ r → fault_or_none text r ≡ Some fault
  by_read (Ok tree) found e = absurd (pattern_not_placed text tree fault found h)
  by_read (Err f) found e =
      let first : first_fault text ≡ Some (placed text f) = ap (fault_or_none text) e in
      ap Some (one_fault text (placed text f) fault (fault_placed text (placed text f) first) h)

pub placed_exactly : (text : List ℕ) (fault : PatternFault) → (first_fault text ≡ Some fault ↔ IsPlaced text fault)
placed_exactly text fault = (fault_placed text fault, placed_first text fault)

-- a first fault has its place, unless memory ran out
pub first_placed : (text : List ℕ) (fault : PatternFault) → IsFirstFault text fault → (fault ≡ faults.Memory) ⊎ IsPlaced text fault
first_placed text faults.Memory h = inl refl
first_placed text (faults.Syntax n) h = inr (fault_placed text (faults.Syntax n) h)
first_placed text (faults.Unsupported n) h = inr (fault_placed text (faults.Unsupported n) h)
first_placed text (faults.TooLarge n) h = inr (fault_placed text (faults.TooLarge n) h)
first_placed text (faults.TooDeep n) h = inr (fault_placed text (faults.TooDeep n) h)
