-- The walk takes the language: marks stand for what may still come.
use Rattle.std.proofs.Common.{◌≡◌, ℕ, Bool, true, false, ◌&&◌, ◌||◌, ◌⊎◌, inl, inr, List, [], ◌∷◌, refl, ap, subst}
use Rattle.al_pattern.specs.declared.token.Quantifier.{Quantifier}
use Rattle.al_pattern.specs.Tests.{is_allowed}
use Rattle.al_pattern.specs.Trees.{Choice, single, either, Branch, nothing, followed, Atom, character, group}
use Rattle.al_pattern.specs.Language.{IsQuantified, IsInLanguage, IsInBranch, IsInAtom}
use Rattle.al_pattern.specs.Walk.{may_skip, may_repeat}
use Rattle.al_pattern.proofs.Marks.{ChoiceMarks, BranchMarks, AtomMarks, choice_nullable, branch_nullable, atom_nullable, choice_final, branch_final, atom_final, choice_shift, branch_shift, atom_shift, CompletesChoice, CompletesBranch, CompletesAtom}
use Rattle.al_pattern.proofs.CutLemmas.{cut, nil_cut, or_true, or_left, or_right, and_true, true_and, after_nil, quantified_nil, nil_quantified, Moves, Ends, piece_moves}

piece_on : (q : Quantifier) (Takes : List ℕ → Type 0) (nullable : Bool) → (nullable ≡ true → Takes []) → (nullable || may_skip q) ≡ true → IsQuantified q Takes []
piece_on q Takes nullable taken e = elim (or_true nullable (may_skip q) e) [
  | inl h ↦ quantified_nil q Takes (inl (taken h))
  | inr h ↦ quantified_nil q Takes (inr h)
]

piece_back : (q : Quantifier) (Takes : List ℕ → Type 0) (nullable : Bool) → (Takes [] → nullable ≡ true) → IsQuantified q Takes [] → (nullable || may_skip q) ≡ true
piece_back q Takes nullable taken h = elim (nil_quantified q Takes h) [
  | inl t ↦ or_left nullable (may_skip q) (taken t)
  | inr s ↦ or_right nullable (may_skip q) s
]

-- ---- the empty list

mutual
  pub choice_nil : (x : Choice) → choice_nullable x ≡ true → IsInLanguage x []
  choice_nil (single b) e = (branch_nil true b e).1
  choice_nil (either x b) e = elim (or_true (choice_nullable x) (branch_nullable true b) e) [
    | inl h ↦ inl (choice_nil x h)
    | inr h ↦ inr (branch_nil true b h).1
  ]

  pub branch_nil : (before : Bool) (b : Branch) → branch_nullable before b ≡ true → (before ≡ true) × IsInBranch b []
  branch_nil before nothing e = (e, refl)
  branch_nil before (followed b a q) e =
      let both = and_true (branch_nullable before b) (atom_nullable a || may_skip q) e in
      let front = branch_nil before b both.0 in
      (front.0, ([], [], refl, front.1, piece_on q (λ t. IsInAtom a t) (atom_nullable a) (λ h. atom_nil a h) both.1))

  pub atom_nil : (a : Atom) → atom_nullable a ≡ true → IsInAtom a []
  atom_nil (character t) e = absurd (cc)
  atom_nil (group x) e = choice_nil x e

mutual
  pub nil_choice : (x : Choice) → IsInLanguage x [] → choice_nullable x ≡ true
  nil_choice (single b) h = nil_branch true b refl h
  nil_choice (either x b) h = elim h [
    | inl k ↦ or_left (choice_nullable x) (branch_nullable true b) (nil_choice x k)
    | inr k ↦ or_right (choice_nullable x) (branch_nullable true b) (nil_branch true b refl k)
  ]

  pub nil_branch : (before : Bool) (b : Branch) → before ≡ true → IsInBranch b [] → branch_nullable before b ≡ true
  nil_branch before nothing e h = e
  nil_branch before (followed b a q) e h =
      let nils = nil_cut h.0 h.1 h.2 in
      true_and (branch_nullable before b) (atom_nullable a || may_skip q)
      (nil_branch before b e (subst (λ t. IsInBranch b t) nils.0 h.3))
      (piece_back q (λ t. IsInAtom a t) (atom_nullable a) (λ k. nil_atom a k) (subst (λ t. IsQuantified q (λ u. IsInAtom a u) t) nils.1 h.4))

  pub nil_atom : (a : Atom) → IsInAtom a [] → atom_nullable a ≡ true
  nil_atom (character t) h = absurd (let e = h.1 in cc)
  nil_atom (group x) h = nil_choice x h

-- ---- a mark at the end of a part says that it may be complete

mutual
  pub choice_ends : (x : Choice) (m : ChoiceMarks x) → choice_final x m ≡ true → CompletesChoice x m []
  choice_ends (single b) m e = elim (branch_ends false b m e) [ inl h ↦ absurd (let k = h.0 in cc) | inr h ↦ h ]
  choice_ends (either x b) m e = elim (or_true (choice_final x m.0) (branch_final false b m.1) e) [
    | inl h ↦ inl (choice_ends x m.0 h)
    | inr h ↦ inr (elim (branch_ends false b m.1 h) [ inl k ↦ absurd (let z = k.0 in cc) | inr k ↦ k ])
  ]

  pub branch_ends : (before : Bool) (b : Branch) (m : BranchMarks b) → branch_final before b m ≡ true → ((before ≡ true) × IsInBranch b []) ⊎ CompletesBranch b m []
  branch_ends before nothing m e = inl (e, refl)
  branch_ends before (followed b a q) m e = elim (or_true (atom_final a m.1) (branch_final before b m.0 && (atom_nullable a || may_skip q)) e) [
    | inl h ↦ inr (inr ([], [], refl, atom_ends a m.1 h, after_nil q (λ t. IsInAtom a t)))
    | inr h ↦
        let both = and_true (branch_final before b m.0) (atom_nullable a || may_skip q) h in
        let piece = piece_on q (λ t. IsInAtom a t) (atom_nullable a) (λ k. atom_nil a k) both.1 in
        elim (branch_ends before b m.0 both.0) [
          | inl k ↦ inl (k.0, ([], [], refl, k.1, piece))
          | inr k ↦ inr (inl ([], [], refl, k, piece))
        ]
  ]

  pub atom_ends : (a : Atom) (m : AtomMarks a) → atom_final a m ≡ true → CompletesAtom a m []
  atom_ends (character t) m e = (e, refl)
  atom_ends (group x) m e = choice_ends x m e

mutual
  pub ends_choice : (x : Choice) (m : ChoiceMarks x) → CompletesChoice x m [] → choice_final x m ≡ true
  ends_choice (single b) m h = ends_branch false b m (inr h)
  ends_choice (either x b) m h = elim h [
    | inl k ↦ or_left (choice_final x m.0) (branch_final false b m.1) (ends_choice x m.0 k)
    | inr k ↦ or_right (choice_final x m.0) (branch_final false b m.1) (ends_branch false b m.1 (inr k))
  ]

  pub ends_branch : (before : Bool) (b : Branch) (m : BranchMarks b) → ((before ≡ true) × IsInBranch b []) ⊎ CompletesBranch b m [] → branch_final before b m ≡ true
  ends_branch before nothing m h = elim h [ inl k ↦ k.0 | inr k ↦ absurd k ]
  ends_branch before (followed b a q) m h =
      let behind : branch_final before b m.0 ≡ true → (back : List ℕ) → back ≡ [] → IsQuantified q (λ t. IsInAtom a t) back
      → (atom_final a m.1 || (branch_final before b m.0 && (atom_nullable a || may_skip q))) ≡ true =
      λ front back nil piece. or_right (atom_final a m.1) (branch_final before b m.0 && (atom_nullable a || may_skip q))
      (true_and (branch_final before b m.0) (atom_nullable a || may_skip q) front
      (piece_back q (λ t. IsInAtom a t) (atom_nullable a) (λ k. nil_atom a k) (subst (λ t. IsQuantified q (λ u. IsInAtom a u) t) nil piece))) in
      elim h [
        | inl k ↦ let nils = nil_cut k.1.0 k.1.1 k.1.2 in
            behind (ends_branch before b m.0 (inl (k.0, subst (λ t. IsInBranch b t) nils.0 k.1.3))) k.1.1 nils.1 k.1.4
        | inr k ↦ elim k [
          | inl j ↦ let nils = nil_cut j.0 j.1 j.2 in
              behind (ends_branch before b m.0 (inr (subst (λ t. CompletesBranch b m.0 t) nils.0 j.3))) j.1 nils.1 j.4
          | inr j ↦ let nils = nil_cut j.0 j.1 j.2 in
              or_left (atom_final a m.1) (branch_final before b m.0 && (atom_nullable a || may_skip q)) (ends_atom a m.1 (subst (λ t. CompletesAtom a m.1 t) nils.0 j.3))
        ]
      ]

  pub ends_atom : (a : Atom) (m : AtomMarks a) → CompletesAtom a m [] → atom_final a m ≡ true
  ends_atom (character t) m h = h.0
  ends_atom (group x) m h = ends_choice x m h

-- ---- one character more

mutual
  pub choice_moves : (c : ℕ) (begins : Bool) (x : Choice) (m : ChoiceMarks x)
      → Moves c begins (λ t. IsInLanguage x t) (λ t. CompletesChoice x m t) (λ t. CompletesChoice x (choice_shift begins c x m) t)
  choice_moves c begins (single b) m = branch_moves c begins b m
  choice_moves c begins (either x b) m =
      let first = choice_moves c begins x m.0 in
      let last = branch_moves c begins b m.1 in
      record {
        on = λ text. elim [
          | inl h ↦ elim h.1 [ inl k ↦ inl (first.on text (inl (h.0, k))) | inr k ↦ inr (last.on text (inl (h.0, k))) ]
          | inr h ↦ elim h [ inl k ↦ inl (first.on text (inr k)) | inr k ↦ inr (last.on text (inr k)) ]
        ];
        back = λ text. elim [
          | inl h ↦ elim (first.back text h) [ inl k ↦ inl (k.0, inl k.1) | inr k ↦ inr (inl k) ]
          | inr h ↦ elim (last.back text h) [ inl k ↦ inl (k.0, inr k.1) | inr k ↦ inr (inr k) ]
        ];
      }

  pub branch_moves : (c : ℕ) (begins : Bool) (b : Branch) (m : BranchMarks b)
      → Moves c begins (λ t. IsInBranch b t) (λ t. CompletesBranch b m t) (λ t. CompletesBranch b (branch_shift begins c b m) t)
  branch_moves c begins nothing m = record {
    on = λ text. elim [ inl h ↦ absurd (let e = h.1 in cc) | inr h ↦ absurd h ];
    back = λ text h. absurd h;
  }
  branch_moves c begins (followed b a q) m =
      let enter = branch_final begins b m.0 in
      let first = branch_moves c begins b m.0 in
      let ends : Ends (atom_final a m.1) (λ t. CompletesAtom a m.1 t) = record { on = λ e. atom_ends a m.1 e; back = λ h. ends_atom a m.1 h } in
      let last = piece_moves c q enter (atom_final a m.1) (λ t. IsInAtom a t) (λ t. CompletesAtom a m.1 t)
      (λ t. CompletesAtom a (atom_shift (enter || (may_repeat q && atom_final a m.1)) c a m.1) t)
      (atom_moves c (enter || (may_repeat q && atom_final a m.1)) a m.1) ends in
      record {
        on = λ text. elim [
          | inl h ↦ elim (cut c text h.1.0 h.1.1 h.1.2) [
            | inl k ↦ inr (last.on text (inl (
              ends_branch begins b m.0 (inl (h.0, subst (λ t. IsInBranch b t) k.0 h.1.3)),
              subst (λ t. IsQuantified q (λ u. IsInAtom a u) t) k.1 h.1.4,
            )))
            | inr k ↦ inl (k.0, h.1.1, k.2, first.on k.0 (inl (h.0, subst (λ t. IsInBranch b t) k.1 h.1.3)), h.1.4)
          ]
          | inr h ↦ elim h [
            | inl j ↦ elim (cut c text j.0 j.1 j.2) [
              | inl k ↦ inr (last.on text (inl (
                ends_branch begins b m.0 (inr (subst (λ t. CompletesBranch b m.0 t) k.0 j.3)),
                subst (λ t. IsQuantified q (λ u. IsInAtom a u) t) k.1 j.4,
              )))
              | inr k ↦ inl (k.0, j.1, k.2, first.on k.0 (inr (subst (λ t. CompletesBranch b m.0 t) k.1 j.3)), j.4)
            ]
            | inr j ↦ inr (last.on text (inr j))
          ]
        ];
        back = λ text. elim [
          | inl h ↦ elim (first.back h.0 h.3) [
            | inl k ↦ inl (k.0, (c ∷ h.0, h.1, ap (λ t. c ∷ t) h.2, k.1, h.4))
            | inr k ↦ inr (inl (c ∷ h.0, h.1, ap (λ t. c ∷ t) h.2, k, h.4))
          ]
          | inr h ↦ elim (last.back text h) [
            | inl k ↦ elim (branch_ends begins b m.0 k.0) [
              | inl j ↦ inl (j.0, ([], c ∷ text, refl, j.1, k.1))
              | inr j ↦ inr (inl ([], c ∷ text, refl, j, k.1))
            ]
            | inr k ↦ inr (inr k)
          ]
        ];
      }

  pub atom_moves : (c : ℕ) (begins : Bool) (a : Atom) (m : AtomMarks a)
      → Moves c begins (λ t. IsInAtom a t) (λ t. CompletesAtom a m t) (λ t. CompletesAtom a (atom_shift begins c a m) t)
  atom_moves c begins (character t) m = record {
    on = λ text. elim [
      | inl h ↦ let e = h.1.1 in
          let same : h.1.0 ≡ c = cc in
          let rest : text ≡ [] = cc in
          (true_and begins (is_allowed t c) h.0 (subst (λ n. is_allowed t n ≡ true) same h.1.2), rest)
      | inr h ↦ absurd (let e = h.1 in cc)
    ];
    back = λ text h. let both = and_true begins (is_allowed t c) h.0 in inl (both.0, (c, ap (λ r. c ∷ r) h.1, both.1));
  }
  atom_moves c begins (group x) m = choice_moves c begins x m
