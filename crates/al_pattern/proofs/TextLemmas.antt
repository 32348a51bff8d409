-- The walk over a whole text.
use Rattle.std.proofs.Common.{◌≡◌, ℕ, zero, suc, Bool, true, false, inl, inr, List, [], ◌∷◌, ◌++◌, get_or, refl, ap, sym, ◌∙◌, subst}
use Rattle.al_pattern.specs.declared.walk.Level.{Level}
use Rattle.al_pattern.specs.Sets.{Holds}
use Rattle.al_pattern.specs.Trees.{Choice, single, either, Branch, nothing, followed, Atom, character, group}
use Rattle.al_pattern.specs.Language.{IsInLanguage}
use Rattle.al_pattern.specs.Walk.{Seen, choice_seen, begun, has_ended, takes_nothing, run, Steps}
use Rattle.al_pattern.proofs.Marks.{ChoiceMarks, choice_blank, branch_blank, atom_blank, choice_nullable, choice_final, choice_shift, choice_list, branch_list, atom_list, choice_level, CompletesChoice, CompletesBranch, CompletesAtom}
use Rattle.al_pattern.proofs.RunLemmas.{run-whole, has_ended-choice, takes_nothing-choice}
use Rattle.al_pattern.proofs.LanguageLemmas.{choice_nil, nil_choice, choice_ends, ends_choice, choice_moves}

-- ---- no marks

mutual
  pub choice_blank_none : (x : Choice) (text : List ℕ) → CompletesChoice x (choice_blank x) text → ⊥
  choice_blank_none (single b) text h = branch_blank_none b text h
  choice_blank_none (either x b) text h = elim h [ inl k ↦ choice_blank_none x text k | inr k ↦ branch_blank_none b text k ]

  branch_blank_none : (b : Branch) (text : List ℕ) → CompletesBranch b (branch_blank b) text → ⊥
  branch_blank_none nothing text h = h
  branch_blank_none (followed b a q) text h = elim h [ inl k ↦ branch_blank_none b k.0 k.3 | inr k ↦ atom_blank_none a k.0 k.3 ]

  atom_blank_none : (a : Atom) (text : List ℕ) → CompletesAtom a (atom_blank a) text → ⊥
  atom_blank_none (character t) text h = let e = h.0 in cc
  atom_blank_none (group x) text h = choice_blank_none x text h

false_unless : (b : Bool) → (b ≡ true → ⊥) → b ≡ false
false_unless true never = absurd (never refl)
false_unless false never = refl

abbrev AllFalse : List Bool → Type 0
AllFalse xs = (n : ℕ) → get_or xs n false ≡ false

false_append : (xs ys : List Bool) → AllFalse xs → AllFalse ys → AllFalse (xs ++ ys)
false_append [] ys f g n = g n
false_append (x ∷ xs) ys f g zero = f zero
false_append (x ∷ xs) ys f g (suc n) = false_append xs ys (λ k. f (suc k)) g n

false_cons : (x : Bool) (xs : List Bool) → x ≡ false → AllFalse xs → AllFalse (x ∷ xs)
false_cons x xs e f zero = e
false_cons x xs e f (suc n) = f n

false_nil : AllFalse []
false_nil n = refl

mutual
  pub choice_blank_list : (x : Choice) → AllFalse (choice_list x (choice_blank x))
  choice_blank_list (single b) = branch_blank_list b
  choice_blank_list (either x b) = false_append (choice_list x (choice_blank x)) (false ∷ branch_list b (branch_blank b))
      (choice_blank_list x) (false_cons false (branch_list b (branch_blank b)) refl (branch_blank_list b))

  branch_blank_list : (b : Branch) → AllFalse (branch_list b (branch_blank b))
  branch_blank_list nothing = false_nil
  branch_blank_list (followed b a q) = false_append (branch_list b (branch_blank b)) (atom_list a (atom_blank a)) (branch_blank_list b) (atom_blank_list a)

  atom_blank_list : (a : Atom) → AllFalse (atom_list a (atom_blank a))
  atom_blank_list (character t) = false_cons false [] refl false_nil
  atom_blank_list (group x) = false_cons false (choice_list x (choice_blank x) ++ choice_final x (choice_blank x) ∷ []) refl
      (false_append (choice_list x (choice_blank x)) (choice_final x (choice_blank x) ∷ []) (choice_blank_list x)
      (false_cons (choice_final x (choice_blank x)) [] (false_unless (choice_final x (choice_blank x)) (λ e. choice_blank_none x [] (choice_ends x (choice_blank x) e))) false_nil))

pub same_verdict : (a b : Bool) → (a ≡ true → b ≡ true) → (b ≡ true → a ≡ true) → a ≡ b
same_verdict true b f g = sym (f refl)
same_verdict false true f g = g refl
same_verdict false false f g = refl

-- ---- the marks after a text

abbrev pub marks_from : Bool → (x : Choice) → ChoiceMarks x → List ℕ → ChoiceMarks x
marks_from begins x m [] = m
marks_from begins x m (c ∷ cs) = marks_from false x (choice_shift begins c x m) cs

-- a pattern begins before the first character alone
abbrev pub begins_at : Bool → List ℕ → Bool
begins_at begins [] = begins
begins_at begins (c ∷ cs) = false

begins_never : (cs : List ℕ) → begins_at false cs ≡ false
begins_never [] = refl
begins_never (c ∷ cs) = refl

pub begins_past : (begins : Bool) (cs : List ℕ) (c : ℕ) → begins_at begins (cs ++ c ∷ []) ≡ false
begins_past begins [] c = refl
begins_past begins (d ∷ cs) c = refl

pub marks_from-push : (begins : Bool) (x : Choice) (m : ChoiceMarks x) (cs : List ℕ) (c : ℕ)
    → marks_from begins x m (cs ++ c ∷ []) ≡ choice_shift (begins_at begins cs) c x (marks_from begins x m cs)
marks_from-push begins x m [] c = refl
marks_from-push begins x m (d ∷ cs) c =
    marks_from-push false x (choice_shift begins d x m) cs c
    ∙ ap (λ b. choice_shift b c x (marks_from false x (choice_shift begins d x m) cs)) (begins_never cs)

-- whether a text was accepted
abbrev pub accepts : Choice → List ℕ → Bool
accepts x [] = choice_nullable x
accepts x (c ∷ cs) = choice_final x (marks_from true x (choice_blank x) (c ∷ cs))

pub accepts-push : (x : Choice) (cs : List ℕ) (c : ℕ) → accepts x (cs ++ c ∷ []) ≡ choice_final x (marks_from true x (choice_blank x) (cs ++ c ∷ []))
accepts-push x [] c = refl
accepts-push x (d ∷ cs) c = refl

completes_on : (x : Choice) (m : ChoiceMarks x) (text : List ℕ) → CompletesChoice x m text → choice_final x (marks_from false x m text) ≡ true
completes_on x m [] h = ends_choice x m h
completes_on x m (c ∷ cs) h = completes_on x (choice_shift false c x m) cs ((choice_moves c false x m).on cs (inr h))

completes_back : (x : Choice) (m : ChoiceMarks x) (text : List ℕ) → choice_final x (marks_from false x m text) ≡ true → CompletesChoice x m text
completes_back x m [] h = choice_ends x m h
completes_back x m (c ∷ cs) h = elim ((choice_moves c false x m).back cs (completes_back x (choice_shift false c x m) cs h)) [
  | inl k ↦ absurd (let e = k.0 in cc)
  | inr k ↦ k
]

pub accepted_on : (x : Choice) (text : List ℕ) → accepts x text ≡ true → IsInLanguage x text
accepted_on x [] h = choice_nil x h
accepted_on x (c ∷ cs) h = elim ((choice_moves c true x (choice_blank x)).back cs (completes_back x (choice_shift true c x (choice_blank x)) cs h)) [
  | inl k ↦ k.1
  | inr k ↦ absurd (choice_blank_none x (c ∷ cs) k)
]

pub accepted_back : (x : Choice) (text : List ℕ) → IsInLanguage x text → accepts x text ≡ true
accepted_back x [] h = nil_choice x h
accepted_back x (c ∷ cs) h = completes_on x (choice_shift true c x (choice_blank x)) cs ((choice_moves c true x (choice_blank x)).on cs (inl (refl, h)))

-- ---- what the loop over the text keeps

pub record Walked (x : Choice) (text : List ℕ) (begins : Bool) (marks : List ℕ) (accepted : Bool) : Type 0 where
  pub begin : begins ≡ begins_at true text
  pub marked : Holds marks (choice_list x (marks_from true x (choice_blank x) text))
  pub verdict : accepted ≡ accepts x text

pub walked_begins : (x : Choice) (marks : List ℕ) (nullable : Bool) → Holds marks [] → nullable ≡ choice_nullable x → Walked x [] true marks nullable
walked_begins x marks nullable none e = record {
  begin = refl;
  marked = λ n. none n ∙ sym (choice_blank_list x n);
  verdict = e;
}

pub walked_more : (x : Choice) (text : List ℕ) (c : ℕ) (begins : Bool) (marks marks' : List ℕ) (accepted : Bool) (nodes : List Seen) (level : Level)
    → Walked x text begins marks accepted → nodes ≡ choice_seen c x → ((olds : List Bool) → Holds marks olds → Steps nodes olds begins marks' level)
    → Walked x (text ++ c ∷ []) false marks' (has_ended level)
walked_more x text c begins marks marks' accepted nodes level w e steps =
    let m = marks_from true x (choice_blank x) text in
    let m' = choice_shift begins c x m in
    let s = steps (choice_list x m) w.marked in
    let ran : run nodes (choice_list x m) (begun begins) [] ≡ (choice_list x m', choice_level begins x m m') =
    ap (λ ns. run ns (choice_list x m) (begun begins) []) e ∙ run-whole c begins x m in
    let moved : m' ≡ marks_from true x (choice_blank x) (text ++ c ∷ []) =
    ap (λ b. choice_shift b c x m) w.begin ∙ sym (marks_from-push true x (choice_blank x) text c) in
    record {
      begin = sym (begins_past true text c);
      marked = subst (λ k. Holds marks' (choice_list x k)) moved (subst (λ r. Holds marks' r.0) ran s.marked);
      verdict = ap has_ended s.last ∙ ap (λ r. has_ended r.1) ran ∙ has_ended-choice begins x m m' ∙ ap (λ k. choice_final x k) moved ∙ sym (accepts-push x text c);
    }

-- what a pattern takes without a character shows in a step with any
pub nullable_shows : (x : Choice) (c : ℕ) (begins : Bool) (marks marks' : List ℕ) (nodes : List Seen) (level : Level)
    → Holds marks [] → nodes ≡ choice_seen c x → ((olds : List Bool) → Holds marks olds → Steps nodes olds begins marks' level)
    → takes_nothing level ≡ choice_nullable x
nullable_shows x c begins marks marks' nodes level none e steps =
    let m = choice_blank x in
    let s = steps (choice_list x m) (λ n. none n ∙ sym (choice_blank_list x n)) in
    let ran : run nodes (choice_list x m) (begun begins) [] ≡ (choice_list x (choice_shift begins c x m), choice_level begins x m (choice_shift begins c x m)) =
    ap (λ ns. run ns (choice_list x m) (begun begins) []) e ∙ run-whole c begins x m in
    ap takes_nothing s.last ∙ ap (λ r. takes_nothing r.1) ran ∙ takes_nothing-choice begins x m (choice_shift begins c x m)
