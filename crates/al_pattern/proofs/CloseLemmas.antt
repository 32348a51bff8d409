-- What was read is completed to a pattern by closing its groups.
use Rattle.std.proofs.Common.{◌≡◌, ◌≤◌, ◌+◌, ℕ, Bool, true, false, not, ◌&&◌, ◌||◌, inl, inr, List, [], ◌∷◌, ◌++◌, length, max, refl, ap, sym, ◌∙◌, append_assoc, arith}
use Rattle.std.proofs.lemmas.List.{append-nil}
use Rattle.al_pattern.specs.declared.letter.Item.{Item}
use Rattle.al_pattern.specs.declared.token.Quantifier.{Quantifier}
use Rattle.al_pattern.specs.declared.token.Quantifier.TheVariants.{Once}
use Rattle.al_pattern.specs.Tests.{Test, letter, dot, digit, space, class, test_spelling, is_hyphen, is_item, are_items_after, are_items, begins_negated, is_test}
use Rattle.al_pattern.specs.Trees.{Choice, single, either, Branch, nothing, followed, Atom, character, group, quantifier_spelling, quantifier_nodes, choice_spelling, atom_spelling, choice_nodes, atom_nodes, choice_depth, atom_depth, is_choice, is_branch, is_atom}
use Rattle.al_pattern.specs.Reading.{with_atom}
use Rattle.al_pattern.specs.Places.{is_item_form, are_item_forms, is_test_form, is_form, is_branch_form, is_atom_form, IsForm, IsRising, HasFewNodes, IsWithin, Begins}
use Rattle.al_pattern.proofs.CutLemmas.{and_true, true_and, or_true, or_left, or_right}
use Rattle.al_pattern.proofs.GrammarLemmas.{choice_spelling-with_atom, choice_nodes-with_atom, depth_with_atom, written_with_atom, outer_spelling, outer_nodes, AreOuter, IsProgress}
use Rattle.al_pattern.proofs.ScanLemmas.{item_is_form}

-- ---- what may be written is in the grammar without its limits

pub forms_from : (is_first : Bool) (items : List Item) → are_items_after is_first items ≡ true → are_item_forms is_first items ≡ true
forms_from is_first [] e = e
forms_from is_first (item ∷ []) e = elim (or_true (is_item item) (is_hyphen item) e) [
  | inl h ↦ or_left (is_item_form item) (is_hyphen item) (item_is_form item h)
  | inr h ↦ or_right (is_item_form item) (is_hyphen item) h
]
forms_from is_first (item ∷ next ∷ items) e =
    let both = and_true (is_item item || (is_hyphen item && is_first)) (are_items_after false (next ∷ items)) e in
    true_and (is_item_form item || (is_hyphen item && is_first)) (are_item_forms false (next ∷ items))
    (elim (or_true (is_item item) (is_hyphen item && is_first) both.0) [
      | inl h ↦ or_left (is_item_form item) (is_hyphen item && is_first) (item_is_form item h)
      | inr h ↦ or_right (is_item_form item) (is_hyphen item && is_first) h
    ])
    (forms_from false (next ∷ items) both.1)

pub test_form : (t : Test) → is_test t ≡ true → is_test_form t ≡ true
unfolding is_test
test_form (letter l) e = e
test_form dot e = refl
test_form digit e = refl
test_form space e = refl
test_form (class negated items) e =
    let both = and_true (are_items items) (negated || not (begins_negated items)) e in
    true_and (are_item_forms true items) (negated || not (begins_negated items)) (forms_from true items both.0) both.1

mutual
  pub choice_form : (x : Choice) → is_choice x ≡ true → is_form x ≡ true
  choice_form (single b) e = branch_form b e
  choice_form (either x b) e =
      let both = and_true (is_choice x) (is_branch b) e in
      true_and (is_form x) (is_branch_form b) (choice_form x both.0) (branch_form b both.1)

  branch_form : (b : Branch) → is_branch b ≡ true → is_branch_form b ≡ true
  branch_form nothing e = refl
  branch_form (followed b a q) e =
      let both = and_true (is_branch b) (is_atom a) e in
      true_and (is_branch_form b) (is_atom_form a) (branch_form b both.0) (atom_form a both.1)

  atom_form : (a : Atom) → is_atom a ≡ true → is_atom_form a ≡ true
  atom_form (character t) e = test_form t e
  atom_form (group x) e = choice_form x e

form_with_atom : (x : Choice) (a : Atom) (q : Quantifier) → is_form x ≡ true → is_atom_form a ≡ true → is_form (with_atom x a q) ≡ true
form_with_atom (single b) a q h k = true_and (is_branch_form b) (is_atom_form a) h k
form_with_atom (either x b) a q h k =
    let both = and_true (is_form x) (is_branch_form b) h in
    true_and (is_form x) (is_branch_form b && is_atom_form a) both.0 (true_and (is_branch_form b) (is_atom_form a) both.1 k)

-- ---- closing the groups

abbrev pub closed_tree : Choice → List Choice → Choice
closed_tree top [] = top
closed_tree top (around ∷ outer) = closed_tree (with_atom around (group top) Once) outer

abbrev pub closers : List Choice → List ℕ
closers [] = []
closers (around ∷ outer) = 41 ∷ closers outer

pub closed_spelling : (top : Choice) (outer : List Choice) → (outer_spelling outer ++ choice_spelling top) ++ closers outer ≡ choice_spelling (closed_tree top outer)
closed_spelling top [] = append-nil (choice_spelling top)
closed_spelling top (around ∷ outer) =
    let whole = closed_spelling (with_atom around (group top) Once) outer in
    let inner : choice_spelling (with_atom around (group top) Once) ≡ choice_spelling around ++ (40 ∷ (choice_spelling top ++ 41 ∷ [])) =
    choice_spelling-with_atom around (group top) Once ∙ ap (λ t. choice_spelling around ++ t) (append-nil (40 ∷ (choice_spelling top ++ 41 ∷ []))) in
    let regroup : ((outer_spelling outer ++ (choice_spelling around ++ 40 ∷ [])) ++ choice_spelling top) ++ 41 ∷ closers outer
    ≡ (outer_spelling outer ++ (choice_spelling around ++ (40 ∷ (choice_spelling top ++ 41 ∷ [])))) ++ closers outer = simp append_assoc in
    regroup ∙ ap (λ t. (outer_spelling outer ++ t) ++ closers outer) (sym inner) ∙ whole

closed_form : (top : Choice) (outer : List Choice) → is_form top ≡ true → AreOuter outer → is_form (closed_tree top outer) ≡ true
closed_form top [] e around = e
closed_form top (x ∷ outer) e around = closed_form (with_atom x (group top) Once) outer (form_with_atom x (group top) Once (choice_form x around.0) e) around.2

closed_rising : (top : Choice) (outer : List Choice) → is_choice top ≡ true → AreOuter outer → is_choice (closed_tree top outer) ≡ true
closed_rising top [] e around = e
closed_rising top (x ∷ outer) e around = closed_rising (with_atom x (group top) Once) outer (written_with_atom x (group top) Once around.0 e) around.2

closed_nodes : (top : Choice) (outer : List Choice) → choice_nodes (closed_tree top outer) ≡ outer_nodes outer + choice_nodes top
closed_nodes top [] = omega arith
closed_nodes top (x ∷ outer) = omega (arith, closed_nodes (with_atom x (group top) Once) outer, choice_nodes-with_atom x (group top) Once)

closed_depth : (top : Choice) (outer : List Choice) → choice_depth top + length outer ≤ 16 → AreOuter outer → choice_depth (closed_tree top outer) ≤ 16
closed_depth top [] deep around = omega arith
closed_depth top (x ∷ outer) deep around =
    let k : choice_depth (with_atom x (group top) Once) ≤ max (choice_depth x) (atom_depth (group top)) =
    depth_with_atom x (group top) Once (max (choice_depth x) (atom_depth (group top))) (omega arith) (omega arith) in
    closed_depth (with_atom x (group top) Once) outer (omega (arith, k, around.1, deep)) around.2

-- ---- what begins patterns

pub begins_shorter : (Is : Choice → Type 0) (front more : List ℕ) → Begins Is (front ++ more) → Begins Is front
begins_shorter Is front more b = record { tree = b.tree; rest = more ++ b.rest; such = b.such; spelled = sym (append_assoc front more b.rest) ∙ b.spelled }

abbrev pub read_spelling : Choice → List Choice → List ℕ
read_spelling top outer = outer_spelling outer ++ choice_spelling top

pub progress_within : (top : Choice) (outer : List Choice) (n : ℕ) → IsProgress top outer n → Begins IsWithin (read_spelling top outer)
progress_within top outer n p = record {
  tree = closed_tree top outer;
  rest = closers outer;
  such = (closed_form top outer (choice_form top p.written) p.around, omega (arith, closed_nodes top outer, p.count, p.few), closed_depth top outer p.deep p.around);
  spelled = closed_spelling top outer;
}

pub progress_rising : (top : Choice) (outer : List Choice) (n : ℕ) → IsProgress top outer n → Begins IsRising (read_spelling top outer)
progress_rising top outer n p = record {
  tree = closed_tree top outer;
  rest = closers outer;
  such = closed_rising top outer p.written p.around;
  spelled = closed_spelling top outer;
}

-- one atom more
abbrev more_spelling : Atom → Quantifier → List ℕ
more_spelling a q = atom_spelling a ++ quantifier_spelling q

more_spelled : (top : Choice) (outer : List Choice) (a : Atom) (q : Quantifier)
    → (read_spelling top outer ++ more_spelling a q) ++ closers outer ≡ choice_spelling (closed_tree (with_atom top a q) outer)
more_spelled top outer a q =
    ap (λ t. t ++ closers outer) (append_assoc (outer_spelling outer) (choice_spelling top) (more_spelling a q) ∙ ap (λ t. outer_spelling outer ++ t) (sym (choice_spelling-with_atom top a q)))
    ∙ closed_spelling (with_atom top a q) outer

pub more_form : (top : Choice) (outer : List Choice) (n : ℕ) (a : Atom) (q : Quantifier) → IsProgress top outer n → is_atom_form a ≡ true → Begins IsForm (read_spelling top outer ++ more_spelling a q)
more_form top outer n a q p e = record {
  tree = closed_tree (with_atom top a q) outer;
  rest = closers outer;
  such = closed_form (with_atom top a q) outer (form_with_atom top a q (choice_form top p.written) e) p.around;
  spelled = more_spelled top outer a q;
}

pub more_few : (top : Choice) (outer : List Choice) (n : ℕ) (a : Atom) (q : Quantifier) → IsProgress top outer n → is_atom_form a ≡ true → n + (atom_nodes a + quantifier_nodes q) ≤ 256
    → Begins HasFewNodes (read_spelling top outer ++ more_spelling a q)
more_few top outer n a q p e few = record {
  tree = closed_tree (with_atom top a q) outer;
  rest = closers outer;
  such = (
    closed_form (with_atom top a q) outer (form_with_atom top a q (choice_form top p.written) e) p.around,
    omega (arith, closed_nodes (with_atom top a q) outer, choice_nodes-with_atom top a q, p.count, few),
  );
  spelled = more_spelled top outer a q;
}

pub more_within : (top : Choice) (outer : List Choice) (n : ℕ) (t : Test) → IsProgress top outer n → is_test_form t ≡ true → n + 1 ≤ 256
    → Begins IsWithin (read_spelling top outer ++ test_spelling t)
more_within top outer n t p e few = record {
  tree = closed_tree (with_atom top (character t) Once) outer;
  rest = closers outer;
  such = (
    closed_form (with_atom top (character t) Once) outer (form_with_atom top (character t) Once (choice_form top p.written) e) p.around,
    omega (arith, closed_nodes (with_atom top (character t) Once) outer, choice_nodes-with_atom top (character t) Once, p.count, few),
    (let k = depth_with_atom top (character t) Once (choice_depth top) (omega arith) (omega arith) in
        closed_depth (with_atom top (character t) Once) outer (omega (arith, k, p.deep)) p.around),
  );
  spelled = ap (λ s. (read_spelling top outer ++ s) ++ closers outer) (sym (append-nil (test_spelling t))) ∙ more_spelled top outer (character t) Once;
}

pub more_rising : (top : Choice) (outer : List Choice) (n : ℕ) (t : Test) → IsProgress top outer n → is_test t ≡ true → Begins IsRising (read_spelling top outer ++ test_spelling t)
more_rising top outer n t p e = record {
  tree = closed_tree (with_atom top (character t) Once) outer;
  rest = closers outer;
  such = closed_rising (with_atom top (character t) Once) outer (written_with_atom top (character t) Once p.written e) p.around;
  spelled = ap (λ s. (read_spelling top outer ++ s) ++ closers outer) (sym (append-nil (test_spelling t))) ∙ more_spelled top outer (character t) Once;
}

pub bar_form : (top : Choice) (outer : List Choice) (n : ℕ) → IsProgress top outer n → Begins IsForm (read_spelling top outer ++ 124 ∷ [])
bar_form top outer n p = record {
  tree = closed_tree (either top nothing) outer;
  rest = closers outer;
  such = closed_form (either top nothing) outer (true_and (is_form top) true (choice_form top p.written) refl) p.around;
  spelled = ap (λ t. t ++ closers outer) (append_assoc (outer_spelling outer) (choice_spelling top) (124 ∷ [])) ∙ closed_spelling (either top nothing) outer;
}

-- a quantifier behind a group that is closed
pub closed_more : (top x : Choice) (outer : List Choice) (n : ℕ) (q : Quantifier) → IsProgress top (x ∷ outer) n
    → Begins IsForm ((read_spelling top (x ∷ outer) ++ 41 ∷ []) ++ quantifier_spelling q)
closed_more top x outer n q p = record {
  tree = closed_tree (with_atom x (group top) q) outer;
  rest = closers outer;
  such = closed_form (with_atom x (group top) q) outer (form_with_atom x (group top) q (choice_form x p.around.0) (choice_form top p.written)) p.around.2;
  spelled =
      let regroup : (((outer_spelling outer ++ (choice_spelling x ++ 40 ∷ [])) ++ choice_spelling top) ++ 41 ∷ []) ++ quantifier_spelling q
      ≡ read_spelling x outer ++ more_spelling (group top) q = simp append_assoc in
      ap (λ t. t ++ closers outer) regroup ∙ more_spelled x outer (group top) q;
}

-- the innermost group closed
pub closed_within : (top x : Choice) (outer : List Choice) (n : ℕ) → IsProgress top (x ∷ outer) n → Begins IsWithin (read_spelling top (x ∷ outer) ++ 41 ∷ [])
closed_within top x outer n p = record {
  tree = closed_tree top (x ∷ outer);
  rest = closers outer;
  such = (closed_form top (x ∷ outer) (choice_form top p.written) p.around, omega (arith, closed_nodes top (x ∷ outer), p.count, p.few), closed_depth top (x ∷ outer) p.deep p.around);
  spelled = append_assoc (read_spelling top (x ∷ outer)) (41 ∷ []) (closers outer) ∙ closed_spelling top (x ∷ outer);
}

pub closed_rises : (top x : Choice) (outer : List Choice) (n : ℕ) → IsProgress top (x ∷ outer) n → Begins IsRising (read_spelling top (x ∷ outer) ++ 41 ∷ [])
closed_rises top x outer n p = record {
  tree = closed_tree top (x ∷ outer);
  rest = closers outer;
  such = closed_rising top (x ∷ outer) p.written p.around;
  spelled = append_assoc (read_spelling top (x ∷ outer)) (41 ∷ []) (closers outer) ∙ closed_spelling top (x ∷ outer);
}
