-- The run over the nodes of a tree moves its marks.
use Rattle.std.proofs.Common.{◌≡◌, ◌+◌, ℕ, suc, Bool, true, false, ◌&&◌, ◌||◌, List, [], ◌∷◌, ◌++◌, length, get_or, refl, ap, sym, ◌∙◌, append_assoc, length-append, arith}
use Rattle.std.proofs.lemmas.List.{get_or_at, append-nil}
use Rattle.al_pattern.specs.declared.token.Quantifier.{Quantifier}
use Rattle.al_pattern.specs.declared.walk.Level.{Level}
use Rattle.al_pattern.specs.Tests.{is_allowed}
use Rattle.al_pattern.specs.Trees.{Choice, single, either, Branch, nothing, followed, Atom, character, group}
use Rattle.al_pattern.specs.Walk.{Seen, seen_bar, seen_open, seen_close, seen_test, choice_seen, branch_seen, atom_seen, choice_size, branch_size, atom_size, begun, may_enter, behind_atom, at_bar, has_ended, takes_nothing, may_skip, mark_at, emitted, run}
use Rattle.al_pattern.proofs.WalkLemmas.{prefixed}
use Rattle.al_pattern.proofs.Marks.{ChoiceMarks, BranchMarks, AtomMarks, choice_nullable, branch_nullable, atom_nullable, choice_final, branch_final, atom_final, choice_shift, branch_shift, atom_shift, choice_list, branch_list, atom_list, branch_level, choice_level}

mutual
  pub length-choice_list : (x : Choice) (m : ChoiceMarks x) → length (choice_list x m) ≡ choice_size x
  length-choice_list (single b) m = length-branch_list b m
  length-choice_list (either x b) m =
      omega (arith, length-append (choice_list x m.0) (false ∷ branch_list b m.1), length-choice_list x m.0, length-branch_list b m.1)

  pub length-branch_list : (b : Branch) (m : BranchMarks b) → length (branch_list b m) ≡ branch_size b
  length-branch_list nothing m = refl
  length-branch_list (followed b a q) m =
      omega (arith, length-append (branch_list b m.0) (atom_list a m.1), length-branch_list b m.0, length-atom_list a m.1)

  pub length-atom_list : (a : Atom) (m : AtomMarks a) → length (atom_list a m) ≡ atom_size a
  length-atom_list (character t) m = refl
  length-atom_list (group x) m =
      omega (arith, length-append (choice_list x m) (choice_final x m ∷ []), length-choice_list x m)

-- the level at the end of a group says whether the group ends, and whether it takes nothing
pub has_ended-choice : (begins : Bool) (x : Choice) (olds news : ChoiceMarks x) → has_ended (choice_level begins x olds news) ≡ choice_final x news
has_ended-choice begins (single b) olds news = refl
has_ended-choice begins (either x b) olds news = ap (λ e. e || branch_final false b news.1) (has_ended-choice begins x olds.0 news.0)

pub takes_nothing-choice : (begins : Bool) (x : Choice) (olds news : ChoiceMarks x) → takes_nothing (choice_level begins x olds news) ≡ choice_nullable x
takes_nothing-choice begins (single b) olds news = refl
takes_nothing-choice begins (either x b) olds news = ap (λ e. e || branch_nullable true b) (takes_nothing-choice begins x olds.0 news.0)

start-choice : (begins : Bool) (x : Choice) (olds news : ChoiceMarks x) → (choice_level begins x olds news).start ≡ begins
start-choice begins (single b) olds news = refl
start-choice begins (either x b) olds news = start-choice begins x olds.0 news.0

prefixed-prefixed : (xs ys : List Bool) (end : List Bool × Level) → prefixed xs (prefixed ys end) ≡ prefixed (xs ++ ys) end
prefixed-prefixed xs ys end = ap (λ ns. (ns, end.1)) (sym (append_assoc xs ys end.0))

run_at : (nodes nodes' : List Seen) (olds olds' : List Bool) (l : Level) (around : List Level) → nodes ≡ nodes' → olds ≡ olds' → run nodes olds l around ≡ run nodes' olds' l around
run_at nodes nodes' olds olds' l around e f = ap (λ ns. run ns olds l around) e ∙ ap (λ os. run nodes' os l around) f

run_bar : (nodes : List Seen) (mark : Bool) (olds : List Bool) (l : Level) (around : List Level) → run (seen_bar ∷ nodes) (mark ∷ olds) l around ≡ emitted false (run nodes olds (at_bar l) around)
unfolding run
run_bar nodes mark olds l around = refl

run_test : (allows : Bool) (q : Quantifier) (nodes : List Seen) (mark : Bool) (olds : List Bool) (l : Level) (around : List Level)
    → run (seen_test allows q ∷ nodes) (mark ∷ olds) l around
    ≡ emitted (may_enter l q mark && allows) (run nodes olds (behind_atom l mark (may_enter l q mark && allows) (may_skip q)) around)
unfolding run
run_test allows q nodes mark olds l around = refl

run_open : (q : Quantifier) (inner : ℕ) (nodes : List Seen) (mark : Bool) (olds : List Bool) (l : Level) (around : List Level) (at_end : Bool) → mark_at (inner + 1) (mark ∷ olds) ≡ at_end
    → run (seen_open q inner ∷ nodes) (mark ∷ olds) l around ≡ emitted false (run nodes olds (begun (may_enter l q at_end)) (l ∷ around))
unfolding run
run_open q inner nodes mark olds l around at_end e = ap (λ m. emitted false (run nodes olds (begun (may_enter l q m)) (l ∷ around))) e

run_close : (q : Quantifier) (nodes : List Seen) (mark : Bool) (olds : List Bool) (l outer : Level) (around : List Level) (ends skips : Bool) → has_ended l ≡ ends → takes_nothing l ≡ skips
    → run (seen_close q ∷ nodes) (mark ∷ olds) l (outer ∷ around) ≡ emitted ends (run nodes olds (behind_atom outer mark ends (skips || may_skip q)) around)
unfolding run
run_close q nodes mark olds l outer around ends skips e f =
    ap (λ x. emitted x (run nodes olds (behind_atom outer mark x (takes_nothing l || may_skip q)) around)) e
    ∙ ap (λ x. emitted ends (run nodes olds (behind_atom outer mark ends (x || may_skip q)) around)) f

-- the mark at the end of a group lies behind those inside it
group_mark : (marks : List Bool) (ends : Bool) (olds : List Bool) (size : ℕ) → length marks ≡ size → mark_at (size + 1) (false ∷ ((marks ++ ends ∷ []) ++ olds)) ≡ ends
group_mark marks ends olds size len =
    let up : size + 1 ≡ suc size = omega arith in
    ap (λ n. get_or (false ∷ ((marks ++ ends ∷ []) ++ olds)) n false) up
    ∙ ap (λ ms. get_or ms size false) (append_assoc marks (ends ∷ []) olds)
    ∙ get_or_at marks ends olds false size len

mutual
  pub run-choice : (c : ℕ) (begins : Bool) (x : Choice) (m : ChoiceMarks x) (nodes : List Seen) (olds : List Bool) (around : List Level)
      → run (choice_seen c x ++ nodes) (choice_list x m ++ olds) (begun begins) around
      ≡ prefixed (choice_list x (choice_shift begins c x m)) (run nodes olds (choice_level begins x m (choice_shift begins c x m)) around)
  run-choice c begins (single b) m nodes olds around = run-branch c b m nodes olds (begun begins) around
  run-choice c begins (either x b) m nodes olds around =
      let x' = choice_shift begins c x m.0 in
      let l = choice_level begins x m.0 x' in
      let front = choice_list x x' in
      let nodes' = branch_seen c b ++ nodes in
      let olds' = branch_list b m.1 ++ olds in
      run_at ((choice_seen c x ++ seen_bar ∷ branch_seen c b) ++ nodes) (choice_seen c x ++ (seen_bar ∷ nodes'))
      ((choice_list x m.0 ++ false ∷ branch_list b m.1) ++ olds) (choice_list x m.0 ++ (false ∷ olds')) (begun begins) around
      (append_assoc (choice_seen c x) (seen_bar ∷ branch_seen c b) nodes) (append_assoc (choice_list x m.0) (false ∷ branch_list b m.1) olds)
      ∙ run-choice c begins x m.0 (seen_bar ∷ nodes') (false ∷ olds') around
      ∙ ap (prefixed front) (run_bar nodes' false olds' l around ∙ ap (emitted false) (run-branch c b m.1 nodes olds (at_bar l) around))
      ∙ prefixed-prefixed front (false ∷ branch_list b (branch_shift l.start c b m.1)) (run nodes olds (branch_level (at_bar l) b m.1 (branch_shift l.start c b m.1)) around)
      ∙ ap (λ s. prefixed (front ++ false ∷ branch_list b (branch_shift s c b m.1)) (run nodes olds (branch_level (at_bar l) b m.1 (branch_shift s c b m.1)) around))
      (start-choice begins x m.0 x')

  pub run-branch : (c : ℕ) (b : Branch) (m : BranchMarks b) (nodes : List Seen) (olds : List Bool) (l : Level) (around : List Level)
      → run (branch_seen c b ++ nodes) (branch_list b m ++ olds) l around
      ≡ prefixed (branch_list b (branch_shift l.enter c b m)) (run nodes olds (branch_level l b m (branch_shift l.enter c b m)) around)
  run-branch c nothing m nodes olds l around = refl
  run-branch c (followed b a q) m nodes olds l around =
      let b' = branch_shift l.enter c b m.0 in
      let l' = branch_level l b m.0 b' in
      let a' = atom_shift (may_enter l' q (atom_final a m.1)) c a m.1 in
      run_at ((branch_seen c b ++ atom_seen c a q) ++ nodes) (branch_seen c b ++ (atom_seen c a q ++ nodes))
      ((branch_list b m.0 ++ atom_list a m.1) ++ olds) (branch_list b m.0 ++ (atom_list a m.1 ++ olds)) l around
      (append_assoc (branch_seen c b) (atom_seen c a q) nodes) (append_assoc (branch_list b m.0) (atom_list a m.1) olds)
      ∙ run-branch c b m.0 (atom_seen c a q ++ nodes) (atom_list a m.1 ++ olds) l around
      ∙ ap (prefixed (branch_list b b')) (run-atom c a q m.1 nodes olds l' around)
      ∙ prefixed-prefixed (branch_list b b') (atom_list a a') (run nodes olds (behind_atom l' (atom_final a m.1) (atom_final a a') (atom_nullable a || may_skip q)) around)

  pub run-atom : (c : ℕ) (a : Atom) (q : Quantifier) (m : AtomMarks a) (nodes : List Seen) (olds : List Bool) (l : Level) (around : List Level)
      → run (atom_seen c a q ++ nodes) (atom_list a m ++ olds) l around
      ≡ prefixed (atom_list a (atom_shift (may_enter l q (atom_final a m)) c a m))
      (run nodes olds (behind_atom l (atom_final a m) (atom_final a (atom_shift (may_enter l q (atom_final a m)) c a m)) (atom_nullable a || may_skip q)) around)
  run-atom c (character t) q m nodes olds l around = run_test (is_allowed t c) q nodes m olds l around
  run-atom c (group x) q m nodes olds l around =
      let begins = may_enter l q (choice_final x m) in
      let x' = choice_shift begins c x m in
      let inside = choice_list x x' in
      let l' = choice_level begins x m x' in
      run_open q (choice_size x) ((choice_seen c x ++ seen_close q ∷ []) ++ nodes) false ((choice_list x m ++ choice_final x m ∷ []) ++ olds) l around (choice_final x m)
      (group_mark (choice_list x m) (choice_final x m) olds (choice_size x) (length-choice_list x m))
      ∙ ap (emitted false) (
      run_at ((choice_seen c x ++ seen_close q ∷ []) ++ nodes) (choice_seen c x ++ (seen_close q ∷ nodes))
      ((choice_list x m ++ choice_final x m ∷ []) ++ olds) (choice_list x m ++ (choice_final x m ∷ olds)) (begun begins) (l ∷ around)
      (append_assoc (choice_seen c x) (seen_close q ∷ []) nodes) (append_assoc (choice_list x m) (choice_final x m ∷ []) olds)
      ∙ run-choice c begins x m (seen_close q ∷ nodes) (choice_final x m ∷ olds) (l ∷ around)
      ∙ ap (prefixed inside) (run_close q nodes (choice_final x m) olds l' l around (choice_final x x') (choice_nullable x)
      (has_ended-choice begins x m x') (takes_nothing-choice begins x m x'))
      ∙ prefixed-prefixed inside (choice_final x x' ∷ []) (run nodes olds (behind_atom l (choice_final x m) (choice_final x x') (choice_nullable x || may_skip q)) around))

-- the whole: the marks move, and the level at the end tells
pub run-whole : (c : ℕ) (begins : Bool) (x : Choice) (m : ChoiceMarks x)
    → run (choice_seen c x) (choice_list x m) (begun begins) [] ≡ (choice_list x (choice_shift begins c x m), choice_level begins x m (choice_shift begins c x m))
unfolding run
run-whole c begins x m =
    run_at (choice_seen c x) (choice_seen c x ++ []) (choice_list x m) (choice_list x m ++ []) (begun begins) []
    (sym (append-nil (choice_seen c x))) (sym (append-nil (choice_list x m)))
    ∙ run-choice c begins x m [] [] []
    ∙ ap (λ ms. (ms, choice_level begins x m (choice_shift begins c x m))) (append-nil (choice_list x (choice_shift begins c x m)))
