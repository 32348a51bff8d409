-- One node of the walk.
use Rattle.std.proofs.Common.{◌≡◌, ◌≢◌, ◌<◌, ◌≤◌, ◌==◌, inl, inr, ◌+◌, ◌-◌, ℕ, Bool, true, false, ◌||◌, List, [], ◌∷◌, ◌++◌, length, drop, set, get_or, ap, sym, ◌∙◌, append_assoc, arith}
use Rattle.std.proofs.lemmas.List.{drop-drop, get_or-drop, drop-set, get_or_push, get_or_past, get_or_append_left, length_push, append-nil}
use Rattle.std.proofs.lemmas.Bool.Decides.{eqb_tells, leb_tells}
use Rattle.al_pattern.specs.declared.token.Quantifier.{Quantifier}
use Rattle.al_pattern.specs.declared.walk.Level.{Level}
use Rattle.al_pattern.specs.Sets.{is_in, Holds}
use Rattle.al_pattern.specs.Walk.{Seen, seen_bar, seen_open, begun, may_enter, at_bar, mark_at, emitted, run, Steps}

rest_of : (i : ℕ) (olds : List Bool) → drop 1 (drop i olds) ≡ drop (i + 1) olds
rest_of i olds = drop-drop 1 i olds

mark_is : (old : List ℕ) (olds : List Bool) (i k : ℕ) → Holds old olds → mark_at k (drop i olds) ≡ is_in old (i + k)
mark_is old olds i k holds = get_or-drop i olds k false ∙ sym (holds (i + k))

pub run-bar : (nodes : List Seen) (i : ℕ) (olds : List Bool) (level : Level) (around : List Level)
    → run (seen_bar ∷ nodes) (drop i olds) level around ≡ emitted false (run nodes (drop (i + 1) olds) (at_bar level) around)
unfolding run
run-bar nodes i olds level around = ap (λ os. emitted false (run nodes os (at_bar level) around)) (rest_of i olds)

pub run-open : (q : Quantifier) (inner : ℕ) (nodes : List Seen) (i : ℕ) (old : List ℕ) (olds : List Bool) (level : Level) (levels : List Level) (free : ℕ) (begins : Bool)
    → Holds old olds → begins ≡ may_enter level q (is_in old (i + inner + 1)) → 0 < free → free ≤ length levels
    → run (seen_open q inner ∷ nodes) (drop i olds) level (drop free levels)
    ≡ emitted false (run nodes (drop (i + 1) olds) (begun begins) (drop (free - 1) (set levels (free - 1) level)))
unfolding run
run-open q inner nodes i old olds level levels free begins holds b some within =
    let below : free - 1 < length levels = omega arith in
    let up : free - 1 + 1 ≡ free = omega arith in
    let there : i + (inner + 1) ≡ i + inner + 1 = omega arith in
    let mark : mark_at (inner + 1) (drop i olds) ≡ is_in old (i + inner + 1) = mark_is old olds i (inner + 1) holds ∙ ap (λ n. is_in old n) there in
    let stack : level ∷ drop free levels ≡ drop (free - 1) (set levels (free - 1) level) = sym (drop-set levels (free - 1) level below ∙ ap (λ n. level ∷ drop n levels) up) in
    ap (λ os. emitted false (run nodes os (begun (may_enter level q (mark_at (inner + 1) (drop i olds)))) (level ∷ drop free levels))) (rest_of i olds)
    ∙ ap (λ m. emitted false (run nodes (drop (i + 1) olds) (begun (may_enter level q m)) (level ∷ drop free levels))) mark
    ∙ ap (λ x. emitted false (run nodes (drop (i + 1) olds) (begun x) (level ∷ drop free levels))) (sym b)
    ∙ ap (λ ls. emitted false (run nodes (drop (i + 1) olds) (begun begins) ls)) stack

-- ---- the walk over all nodes

-- a mark at the end leaves the other places
unmarked : (news : List Bool) (mark : Bool) (i k : ℕ) → length news ≡ i → k ≢ i → get_or (news ++ mark ∷ []) k false ≡ get_or news k false
unmarked news mark i k len ne = elim (leb_tells i k) [
  | inl h ↦ let past : length (news ++ mark ∷ []) ≤ k = omega (arith, length_push news mark, h.1) in
      let past' : length news ≤ k = omega (arith, h.1) in
      get_or_past (news ++ mark ∷ []) k false past ∙ sym (get_or_past news k false past')
  | inr h ↦ let before : k < length news = omega (arith, h.1) in get_or_append_left news (mark ∷ []) false k before
]

pub holds_marked : (words words' : List ℕ) (news : List Bool) (i : ℕ) → length news ≡ i → Holds words news
    → ((k : ℕ) → is_in words' k ≡ (k == i || is_in words k)) → Holds words' (news ++ true ∷ [])
holds_marked words words' news i len holds inserted k = elim (eqb_tells k i) [
  | inl h ↦ inserted k ∙ rw (h.0) (sym (ap (λ n. get_or (news ++ true ∷ []) n false) h.1 ∙ get_or_push news true false i len))
  | inr h ↦ inserted k ∙ rw (h.0) (holds k ∙ sym (unmarked news true i k len h.1))
]

pub holds_unmarked : (words : List ℕ) (news : List Bool) (i : ℕ) → length news ≡ i → Holds words news → Holds words (news ++ false ∷ [])
holds_unmarked words news i len holds k = elim (eqb_tells k i) [
  | inl h ↦ holds k ∙ (let past : length news ≤ k = omega (arith, h.1) in get_or_past news k false past)
      ∙ sym (ap (λ n. get_or (news ++ false ∷ []) n false) h.1 ∙ get_or_push news false false i len)
  | inr h ↦ holds k ∙ sym (unmarked news false i k len h.1)
]

abbrev pub prefixed : List Bool → List Bool × Level → List Bool × Level
prefixed news end = (news ++ end.0, end.1)

-- the marks so far, and what is left to run
pub record SoFar (nodes left : List Seen) (olds : List Bool) (begins : Bool) (i : ℕ) (marks : List ℕ) (level : Level) (around : List Level) : Type 0 where
  pub news : List Bool
  pub count : length news ≡ i
  pub marked : Holds marks news
  pub runs : run nodes olds (begun begins) [] ≡ prefixed news (run left (drop i olds) level around)

pub walk_next : (nodes left : List Seen) (node : Seen) (olds : List Bool) (begins : Bool) (i : ℕ) (marks marks' : List ℕ) (level level' : Level) (around around' : List Level) (mark : Bool)
    → SoFar nodes (node ∷ left) olds begins i marks level around
    → run (node ∷ left) (drop i olds) level around ≡ emitted mark (run left (drop (i + 1) olds) level' around')
    → ((news : List Bool) → length news ≡ i → Holds marks news → Holds marks' (news ++ mark ∷ []))
    → SoFar nodes left olds begins (i + 1) marks' level' around'
walk_next nodes left node olds begins i marks marks' level level' around around' mark s step more = record {
  news = s.news ++ mark ∷ [];
  count = length_push s.news mark ∙ ap (λ n. n + 1) s.count;
  marked = more s.news s.count s.marked;
  runs = s.runs ∙ ap (prefixed s.news) step ∙ ap (λ ns. (ns, (run left (drop (i + 1) olds) level' around').1)) (sym (append_assoc s.news (mark ∷ []) (run left (drop (i + 1) olds) level' around').0));
}

pub walk_ends : (nodes : List Seen) (olds : List Bool) (begins : Bool) (i : ℕ) (marks : List ℕ) (level : Level) (around : List Level)
    → SoFar nodes [] olds begins i marks level around → Steps nodes olds begins marks level
unfolding run
walk_ends nodes olds begins i marks level around s = record {
  marked = rw (s.runs, append-nil s.news) s.marked;
  last = sym (ap (λ x. x.1) s.runs);
}
