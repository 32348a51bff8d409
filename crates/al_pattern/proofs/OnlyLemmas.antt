-- What is spelled so is read again: tokens and whole patterns. So a text has one tree.
use Rattle.std.proofs.Common.{◌≡◌, ◌≤◌, ◌<◌, ◌+◌, ℕ, zero, suc, true, false, not, ◌==◌, nat_lt, List, [], ◌∷◌, ◌++◌, length, Option, Some, None, Ok, refl, ap, sym, ◌∙◌, subst, append_assoc, length-append, arith}
use Rattle.std.proofs.lemmas.List.{append-nil}
use Rattle.std.proofs.lemmas.Bool.Decides.{nat_tests}
use Rattle.al_pattern.specs.declared.letter.Letter.TheVariants.{Plain, Escaped}
use Rattle.al_pattern.specs.declared.token.Quantifier.{Quantifier}
use Rattle.al_pattern.specs.Bytes.{among, is_printable, is_char, is_left_out}
use Rattle.al_pattern.specs.Faults.{◌>>=◌}
use Rattle.al_pattern.specs.Tests.{Test, letter, dot, digit, space, class, test_spelling, is_test}
use Rattle.al_pattern.specs.Trees.{Choice, single, either, Branch, nothing, followed, Atom, character, group, quantifier_spelling, quantifier_nodes, choice_spelling, branch_spelling, atom_spelling, choice_nodes, branch_nodes, atom_nodes, choice_depth, branch_depth, atom_depth, is_choice, is_branch, is_atom, IsSpelled}
use Rattle.al_pattern.specs.Tokens.{Sign, bar, open_group, close_group, one, is_unsupported, begins_node, quantifier_of, quantifier_at, one_at, token_at}
use Rattle.al_pattern.specs.Reading.{Progress, start, with_atom, put, read_from, reading, tree_of, tree_or_empty, first_fault, fault_or_none}
use Rattle.al_pattern.proofs.CutLemmas.{and_true}
use Rattle.al_pattern.proofs.TestLemmas.{differs}
use Rattle.al_pattern.proofs.AgainLemmas.{no_quantifier, quantifier_again, escape_kept, test_again}

-- ---- the first byte of a test

pub record Head (text : List ℕ) : Type 0 where
  pub first : ℕ
  pub rest : List ℕ
  pub whole : text ≡ first ∷ rest
  pub supported : is_unsupported (first ∷ rest) ≡ false
  pub begins : begins_node first ≡ true
  pub no_close : (first == 41) ≡ false
  pub no_open : (first == 40) ≡ false
  pub no_bar : (first == 124) ≡ false
  pub none : quantifier_of first ≡ None

slash_head : (b : ℕ) (rest : List ℕ) → is_left_out b ≡ false → Head (92 ∷ b ∷ rest)
unfolding is_unsupported is_char
slash_head b rest e = record { first = 92; rest = b ∷ rest; whole = refl; supported = rw e refl; begins = refl; no_close = refl; no_open = refl; no_bar = refl; none = refl }

char_head : (b : ℕ) (rest : List ℕ) → is_char b ≡ true → Head (b ∷ rest)
unfolding is_unsupported is_char
char_head b rest e = record {
  first = b;
  rest = rest;
  whole = refl;
  supported = rw ((and_true (is_printable b) (not (among (46 ∷ 92 ∷ 63 ∷ 42 ∷ 43 ∷ 40 ∷ 41 ∷ 124 ∷ 91 ∷ 93 ∷ 123 ∷ 125 ∷ []) b)) e).0, differs is_char b 123 e refl, differs is_char b 92 e refl) refl;
  begins = rw e refl;
  no_close = differs is_char b 41 e refl;
  no_open = differs is_char b 40 e refl;
  no_bar = differs is_char b 124 e refl;
  none = rw (differs is_char b 63 e refl, differs is_char b 42 e refl, differs is_char b 43 e refl) refl;
}

dot_head : (rest : List ℕ) → Head (46 ∷ rest)
unfolding is_unsupported is_char
dot_head rest = record { first = 46; rest = rest; whole = refl; supported = refl; begins = refl; no_close = refl; no_open = refl; no_bar = refl; none = refl }

class_head : (rest : List ℕ) → Head (91 ∷ rest)
unfolding is_unsupported is_char
class_head rest = record { first = 91; rest = rest; whole = refl; supported = refl; begins = refl; no_close = refl; no_open = refl; no_bar = refl; none = refl }

kept_letters : (is_left_out 100 ≡ false) × (is_left_out 115 ≡ false)
unfolding is_left_out
kept_letters = (refl, refl)

test_head : (t : Test) (rest : List ℕ) → is_test t ≡ true → Head (test_spelling t ++ rest)
unfolding test_spelling is_test
test_head (letter (Plain b)) rest e = char_head b rest e
test_head (letter (Escaped b)) rest e = slash_head b rest (escape_kept b e)
test_head dot rest e = dot_head rest
test_head digit rest e = slash_head 100 rest kept_letters.0
test_head space rest e = slash_head 115 rest kept_letters.1
test_head (class negated items) rest e = class_head _

-- ---- tokens

below : (a b : ℕ) → a + 1 ≤ b → nat_lt a b ≡ true
below a b le = grind (arith, nat_tests)

not_zero : (a : ℕ) → 0 < a → (a == 0) ≡ false
not_zero a lt = grind (arith, nat_tests)

token_bar : (depth nodes : ℕ) (rest : List ℕ) → nodes + 1 ≤ 256 → token_at depth nodes (124 ∷ rest) ≡ Ok (bar, nodes + 1, rest)
unfolding token_at is_unsupported is_char
token_bar depth nodes rest le = rw (below nodes 256 le) refl

token_open : (depth nodes : ℕ) (rest : List ℕ) → nodes + 1 ≤ 256 → depth < 16 → token_at depth nodes (40 ∷ rest) ≡ Ok (open_group, nodes + 1, rest)
unfolding token_at is_unsupported is_char
token_open depth nodes rest le deep = rw (below nodes 256 le, below depth 16 (omega arith)) refl

token_close : (depth nodes : ℕ) (q : Quantifier) (rest : List ℕ) → nodes + quantifier_nodes q ≤ 256 → 0 < depth → no_quantifier rest
    → token_at depth nodes (41 ∷ (quantifier_spelling q ++ rest)) ≡ Ok (close_group q, nodes + quantifier_nodes q, rest)
unfolding token_at is_unsupported is_char
token_close depth nodes q rest le deep none =
    rw (not_zero depth deep) (ap (λ r. r >>= λ x. Ok (close_group x.0, x.1, x.2)) (quantifier_again q nodes rest le none))

token_head : (depth nodes b : ℕ) (rest : List ℕ) → is_unsupported (b ∷ rest) ≡ false → (b == 41) ≡ false → begins_node b ≡ true → (b == 124) ≡ false → (b == 40) ≡ false
    → nodes + 1 ≤ 256 → token_at depth nodes (b ∷ rest) ≡ one_at nodes (b ∷ rest)
unfolding token_at
token_head depth nodes b rest supported no_close begins no_bar no_open room = rw (supported, no_close, begins, below nodes 256 room, no_bar, no_open) refl

token_test : (depth nodes : ℕ) (text : List ℕ) → Head text → nodes + 1 ≤ 256 → token_at depth nodes text ≡ one_at nodes text
token_test depth nodes text h room =
    let P : List ℕ → Type 0 = λ t. token_at depth nodes t ≡ one_at nodes t in
    subst P (sym h.whole) (token_head depth nodes h.first h.rest h.supported h.no_close h.begins h.no_bar h.no_open room)

token_one : (depth nodes : ℕ) (t : Test) (q : Quantifier) (rest : List ℕ) → is_test t ≡ true → nodes + (1 + quantifier_nodes q) ≤ 256 → no_quantifier rest
    → token_at depth nodes (test_spelling t ++ (quantifier_spelling q ++ rest)) ≡ Ok (one t q, nodes + (1 + quantifier_nodes q), rest)
token_one depth nodes t q rest e le none =
    let back = quantifier_spelling q ++ rest in
    let count : nodes + 1 + quantifier_nodes q ≡ nodes + (1 + quantifier_nodes q) = omega arith in
    let first : token_at depth nodes (test_spelling t ++ back) ≡ one_at nodes (test_spelling t ++ back) =
    token_test depth nodes (test_spelling t ++ back) (test_head t back e) (omega arith) in
    let second : one_at nodes (test_spelling t ++ back) ≡ (quantifier_at (nodes + 1) back >>= λ y. Ok (one t y.0, y.1, y.2)) =
    ap (λ r. r >>= λ x. quantifier_at (nodes + 1) x.1 >>= λ y. Ok (one x.0 y.0, y.1, y.2)) (test_again t back e) in
    let third : (quantifier_at (nodes + 1) back >>= λ y. Ok (one t y.0, y.1, y.2)) ≡ Ok (one t q, nodes + 1 + quantifier_nodes q, rest) =
    ap (λ r. r >>= λ y. Ok (one t y.0, y.1, y.2)) (quantifier_again q (nodes + 1) rest (omega arith) none) in
    first ∙ second ∙ third ∙ ap (λ (n : ℕ). Ok (one t q, n, rest)) count

-- ---- whole patterns

-- reading goes from one place to another, whatever number of steps is left
abbrev Leads : ℕ → Progress → List ℕ → ℕ → Progress → List ℕ → Type 0
Leads nodes p text nodes' p' rest = (steps : ℕ) → length text ≤ steps → (steps' : ℕ) × (length rest ≤ steps') × (read_from steps nodes p text ≡ read_from steps' nodes' p' rest)

leads_on : (n m k : ℕ) (p q r : Progress) (text middle rest : List ℕ) → Leads n p text m q middle → Leads m q middle k r rest → Leads n p text k r rest
leads_on n m k p q r text middle rest f g steps le =
    let a = f steps le in
    let b = g a.0 a.1 in
    (b.0, b.1, a.2 ∙ b.2)

leads_token : (nodes nodes' : ℕ) (p : Progress) (text : List ℕ) (sign : Sign) (rest : List ℕ) → token_at (length p.outer) nodes text ≡ Ok (sign, nodes', rest) → length rest < length text
    → Leads nodes p text nodes' (put sign p) rest
unfolding read_from
leads_token nodes nodes' p [] sign rest e shorter steps le = absurd (omega arith)
leads_token nodes nodes' p (b ∷ text) sign rest e shorter zero le = absurd (omega arith)
leads_token nodes nodes' p (b ∷ text) sign rest e shorter (suc steps) le =
    (steps, omega arith, ap (λ r. r >>= λ x. read_from steps x.1 (put x.0 p) x.2) e)

abbrev at : Choice → List Choice → Progress
at top outer = record { top = top; outer = outer }

-- a choice whose last branch is this one
abbrev ending : Option Choice → Branch → Choice
ending None b = single b
ending (Some x) b = either x b

ending_with : (o : Option Choice) (b : Branch) (a : Atom) (q : Quantifier) → with_atom (ending o b) a q ≡ ending o (followed b a q)
ending_with None b a q = refl
ending_with (Some x) b a q = refl

pub test_takes : (t : Test) (rest : List ℕ) → is_test t ≡ true → length rest < length (test_spelling t ++ rest)
test_takes t rest e =
    let h = test_head t [] e in
    omega (arith, length-append (test_spelling t) rest, ap length (sym (append-nil (test_spelling t)) ∙ h.whole))

atom_none : (a : Atom) (rest : List ℕ) → is_atom a ≡ true → no_quantifier (atom_spelling a ++ rest)
atom_none (character t) rest e = let h = test_head t rest e in subst no_quantifier (sym h.whole) h.none
atom_none (group x) rest e = refl

mutual
  leads_choice : (x : Choice) (outer : List Choice) (nodes : ℕ) (rest : List ℕ) → is_choice x ≡ true → nodes + choice_nodes x ≤ 256 → choice_depth x + length outer ≤ 16
      → no_quantifier rest → Leads nodes (at (single nothing) outer) (choice_spelling x ++ rest) (nodes + choice_nodes x) (at x outer) rest
  leads_choice (single b) outer nodes rest e few deep none = leads_branch b None outer nodes rest e few deep none
  leads_choice (either x b) outer nodes rest e few deep none =
      let both = and_true (is_choice x) (is_branch b) e in
      let tail = branch_spelling b ++ rest in
      let first = leads_choice x outer nodes (124 ∷ tail) both.0 (omega arith) (omega arith) refl in
      let middle = leads_token (nodes + choice_nodes x) (nodes + choice_nodes x + 1) (at x outer) (124 ∷ tail) bar tail
      (token_bar (length outer) (nodes + choice_nodes x) tail (omega arith)) (omega arith) in
      let last = leads_branch b (Some x) outer (nodes + choice_nodes x + 1) rest both.1 (omega arith) (omega arith) none in
      let count : nodes + choice_nodes x + 1 + branch_nodes b ≡ nodes + (choice_nodes x + 1 + branch_nodes b) = omega arith in
      subst (λ n. Leads nodes (at (single nothing) outer) ((choice_spelling x ++ 124 ∷ branch_spelling b) ++ rest) n (at (either x b) outer) rest) count
      (subst (λ t. Leads nodes (at (single nothing) outer) t (nodes + choice_nodes x + 1 + branch_nodes b) (at (either x b) outer) rest)
      (sym (append_assoc (choice_spelling x) (124 ∷ branch_spelling b) rest))
      (leads_on nodes (nodes + choice_nodes x) (nodes + choice_nodes x + 1 + branch_nodes b) (at (single nothing) outer) (at x outer) (at (either x b) outer)
      (choice_spelling x ++ 124 ∷ tail) (124 ∷ tail) rest first
      (leads_on (nodes + choice_nodes x) (nodes + choice_nodes x + 1) (nodes + choice_nodes x + 1 + branch_nodes b) (at x outer) (at (either x nothing) outer) (at (either x b) outer)
      (124 ∷ tail) tail rest middle last)))

  leads_branch : (b : Branch) (o : Option Choice) (outer : List Choice) (nodes : ℕ) (rest : List ℕ) → is_branch b ≡ true → nodes + branch_nodes b ≤ 256
      → branch_depth b + length outer ≤ 16 → no_quantifier rest
      → Leads nodes (at (ending o nothing) outer) (branch_spelling b ++ rest) (nodes + branch_nodes b) (at (ending o b) outer) rest
  leads_branch nothing o outer nodes rest e few deep none =
      let count : nodes ≡ nodes + 0 = omega arith in
      λ steps le. (steps, le, ap (λ (n : ℕ). read_from steps n (at (ending o nothing) outer) rest) count)
  leads_branch (followed b a q) o outer nodes rest e few deep none =
      let both = and_true (is_branch b) (is_atom a) e in
      let tail = (atom_spelling a ++ quantifier_spelling q) ++ rest in
      let behind : no_quantifier tail = subst no_quantifier (sym (append_assoc (atom_spelling a) (quantifier_spelling q) rest)) (atom_none a (quantifier_spelling q ++ rest) both.1) in
      let first = leads_branch b o outer nodes tail both.0 (omega arith) (omega arith) behind in
      let last = leads_atom a q (ending o b) outer (nodes + branch_nodes b) rest both.1 (omega arith) (omega arith) none in
      let count : nodes + branch_nodes b + (atom_nodes a + quantifier_nodes q) ≡ nodes + (branch_nodes b + (atom_nodes a + quantifier_nodes q)) = omega arith in
      subst (λ n. Leads nodes (at (ending o nothing) outer) ((branch_spelling b ++ (atom_spelling a ++ quantifier_spelling q)) ++ rest) n (at (ending o (followed b a q)) outer) rest) count
      (subst (λ t. Leads nodes (at (ending o nothing) outer) t (nodes + branch_nodes b + (atom_nodes a + quantifier_nodes q)) (at (ending o (followed b a q)) outer) rest)
      (sym (append_assoc (branch_spelling b) (atom_spelling a ++ quantifier_spelling q) rest))
      (subst (λ x. Leads nodes (at (ending o nothing) outer) (branch_spelling b ++ tail) (nodes + branch_nodes b + (atom_nodes a + quantifier_nodes q)) (at x outer) rest) (ending_with o b a q)
      (leads_on nodes (nodes + branch_nodes b) (nodes + branch_nodes b + (atom_nodes a + quantifier_nodes q)) (at (ending o nothing) outer) (at (ending o b) outer)
      (at (with_atom (ending o b) a q) outer) (branch_spelling b ++ tail) tail rest first last)))

  leads_atom : (a : Atom) (q : Quantifier) (top : Choice) (outer : List Choice) (nodes : ℕ) (rest : List ℕ) → is_atom a ≡ true → nodes + (atom_nodes a + quantifier_nodes q) ≤ 256
      → atom_depth a + length outer ≤ 16 → no_quantifier rest
      → Leads nodes (at top outer) ((atom_spelling a ++ quantifier_spelling q) ++ rest) (nodes + (atom_nodes a + quantifier_nodes q)) (at (with_atom top a q) outer) rest
  leads_atom (character t) q top outer nodes rest e few deep none =
      subst (λ s. Leads nodes (at top outer) s (nodes + (1 + quantifier_nodes q)) (at (with_atom top (character t) q) outer) rest)
      (sym (append_assoc (test_spelling t) (quantifier_spelling q) rest))
      (leads_token nodes (nodes + (1 + quantifier_nodes q)) (at top outer) (test_spelling t ++ (quantifier_spelling q ++ rest)) (one t q) rest
      (token_one (length outer) nodes t q rest e few none)
      (omega (arith, test_takes t (quantifier_spelling q ++ rest) e, length-append (quantifier_spelling q) rest)))
  leads_atom (group x) q top outer nodes rest e few deep none =
      let back = quantifier_spelling q ++ rest in
      let inner = choice_spelling x ++ (41 ∷ back) in
      let regroup : ((40 ∷ (choice_spelling x ++ 41 ∷ [])) ++ quantifier_spelling q) ++ rest ≡ 40 ∷ inner = simp append_assoc in
      let n1 = nodes + 1 in
      let n2 = nodes + 1 + choice_nodes x in
      let n3 = n2 + quantifier_nodes q in
      let first = leads_token nodes n1 (at top outer) (40 ∷ inner) open_group inner (token_open (length outer) nodes inner (omega arith) (omega arith)) (omega arith) in
      let middle = leads_choice x (top ∷ outer) n1 (41 ∷ back) e (omega arith) (omega arith) refl in
      let last = leads_token n2 n3 (at x (top ∷ outer)) (41 ∷ back) (close_group q) rest (token_close (suc (length outer)) n2 q rest (omega arith) (omega arith) none)
      (omega (arith, length-append (quantifier_spelling q) rest)) in
      let count : n3 ≡ nodes + (1 + choice_nodes x + quantifier_nodes q) = omega arith in
      subst (λ n. Leads nodes (at top outer) (((40 ∷ (choice_spelling x ++ 41 ∷ [])) ++ quantifier_spelling q) ++ rest) n (at (with_atom top (group x) q) outer) rest) count
      (subst (λ s. Leads nodes (at top outer) s n3 (at (with_atom top (group x) q) outer) rest) (sym regroup)
      (leads_on nodes n1 n3 (at top outer) (at (single nothing) (top ∷ outer)) (at (with_atom top (group x) q) outer) (40 ∷ inner) inner rest first
      (leads_on n1 n2 n3 (at (single nothing) (top ∷ outer)) (at x (top ∷ outer)) (at (with_atom top (group x) q) outer) inner (41 ∷ back) rest middle last)))

read_at_end : (steps nodes : ℕ) (tree : Choice) → read_from steps nodes (at tree []) [] ≡ Ok tree
unfolding read_from
read_at_end zero nodes tree = refl
read_at_end (suc steps) nodes tree = refl

-- the spelling of a pattern is read as that pattern
pub reading_again : (tree : Choice) (text : List ℕ) → IsSpelled tree text → reading text ≡ Ok tree
reading_again tree text s =
    let whole : choice_spelling tree ++ [] ≡ text = append-nil (choice_spelling tree) ∙ sym s.spelled in
    let leads = leads_choice tree [] 0 [] s.pattern.written (omega (arith, s.pattern.few_nodes)) (omega (arith, s.pattern.few_groups)) tt in
    let all = subst (λ t. Leads 0 start t (0 + choice_nodes tree) (at tree []) []) whole leads in
    let done = all (length text) (omega arith) in
    done.2 ∙ read_at_end done.0 (0 + choice_nodes tree) tree

-- so a text has one tree
pub tree_again : (tree : Choice) (text : List ℕ) → IsSpelled tree text → tree_of text ≡ tree
unfolding tree_of
tree_again tree text s = ap tree_or_empty (reading_again tree text s)

pub fault_again : (tree : Choice) (text : List ℕ) → IsSpelled tree text → first_fault text ≡ None
unfolding first_fault
fault_again tree text s = ap (fault_or_none text) (reading_again tree text s)
