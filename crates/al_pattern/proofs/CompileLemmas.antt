-- A tree's nodes are few and nest as deep as its groups; compiling a text follows its reading.
use Rattle.std.proofs.Common.{◌≡◌, ◌≤◌, ◌<◌, ◌+◌, ◌-◌, ◌*◌, ℕ, zero, suc, Bool, true, false, ◌==◌, List, [], ◌∷◌, ◌++◌, length, map, Result, Ok, Err, refl, ap, sym, ◌∙◌, subst, append_assoc, arith}
use Rattle.std.proofs.lemmas.List.{append-nil, length-map, length_push, nil_from_length}
use Rattle.std.proofs.lemmas.Bool.Decides.{nat_tests}
use Rattle.al_pattern.specs.declared.fault.Fault.{Fault}
use Rattle.al_pattern.specs.declared.fault.FaultKind.TheVariants.{Syntax}
use Rattle.al_pattern.specs.declared.token.Quantifier.{Quantifier}
use Rattle.al_pattern.specs.declared.node.Node.{Node}
use Rattle.al_pattern.specs.Faults.{◌>>=◌, fault_at, Fails}
use Rattle.al_pattern.specs.Trees.{Choice, single, either, Branch, nothing, followed, Atom, character, group, choice_nodes, branch_nodes, atom_nodes, choice_depth, branch_depth, atom_depth, IsPattern}
use Rattle.al_pattern.specs.Tokens.{Sign, token_at}
use Rattle.al_pattern.specs.Reading.{Progress, put, ended, read_from, reading}
use Rattle.al_pattern.specs.declared.fault.ReadError.{ReadError}
use Rattle.al_pattern.specs.declared.fault.ReadError.TheVariants as errors
use Rattle.al_pattern.specs.Patterns.{AreNodesOf}
use Rattle.al_pattern.specs.Walk.{Seen, seen, seen_bar, seen_close, choice_seen, branch_seen, atom_seen, choice_size, branch_size, atom_size, Nests}
use Rattle.al_pattern.specs.Builds.{Builds, outer_seen, outer_size, openings}
use Rattle.al_pattern.specs.Programs.{IsCompiled}
use Rattle.al_pattern.proofs.BuildLemmas.{length-choice_seen}

mutual
  choice_size_le : (x : Choice) → choice_size x ≤ 2 * choice_nodes x
  choice_size_le (single b) = branch_size_le b
  choice_size_le (either x b) = omega (arith, choice_size_le x, branch_size_le b)

  branch_size_le : (b : Branch) → branch_size b ≤ 2 * branch_nodes b
  branch_size_le nothing = omega arith
  branch_size_le (followed b a q) = omega (arith, branch_size_le b, atom_size_le a)

  atom_size_le : (a : Atom) → atom_size a ≤ 2 * atom_nodes a
  atom_size_le (character t) = omega arith
  atom_size_le (group x) = omega (arith, choice_size_le x)

mutual
  choice_nests : (c : ℕ) (x : Choice) (free : ℕ) (nodes : List Seen) → choice_depth x ≤ free → free ≤ 16 → choice_size x ≤ 512 → Nests free nodes
      → Nests free (choice_seen c x ++ nodes)
  choice_nests c (single b) free nodes deep le few rest = branch_nests c b free nodes deep le few rest
  choice_nests c (either x b) free nodes deep le few rest =
      subst (Nests free) (sym (append_assoc (choice_seen c x) (seen_bar ∷ branch_seen c b) nodes))
      (choice_nests c x free (seen_bar ∷ (branch_seen c b ++ nodes)) (omega arith) le (omega arith)
      (tt, branch_nests c b free nodes (omega arith) le (omega arith) rest))

  branch_nests : (c : ℕ) (b : Branch) (free : ℕ) (nodes : List Seen) → branch_depth b ≤ free → free ≤ 16 → branch_size b ≤ 512 → Nests free nodes
      → Nests free (branch_seen c b ++ nodes)
  branch_nests c nothing free nodes deep le few rest = rest
  branch_nests c (followed b a q) free nodes deep le few rest =
      subst (Nests free) (sym (append_assoc (branch_seen c b) (atom_seen c a q) nodes))
      (branch_nests c b free (atom_seen c a q ++ nodes) (omega arith) le (omega arith)
      (atom_nests c a q free nodes (omega arith) le (omega arith) rest))

  atom_nests : (c : ℕ) (a : Atom) (q : Quantifier) (free : ℕ) (nodes : List Seen) → atom_depth a ≤ free → free ≤ 16 → atom_size a ≤ 512 → Nests free nodes
      → Nests free (atom_seen c a q ++ nodes)
  atom_nests c (character t) q free nodes deep le few rest = (tt, rest)
  atom_nests c (group x) q free nodes deep le few rest =
      let up : free - 1 + 1 ≡ free = omega arith in
      let close : Nests (free - 1) (seen_close q ∷ nodes) = (omega arith, subst (λ n. Nests n nodes) (sym up) rest) in (
        (omega arith, omega arith),
        subst (Nests (free - 1)) (sym (append_assoc (choice_seen c x) (seen_close q ∷ []) nodes))
            (choice_nests c x (free - 1) (seen_close q ∷ nodes) (omega arith) (omega arith) (omega arith) close),
      )

-- the nodes of a pattern's tree are compiled as the walk needs them
pub compiled_from : (nodes : List Node) (tree : Choice) → IsPattern tree → ((c : ℕ) → map (seen c) nodes ≡ choice_seen c tree) → IsCompiled nodes tree
compiled_from nodes tree pattern agree =
    let size : length nodes ≡ choice_size tree = sym (length-map nodes (seen 0)) ∙ ap length (agree 0) ∙ length-choice_seen 0 tree in
    let few : choice_size tree ≤ 512 = omega (arith, choice_size_le tree, pattern.few_nodes) in
    record {
      agree = agree;
      few = omega arith;
      nests = λ c. subst (Nests 16) (append-nil (choice_seen c tree))
          (choice_nests c tree 16 [] (omega (arith, pattern.few_groups)) (omega arith) few tt);
    }

-- ---- the loop over the tokens

-- what was read is compiled, and what is left gives what reading all gives
pub record IsReadingOn (nodes : List Node) (opens : List ℕ) (count : ℕ) (rest : List ℕ) (whole : Result Choice Fault) : Type 0 where
  pub progress : Progress
  pub steps : ℕ
  pub enough : length rest ≤ steps
  pub built : Builds progress nodes opens
  pub goes_on : read_from steps count progress rest ≡ whole

pub length-openings : (outer : List Choice) → length (openings outer) ≡ length outer
length-openings [] = refl
length-openings (around ∷ outer) = omega (arith, length_push (openings outer) (outer_size outer + choice_size around), length-openings outer)

pub depth_is : (p : Progress) (nodes : List Node) (opens : List ℕ) → Builds p nodes opens → length opens ≡ length p.outer
depth_is p nodes opens built = ap length built.opened ∙ length-openings p.outer

read_from-next : (steps nodes : ℕ) (p : Progress) (b : ℕ) (rest : List ℕ)
    → read_from (suc steps) nodes p (b ∷ rest) ≡ (token_at (length p.outer) nodes (b ∷ rest) >>= λ x. read_from steps x.1 (put x.0 p) x.2)
unfolding read_from
read_from-next steps nodes p b rest = refl

read_from-end : (steps nodes : ℕ) (p : Progress) → read_from steps nodes p [] ≡ ended p.top p.outer
unfolding read_from
read_from-end zero nodes p = refl
read_from-end (suc steps) nodes p = refl

pub read_next : (steps count depth : ℕ) (p : Progress) (rest : List ℕ) (sign : Sign) (count' : ℕ) (after : List ℕ) (whole : Result Choice Fault)
    → 0 < length rest → length rest ≤ steps → depth ≡ length p.outer → token_at depth count rest ≡ Ok (sign, count', after) → length after < length rest
    → read_from steps count p rest ≡ whole → (n : ℕ) × (length after ≤ n) × (read_from n count' (put sign p) after ≡ whole)
read_next steps count depth p [] sign count' after whole some enough deep token shorter e = absurd (omega arith)
read_next zero count depth p (b ∷ rest) sign count' after whole some enough deep token shorter e = absurd (omega arith)
read_next (suc steps) count depth p (b ∷ rest) sign count' after whole some enough deep token shorter e = (
  steps,
  omega arith,
  sym (read_from-next steps count p b rest
      ∙ ap (λ d. token_at d count (b ∷ rest) >>= λ x. read_from steps x.1 (put x.0 p) x.2) (sym deep)
      ∙ ap (λ r. r >>= λ x. read_from steps x.1 (put x.0 p) x.2) token) ∙ e,
)

pub read_fails : (steps count depth : ℕ) (p : Progress) (rest : List ℕ) (fault : Fault) (whole : Result Choice Fault)
    → 0 < length rest → length rest ≤ steps → depth ≡ length p.outer → token_at depth count rest ≡ Err fault
    → read_from steps count p rest ≡ whole → whole ≡ Err fault
read_fails steps count depth p [] fault whole some enough deep token e = absurd (omega arith)
read_fails zero count depth p (b ∷ rest) fault whole some enough deep token e = absurd (omega arith)
read_fails (suc steps) count depth p (b ∷ rest) fault whole some enough deep token e =
    sym e ∙ read_from-next steps count p b rest
    ∙ ap (λ d. token_at d count (b ∷ rest) >>= λ x. read_from steps x.1 (put x.0 p) x.2) (sym deep)
    ∙ ap (λ r. r >>= λ x. read_from steps x.1 (put x.0 p) x.2) token

pub read_ends : (steps count : ℕ) (p : Progress) (rest : List ℕ) (whole : Result Choice Fault) → length rest ≡ 0
    → read_from steps count p rest ≡ whole → whole ≡ ended p.top p.outer
read_ends steps count p rest whole none e =
    sym e ∙ ap (read_from steps count p) (nil_from_length rest none) ∙ read_from-end steps count p

pub compile_fails : (e : ReadError) (nodes : List Node) (opens : List ℕ) (count : ℕ) (rest : List ℕ) (whole : Result Choice Fault)
    → 0 < length rest → IsReadingOn nodes opens count rest whole → Fails e (token_at (length opens) count rest) → Fails e whole
compile_fails errors.Memory nodes opens count rest whole some on fails = tt
compile_fails (errors.Fault f) nodes opens count rest whole some on fails =
    read_fails on.steps count (length opens) on.progress rest f whole some on.enough (depth_is on.progress nodes opens on.built) fails on.goes_on

pub compile_goes_on : (nodes nodes' : List Node) (opens opens' : List ℕ) (count count' : ℕ) (rest after : List ℕ) (sign : Sign) (whole : Result Choice Fault)
    → 0 < length rest → IsReadingOn nodes opens count rest whole → token_at (length opens) count rest ≡ Ok (sign, count', after) → length after < length rest
    → ((p : Progress) → Builds p nodes opens → Builds (put sign p) nodes' opens') → IsReadingOn nodes' opens' count' after whole
compile_goes_on nodes nodes' opens opens' count count' rest after sign whole some on token shorter builds =
    let next = read_next on.steps count (length opens) on.progress rest sign count' after whole some on.enough (depth_is on.progress nodes opens on.built) token shorter on.goes_on in
    record { progress = put sign on.progress; steps = next.0; enough = next.1; built = builds on.progress on.built; goes_on = next.2 }

-- at the end of the text an open group is a fault
pub compile_open : (nodes : List Node) (opens : List ℕ) (count : ℕ) (rest : List ℕ) (whole : Result Choice Fault)
    → length rest ≡ 0 → 0 < length opens → IsReadingOn nodes opens count rest whole → whole ≡ Err (fault_at Syntax rest)
compile_open nodes opens count rest whole none some on =
    read_ends on.steps count on.progress rest whole none on.goes_on
    ∙ ended_open on.progress.top on.progress.outer (omega (arith, depth_is on.progress nodes opens on.built))
    ∙ ap (λ t. Err (fault_at Syntax t)) (sym (nil_from_length rest none)) where
      ended_open : (top : Choice) (outer : List Choice) → 0 < length outer → ended top outer ≡ Err (fault_at Syntax [])
      ended_open top [] some = absurd (omega arith)
      ended_open top (around ∷ outer) some = refl

pub compile_ends : (nodes : List Node) (opens : List ℕ) (count : ℕ) (rest text : List ℕ)
    → length rest ≡ 0 → length opens ≡ 0 → IsReadingOn nodes opens count rest (reading text) → AreNodesOf nodes text
compile_ends nodes opens count rest text none closed on =
    let outer : on.progress.outer ≡ [] = nil_from_length on.progress.outer (omega (arith, depth_is on.progress nodes opens on.built)) in
    record {
      tree = on.progress.top;
      read = read_ends on.steps count on.progress rest (reading text) none on.goes_on ∙ ap (ended on.progress.top) outer;
      agree = λ c. on.built.compiled c ∙ ap (λ o. outer_seen c o ++ choice_seen c on.progress.top) outer;
    }

pub some_from : (n m : ℕ) (b : Bool) → b ≡ (n == 0) → b ≡ false → n ≡ m → 0 < m
some_from n m b e f g = grind (arith, nat_tests)

pub none_from : (n m : ℕ) (b : Bool) → b ≡ (n == 0) → b ≡ true → n ≡ m → m ≡ 0
none_from n m b e f g = grind (arith, nat_tests)
