-- Compiling one token more.
use Rattle.std.proofs.Common.{◌≡◌, ◌<◌, ◌+◌, ◌-◌, ℕ, List, [], ◌∷◌, ◌++◌, length, map, set, refl, ap, sym, ◌∙◌, subst, arith, length-append, append_assoc}
use Rattle.std.proofs.lemmas.List.{map_push, map-set, set_at, same_from_push, append-nil, length-map, length_push}
use Rattle.al_pattern.specs.declared.token.Quantifier.{Quantifier}
use Rattle.al_pattern.specs.declared.token.Quantifier.TheVariants.{Once}
use Rattle.al_pattern.specs.declared.node.Node.{Node}
use Rattle.al_pattern.specs.declared.node.Node.TheVariants as node
use Rattle.al_pattern.specs.Trees.{Choice, single, either, Branch, nothing, followed, Atom, character, group}
use Rattle.al_pattern.specs.Tokens.{open_group}
use Rattle.al_pattern.specs.Reading.{Progress, with_atom, put, closed}
use Rattle.al_pattern.specs.Walk.{Seen, seen, seen_open, seen_close, seen_bar, choice_seen, branch_seen, atom_seen, choice_size, branch_size, atom_size}
use Rattle.al_pattern.specs.Builds.{Builds, outer_seen, outer_size, openings}

-- a part compiles to as many nodes as its size says
mutual
  pub length-choice_seen : (c : ℕ) (x : Choice) → length (choice_seen c x) ≡ choice_size x
  length-choice_seen c (single b) = length-branch_seen c b
  length-choice_seen c (either x b) =
      omega (arith, length-append (choice_seen c x) (seen_bar ∷ branch_seen c b), length-choice_seen c x, length-branch_seen c b)

  pub length-branch_seen : (c : ℕ) (b : Branch) → length (branch_seen c b) ≡ branch_size b
  length-branch_seen c nothing = refl
  length-branch_seen c (followed b a q) =
      omega (arith, length-append (branch_seen c b) (atom_seen c a q), length-branch_seen c b, length-atom_seen c a q)

  pub length-atom_seen : (c : ℕ) (a : Atom) (q : Quantifier) → length (atom_seen c a q) ≡ atom_size a
  length-atom_seen c (character t) q = refl
  length-atom_seen c (group x) q =
      omega (arith, length-append (choice_seen c x) (seen_close q ∷ []), length-choice_seen c x)

pub choice_seen-with_atom : (c : ℕ) (x : Choice) (a : Atom) (q : Quantifier) → choice_seen c (with_atom x a q) ≡ choice_seen c x ++ atom_seen c a q
choice_seen-with_atom c (single b) a q = refl
choice_seen-with_atom c (either x b) a q = sym (append_assoc (choice_seen c x) (seen_bar ∷ branch_seen c b) (atom_seen c a q))

length-outer_seen : (c : ℕ) (outer : List Choice) → length (outer_seen c outer) ≡ outer_size outer
length-outer_seen c [] = refl
length-outer_seen c (around ∷ outer) =
    omega (
      arith,
      length-append (outer_seen c outer) (choice_seen c around ++ seen_open Once 0 ∷ []),
      length-append (choice_seen c around) (seen_open Once 0 ∷ []),
      length-outer_seen c outer,
      length-choice_seen c around,
    )

-- how many nodes there are
length-compiled : (p : Progress) (nodes : List Node) (opens : List ℕ) → Builds p nodes opens → length nodes ≡ outer_size p.outer + choice_size p.top
length-compiled p nodes opens built =
    sym (length-map nodes (seen 0)) ∙ ap length (built.compiled 0) ∙ length-append (outer_seen 0 p.outer) (choice_seen 0 p.top)
    ∙ omega (arith, length-outer_seen 0 p.outer, length-choice_seen 0 p.top)

pub builds_open : (p : Progress) (nodes : List Node) (opens : List ℕ) → Builds p nodes opens
    → Builds (put open_group p) (nodes ++ node.Open Once 0 ∷ []) (opens ++ length nodes ∷ [])
builds_open p nodes opens built = record {
  compiled = λ c.
      map_push (seen c) nodes (node.Open Once 0) ∙ ap (λ xs. xs ++ seen_open Once 0 ∷ []) (built.compiled c)
      ∙ append_assoc (outer_seen c p.outer) (choice_seen c p.top) (seen_open Once 0 ∷ [])
      ∙ sym (append-nil (outer_seen c p.outer ++ (choice_seen c p.top ++ seen_open Once 0 ∷ [])));
  opened = rw (built.opened, length-compiled p nodes opens built) refl;
}

-- a group's beginning is rewritten where it stands
reopened : (front back : List Seen) (around : List Seen) (x y : Seen) (n : ℕ) → n ≡ length front + length around
    → set ((front ++ (around ++ x ∷ [])) ++ back) n y ≡ front ++ (around ++ y ∷ back)
reopened front back around x y n e =
    let whole : (front ++ (around ++ x ∷ [])) ++ back ≡ (front ++ around) ++ x ∷ back = simp append_assoc in
    let place : length (front ++ around) ≡ n = length-append front around ∙ sym e in
    ap (λ xs. set xs n y) whole ∙ set_at (front ++ around) x back y n place ∙ append_assoc front around (y ∷ back)

last_opening : (outer : List Choice) (opens : List ℕ) (begin : ℕ) → openings outer ≡ opens ++ begin ∷ []
    → (around : Choice) × (rest : List Choice) × (outer ≡ around ∷ rest) × (openings rest ≡ opens) × (outer_size rest + choice_size around ≡ begin)
last_opening [] opens begin e = absurd (omega (arith, ap length e, length_push opens begin))
last_opening (around ∷ rest) opens begin e =
    let both = same_from_push (openings rest) opens (outer_size rest + choice_size around) begin e in
    (around, rest, refl, both.0, both.1)

-- the group's beginning is among the nodes
pub opening_within : (p : Progress) (nodes : List Node) (opens all : List ℕ) (begin : ℕ) → Builds p nodes all → all ≡ opens ++ begin ∷ [] → begin < length nodes
opening_within p nodes opens all begin built e =
    let last = last_opening p.outer opens begin (sym built.opened ∙ e) in
    omega (arith, length-compiled p nodes all built, ap outer_size last.2, last.4)

closed_compiled : (around top : Choice) (rest : List Choice) (nodes : List Node) (q : Quantifier) (begin inner : ℕ) (c : ℕ)
    → map (seen c) nodes ≡ outer_seen c (around ∷ rest) ++ choice_seen c top → outer_size rest + choice_size around ≡ begin → inner ≡ choice_size top
    → map (seen c) (set nodes begin (node.Open q inner) ++ node.Close q ∷ []) ≡ outer_seen c rest ++ choice_seen c (with_atom around (group top) q)
closed_compiled around top rest nodes q begin inner c compiled place size =
    let n : begin ≡ length (outer_seen c rest) + length (choice_seen c around) = omega (arith, length-outer_seen c rest, length-choice_seen c around) in
    map_push (seen c) (set nodes begin (node.Open q inner)) (node.Close q)
    ∙ ap (λ xs. xs ++ seen_close q ∷ []) (map-set (seen c) nodes begin (node.Open q inner)
    ∙ ap (λ xs. set xs begin (seen_open q inner)) compiled
    ∙ reopened (outer_seen c rest) (choice_seen c top) (choice_seen c around) (seen_open Once 0) (seen_open q inner) begin n)
    ∙ rw (size, choice_seen-with_atom c around (group top) q) (simp append_assoc)

pub builds_close : (p : Progress) (nodes : List Node) (opens all : List ℕ) (begin inner : ℕ) (q : Quantifier) → Builds p nodes all → all ≡ opens ++ begin ∷ []
    → inner ≡ length nodes - begin - 1
    → Builds (closed q p.top p.outer) (set nodes begin (node.Open q inner) ++ node.Close q ∷ []) opens
builds_close p nodes opens all begin inner q built e size =
    let last = last_opening p.outer opens begin (sym built.opened ∙ e) in
    let whole = length-compiled p nodes all built in
    let inside : inner ≡ choice_size p.top = omega (arith, whole, ap outer_size last.2, last.4, size) in
    let done : Builds (closed q p.top (last.0 ∷ last.1)) (set nodes begin (node.Open q inner) ++ node.Close q ∷ []) opens = record {
      compiled = λ c. closed_compiled last.0 p.top last.1 nodes q begin inner c (built.compiled c ∙ ap (λ xs. outer_seen c xs ++ choice_seen c p.top) last.2) last.4 inside;
      opened = sym last.3;
    } in
    let P : List Choice → Type 0 = λ outer. Builds (closed q p.top outer) (set nodes begin (node.Open q inner) ++ node.Close q ∷ []) opens in
    subst P (sym last.2) done
