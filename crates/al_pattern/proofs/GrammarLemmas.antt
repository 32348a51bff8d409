-- What is read is spelled so, and is a pattern.
use Rattle.std.proofs.Common.{◌≡◌, ◌≤◌, ◌<◌, ◌+◌, ℕ, zero, suc, true, ◌&&◌, List, [], ◌∷◌, ◌++◌, length, max, IfOk, refl, ap, sym, ◌∙◌, subst, append_assoc, arith}
use Rattle.std.proofs.lemmas.List.{append-nil}
use Rattle.al_pattern.specs.declared.token.Quantifier.{Quantifier}
use Rattle.al_pattern.specs.Tests.{test_spelling}
use Rattle.al_pattern.specs.Trees.{Choice, single, either, Atom, character, group, quantifier_spelling, quantifier_nodes, choice_spelling, branch_spelling, atom_spelling, choice_nodes, atom_nodes, choice_depth, atom_depth, is_choice, is_branch, is_atom, IsSpelled}
use Rattle.al_pattern.specs.Tokens.{Sign, bar, open_group, close_group, one, token_at}
use Rattle.al_pattern.specs.Reading.{Progress, start, with_atom, put, ended, read_from, reading}
use Rattle.al_pattern.proofs.CutLemmas.{and_true, true_and}
use Rattle.al_pattern.proofs.TestLemmas.{bind_read}
use Rattle.al_pattern.proofs.TokenLemmas.{sign_spelling, sign_nodes, is_sign, FitsAt, TokenRead, token_found}

-- ---- one atom more at the end

pub choice_spelling-with_atom : (x : Choice) (a : Atom) (q : Quantifier) → choice_spelling (with_atom x a q) ≡ choice_spelling x ++ (atom_spelling a ++ quantifier_spelling q)
choice_spelling-with_atom (single b) a q = refl
choice_spelling-with_atom (either x b) a q = sym (append_assoc (choice_spelling x) (124 ∷ branch_spelling b) (atom_spelling a ++ quantifier_spelling q))

pub choice_nodes-with_atom : (x : Choice) (a : Atom) (q : Quantifier) → choice_nodes (with_atom x a q) ≡ choice_nodes x + (atom_nodes a + quantifier_nodes q)
choice_nodes-with_atom (single b) a q = refl
choice_nodes-with_atom (either x b) a q = omega arith

pub depth_with_atom : (x : Choice) (a : Atom) (q : Quantifier) (n : ℕ) → choice_depth x ≤ n → atom_depth a ≤ n → choice_depth (with_atom x a q) ≤ n
depth_with_atom (single b) a q n h k = omega arith
depth_with_atom (either x b) a q n h k = omega arith

pub written_with_atom : (x : Choice) (a : Atom) (q : Quantifier) → is_choice x ≡ true → is_atom a ≡ true → is_choice (with_atom x a q) ≡ true
written_with_atom (single b) a q h k = true_and (is_branch b) (is_atom a) h k
written_with_atom (either x b) a q h k =
    let both = and_true (is_choice x) (is_branch b) h in
    true_and (is_choice x) (is_branch b && is_atom a) both.0 (true_and (is_branch b) (is_atom a) both.1 k)

-- ---- what was read so far

abbrev pub outer_spelling : List Choice → List ℕ
outer_spelling [] = []
outer_spelling (around ∷ outer) = outer_spelling outer ++ (choice_spelling around ++ 40 ∷ [])

abbrev pub outer_nodes : List Choice → ℕ
outer_nodes [] = 0
outer_nodes (around ∷ outer) = outer_nodes outer + (choice_nodes around + 1)

abbrev pub AreOuter : List Choice → Type 0
AreOuter [] = Unit {0}
AreOuter (around ∷ outer) = (is_choice around ≡ true) × (choice_depth around + length outer ≤ 16) × AreOuter outer

pub record IsProgress (top : Choice) (outer : List Choice) (nodes : ℕ) : Type 0 where
  pub written : is_choice top ≡ true
  pub deep : choice_depth top + length outer ≤ 16
  pub around : AreOuter outer
  pub count : nodes ≡ outer_nodes outer + choice_nodes top
  pub few : nodes ≤ 256

abbrev pub progress_spelling : Progress → List ℕ
progress_spelling p = outer_spelling p.outer ++ choice_spelling p.top

-- what one token adds
pub record Adds (sign : Sign) (p : Progress) (nodes' : ℕ) : Type 0 where
  pub spelled : progress_spelling (put sign p) ≡ progress_spelling p ++ sign_spelling sign
  pub good : IsProgress (put sign p).top (put sign p).outer nodes'

close_adds : (q : Quantifier) (top : Choice) (outer : List Choice) (nodes nodes' : ℕ) → IsProgress top outer nodes → 0 < length outer → nodes' ≡ nodes + quantifier_nodes q → nodes' ≤ 256
    → Adds (close_group q) (record { top = top; outer = outer }) nodes'
close_adds q top [] nodes nodes' good some count few = absurd (omega arith)
close_adds q top (around ∷ outer) nodes nodes' good some count few = record {
  spelled = ap (λ t. outer_spelling outer ++ t) (choice_spelling-with_atom around (group top) q)
      ∙ simp append_assoc;
  good = record {
    written = written_with_atom around (group top) q good.around.0 good.written;
    deep = let k : choice_depth (with_atom around (group top) q) ≤ max (choice_depth around) (atom_depth (group top)) =
        depth_with_atom around (group top) q (max (choice_depth around) (atom_depth (group top))) (omega arith) (omega arith) in
        omega (arith, k, good.around.1, good.deep);
    around = good.around.2;
    count = omega (arith, count, good.count, choice_nodes-with_atom around (group top) q);
    few = few;
  };
}

pub token_adds : (sign : Sign) (p : Progress) (nodes nodes' : ℕ) → IsProgress p.top p.outer nodes → FitsAt (length p.outer) sign → is_sign sign ≡ true
    → nodes' ≡ nodes + sign_nodes sign → nodes' ≤ 256 → Adds sign p nodes'
token_adds bar p nodes nodes' good fits written count few = record {
  spelled = sym (append_assoc (outer_spelling p.outer) (choice_spelling p.top) (124 ∷ []));
  good = record {
    written = true_and (is_choice p.top) true good.written refl;
    deep = omega (arith, good.deep);
    around = good.around;
    count = omega (arith, count, good.count);
    few = few;
  };
}
token_adds open_group p nodes nodes' good fits written count few = record {
  spelled = append-nil (outer_spelling p.outer ++ (choice_spelling p.top ++ 40 ∷ [])) ∙ sym (append_assoc (outer_spelling p.outer) (choice_spelling p.top) (40 ∷ []));
  good = record {
    written = refl;
    deep = omega (arith, fits);
    around = (good.written, good.deep, good.around);
    count = omega (arith, count, good.count);
    few = few;
  };
}
token_adds (close_group q) p nodes nodes' good fits written count few = close_adds q p.top p.outer nodes nodes' good fits count few
token_adds (one t q) p nodes nodes' good fits written count few = record {
  spelled = ap (λ s. outer_spelling p.outer ++ s) (choice_spelling-with_atom p.top (character t) q)
      ∙ sym (append_assoc (outer_spelling p.outer) (choice_spelling p.top) (test_spelling t ++ quantifier_spelling q));
  good = record {
    written = written_with_atom p.top (character t) q good.written written;
    deep = let k = depth_with_atom p.top (character t) q (choice_depth p.top) (omega arith) (omega arith) in omega (arith, k, good.deep);
    around = good.around;
    count = omega (arith, count, good.count, choice_nodes-with_atom p.top (character t) q);
    few = few;
  };
}

end_found : (top : Choice) (outer : List Choice) (nodes : ℕ) → IsProgress top outer nodes
    → IfOk (ended top outer) (λ tree. IsSpelled tree (outer_spelling outer ++ choice_spelling top))
end_found top [] nodes good = record {
  pattern = record { written = good.written; few_nodes = omega (arith, good.count, good.few); few_groups = omega (arith, good.deep) };
  spelled = refl;
}
end_found top (around ∷ outer) nodes good = tt

pub found_from : (steps nodes : ℕ) (p : Progress) (text : List ℕ) → IsProgress p.top p.outer nodes
    → IfOk (read_from steps nodes p text) (λ tree. IsSpelled tree (progress_spelling p ++ text))
unfolding read_from
found_from steps nodes p [] good =
    subst (λ t. IfOk (ended p.top p.outer) (λ tree. IsSpelled tree t)) (sym (append-nil (progress_spelling p))) (end_found p.top p.outer nodes good)
found_from zero nodes p (b ∷ rest) good = tt
found_from (suc steps) nodes p (b ∷ rest) good =
    bind_read (λ x. TokenRead (length p.outer) nodes (b ∷ rest) x.0 x.1 x.2) (λ tree. IsSpelled tree (progress_spelling p ++ b ∷ rest))
    (token_at (length p.outer) nodes (b ∷ rest)) (λ x. read_from steps x.1 (put x.0 p) x.2) (token_found (length p.outer) nodes (b ∷ rest) good.few)
    (λ x r.
    let more = token_adds x.0 p nodes x.1 good r.fits r.written r.count r.few in
    let whole : progress_spelling (put x.0 p) ++ x.2 ≡ progress_spelling p ++ b ∷ rest =
    ap (λ t. t ++ x.2) more.spelled ∙ append_assoc (progress_spelling p) (sign_spelling x.0) x.2 ∙ ap (λ t. progress_spelling p ++ t) (sym r.spelled) in
    subst (λ t. IfOk (read_from steps x.1 (put x.0 p) x.2) (λ tree. IsSpelled tree t)) whole (found_from steps x.1 (put x.0 p) x.2 more.good))

-- what is read is a pattern, and the text is its spelling
pub reading_found : (text : List ℕ) → IfOk (reading text) (λ tree. IsSpelled tree text)
reading_found text = found_from (length text) 0 start text (record { written = refl; deep = omega arith; around = tt; count = refl; few = omega arith })
