-- Tokens: how they are written, and what reading one says.
use Rattle.std.proofs.Common.{◌≡◌, ◌≤◌, ◌<◌, ◌+◌, ℕ, Bool, true, false, not, ◌==◌, inl, inr, nat_lt, List, [], ◌∷◌, ◌++◌, Ok, IfOk, refl, ap, sym, ◌∙◌, append_assoc, arith}
use Rattle.al_pattern.specs.Bytes.{among, is_char}
use Rattle.al_pattern.specs.Faults.{◌>>=◌}
use Rattle.al_pattern.specs.Tests.{test_spelling, is_test}
use Rattle.al_pattern.specs.Trees.{quantifier_spelling, quantifier_nodes}
use Rattle.al_pattern.specs.Tokens.{Sign, bar, open_group, close_group, one, is_unsupported, begins_node, test_at, quantifier_at, token_at}
use Rattle.std.proofs.lemmas.Bool.Decides.{nat_tests}
use Rattle.al_pattern.proofs.CutLemmas.{or_true}
use Rattle.al_pattern.proofs.TestLemmas.{if_read, bind_read, lt_from, eq_from, not_false}
use Rattle.al_pattern.proofs.FoundLemmas.{QuantifierRead, quantifier_found, test_found}

abbrev pub sign_spelling : Sign → List ℕ
sign_spelling bar = 124 ∷ []
sign_spelling open_group = 40 ∷ []
sign_spelling (close_group q) = 41 ∷ quantifier_spelling q
sign_spelling (one t q) = test_spelling t ++ quantifier_spelling q

abbrev pub sign_nodes : Sign → ℕ
sign_nodes bar = 1
sign_nodes open_group = 1
sign_nodes (close_group q) = quantifier_nodes q
sign_nodes (one t q) = 1 + quantifier_nodes q

abbrev pub is_sign : Sign → Bool
is_sign bar = true
is_sign open_group = true
is_sign (close_group q) = true
is_sign (one t q) = is_test t

abbrev pub FitsAt : ℕ → Sign → Type 0
FitsAt depth bar = Unit {0}
FitsAt depth open_group = depth < 16
FitsAt depth (close_group q) = 0 < depth
FitsAt depth (one t q) = Unit {0}

pub record TokenRead (depth nodes : ℕ) (text : List ℕ) (sign : Sign) (nodes' : ℕ) (rest : List ℕ) : Type 0 where
  pub spelled : text ≡ sign_spelling sign ++ rest
  pub written : is_sign sign ≡ true
  pub count : nodes' ≡ nodes + sign_nodes sign
  pub few : nodes' ≤ 256
  pub fits : FitsAt depth sign

-- a byte that begins a node, and isn't one of those that begin others, is a character
pub begins_char : (b : ℕ) → begins_node b ≡ true → (b == 124) ≡ false → (b == 40) ≡ false → (b == 46) ≡ false → (b == 92) ≡ false → (b == 91) ≡ false → is_char b ≡ true
begins_char b begins bar' open' dot' slash' class' = elim (or_true (is_char b) (among (46 ∷ 92 ∷ 91 ∷ 40 ∷ 124 ∷ []) b) begins) [
  | inl h ↦ h
  | inr h ↦ absurd (grind (arith, nat_tests))
]

pub token_found : (depth nodes : ℕ) (text : List ℕ) → nodes ≤ 256 → IfOk (token_at depth nodes text) (λ x. TokenRead depth nodes text x.0 x.1 x.2)
unfolding token_at
token_found depth nodes [] le = tt
token_found depth nodes (b ∷ rest) le =
    let P : Sign × ℕ × List ℕ → Type 0 = λ x. TokenRead depth nodes (b ∷ rest) x.0 x.1 x.2 in
    if_read P (is_unsupported (b ∷ rest)) _ _ (λ h. tt)
    (λ h. if_read P (b == 41) _ _
    (λ k. if_read P (depth == 0) _ _ (λ j. tt)
    (λ j. bind_read (λ x. QuantifierRead nodes rest x.0 x.1 x.2) P (quantifier_at nodes rest) (λ x. Ok (close_group x.0, x.1, x.2)) (quantifier_found nodes rest le)
    (λ x q. record {
      spelled = ap (λ n. n ∷ rest) (eq_from b 41 k) ∙ ap (λ t. 41 ∷ t) q.spelled;
      written = refl;
      count = q.count;
      few = q.few;
      fits = grind (arith, nat_tests);
    })))
    (λ k. if_read P (not (begins_node b)) _ _ (λ j. tt)
    (λ j. if_read P (nat_lt nodes 256) _ _
    (λ i. if_read P (b == 124) _ _
    (λ m. record { spelled = ap (λ n. n ∷ rest) (eq_from b 124 m); written = refl; count = refl; few = lt_from nodes 256 i; fits = tt })
    (λ m. if_read P (b == 40) _ _
    (λ o. if_read P (nat_lt depth 16) _ _
    (λ d. record { spelled = ap (λ n. n ∷ rest) (eq_from b 40 o); written = refl; count = refl; few = lt_from nodes 256 i; fits = omega (arith, lt_from depth 16 d) })
    (λ d. tt))
    (λ o. bind_read (λ x. (b ∷ rest ≡ test_spelling x.0 ++ x.1) × (is_test x.0 ≡ true)) P (test_at (b ∷ rest))
    (λ x. quantifier_at (nodes + 1) x.1 >>= λ y. Ok (one x.0 y.0, y.1, y.2))
    (test_found b rest (begins_char b (not_false (begins_node b) j) m o))
    (λ x t. bind_read (λ y. QuantifierRead (nodes + 1) x.1 y.0 y.1 y.2) P (quantifier_at (nodes + 1) x.1) (λ y. Ok (one x.0 y.0, y.1, y.2))
    (quantifier_found (nodes + 1) x.1 (lt_from nodes 256 i))
    (λ y q. record {
      spelled = t.0 ∙ ap (λ r. test_spelling x.0 ++ r) q.spelled ∙ sym (append_assoc (test_spelling x.0) (quantifier_spelling y.0) y.2);
      written = t.1;
      count = omega (arith, q.count);
      few = q.few;
      fits = tt;
    })))))
    (λ i. tt))))
