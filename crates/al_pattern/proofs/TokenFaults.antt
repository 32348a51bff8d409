-- Where reading a token fails, the fault stands where the grammar says.
use Rattle.std.proofs.Common.{◌≡◌, ◌≤◌, ◌+◌, ℕ, suc, Bool, true, false, not, cond, ◌&&◌, ◌||◌, ◌==◌, inl, inr, nat_lt, List, [], ◌∷◌, ◌++◌, length, Option, Some, None, Ok, if◌then◌else◌, refl, ap, sym, ◌∙◌, subst, append_assoc, arith}
use Rattle.std.proofs.lemmas.List.{append-nil}
use Rattle.al_pattern.specs.declared.letter.Letter.TheVariants.{Plain, Escaped}
use Rattle.al_pattern.specs.declared.letter.Item.TheVariants.{One}
use Rattle.al_pattern.specs.declared.fault.FaultKind.TheVariants.{Syntax, Unsupported, TooLarge, TooDeep}
use Rattle.al_pattern.specs.declared.token.Quantifier.{Quantifier}
use Rattle.al_pattern.specs.declared.token.Quantifier.TheVariants.{Once, Optional, Star, Plus}
use Rattle.al_pattern.specs.Bytes.{is_printable, is_char, is_plain, is_escape, is_left_out}
use Rattle.al_pattern.specs.Faults.{fault_at, ◌>>=◌}
use Rattle.al_pattern.specs.Letters.{escape_at}
use Rattle.al_pattern.specs.Classes.{begins_left_out}
use Rattle.al_pattern.specs.Tests.{Test, letter, dot, class, test_spelling, is_test}
use Rattle.al_pattern.specs.Trees.{Choice, single, nothing, character, group, quantifier_spelling, choice_spelling, choice_nodes, is_choice}
use Rattle.al_pattern.specs.Tokens.{close_group, one, is_unsupported, begins_node, escape_test, test_at, quantifier_of, quantifier_read, quantifier_at, close_at, one_at, token_at}
use Rattle.al_pattern.specs.Places.{IsForm, IsRising, HasFewNodes, IsWithin, Begins, IsLeftOut, escape, brace, is_form, is_test_form}
use Rattle.al_pattern.proofs.CutLemmas.{and_true, or_true}
use Rattle.al_pattern.proofs.TestLemmas.{lt_from, eq_from, not_true, not_false, or_false}
use Rattle.al_pattern.proofs.FoundLemmas.{test_found}
use Rattle.al_pattern.proofs.TokenLemmas.{begins_char}
use Rattle.al_pattern.proofs.GrammarLemmas.{outer_spelling, outer_nodes, AreOuter, IsProgress}
use Rattle.al_pattern.proofs.Scan.{Mode, fresh, behind_atom, behind_slash, Limits, State, at, started, begin, quantified, step, run, begun, run-append}
use Rattle.al_pattern.proofs.ScanLemmas.{Ready, Calm, calm_step, slash_runs, close_runs, Good, group_runs}
use Rattle.al_pattern.proofs.ScanTrees.{choice_mode, choice_ready, choice_runs, test_runs}
use Rattle.al_pattern.proofs.CloseLemmas.{test_form, choice_form, begins_shorter, read_spelling, progress_within, progress_rising, more_form, more_few, more_within, more_rising, bar_form, closed_more, closed_within, closed_rises}
use Rattle.al_pattern.proofs.StopLemmas.{Fails, if_fails, bind_fails, Located, located, limits, Reached, reached_more, Fine, no_form, no_few, no_deep, sound_rising, none_left_out}
use Rattle.al_pattern.proofs.FaultLemmas.{by_bool, left_out_node, Escapes, Clear, departure_at, large_at, deep_at, left_out_at, byte_out}
use Rattle.al_pattern.proofs.ClassStops.{KeptOut, kept_out, slash_mode, escape_fails}
use Rattle.al_pattern.proofs.ClassFaults.{not_and}
use Rattle.al_pattern.proofs.ItemFaults.{then_fails, class_fails}

-- ---- what was read is scanned

good_choice : (r : Bool) (x : Choice) → is_choice x ≡ true → Good r (is_choice x) (is_form x)
good_choice true x e = e
good_choice false x e = choice_form x e

outer_reached : (L : Limits) (outer : List Choice) → AreOuter outer → 16 ≤ L.deepest → length outer ≤ 16 → outer_nodes outer ≤ L.most
    → run L begun (outer_spelling outer) ≡ Some (at fresh (length outer) (outer_nodes outer))
outer_reached L [] around deep few room = refl
outer_reached L (x ∷ outer) around deep few room =
    let n = outer_nodes outer in
    let count : n + choice_nodes x + 1 ≡ n + (choice_nodes x + 1) = omega arith in
    run-append L begun (outer_spelling outer) (choice_spelling x ++ 40 ∷ [])
    ∙ ap (λ o. run L o (choice_spelling x ++ 40 ∷ [])) (outer_reached L outer around.2 deep (omega arith) (omega arith))
    ∙ choice_runs L x fresh (length outer) n (40 ∷ []) (good_choice L.rising x around.0) tt (omega arith) (omega (arith, around.1))
    ∙ group_runs L (choice_mode fresh x) (length outer) (n + choice_nodes x) [] (choice_ready fresh x tt) (omega arith) (omega arith)
    ∙ ap (λ (k : ℕ). Some (at fresh (suc (length outer)) k)) count

pub progress_reached : (top : Choice) (outer : List Choice) (n : ℕ) → IsProgress top outer n → Reached (read_spelling top outer) (choice_mode fresh top) (length outer) n
progress_reached top outer n p rising most deepest few deep =
    let L = limits rising most deepest in
    let k = outer_nodes outer in
    run-append L begun (outer_spelling outer) (choice_spelling top)
    ∙ ap (λ o. run L o (choice_spelling top)) (outer_reached L outer p.around deep (omega (arith, p.deep)) (omega (arith, p.count, p.few)))
    ∙ ap (λ t. run L (Some (at fresh (length outer) k)) t) (sym (append-nil (choice_spelling top)))
    ∙ choice_runs L top fresh (length outer) k [] (good_choice rising top p.written) tt (omega (arith, p.count, p.few)) (omega (arith, p.deep))
    ∙ ap (λ (j : ℕ). Some (at (choice_mode fresh top) (length outer) j)) (sym p.count)

pub progress_sound : (top : Choice) (outer : List Choice) (n : ℕ) → IsProgress top outer n → Fine (read_spelling top outer)
progress_sound top outer n p = sound_rising (read_spelling top outer) (progress_within top outer n p) (progress_rising top outer n p)

-- ---- what may stand there

class_form : (top : Choice) (outer : List Choice) (n : ℕ) → IsProgress top outer n → Begins IsForm (read_spelling top outer ++ 91 ∷ [])
unfolding test_spelling is_test is_plain
class_form top outer n p =
    begins_shorter IsForm (read_spelling top outer ++ 91 ∷ []) (110 ∷ 93 ∷ [])
    (subst (Begins IsForm) (sym (append_assoc (read_spelling top outer) (91 ∷ []) (110 ∷ 93 ∷ [])))
    (more_form top outer n (character (class false (One (Plain 110) ∷ []))) Once p refl))

slash_form : (top : Choice) (outer : List Choice) (n : ℕ) → IsProgress top outer n → Begins IsForm (read_spelling top outer ++ 92 ∷ [])
unfolding test_spelling is_test is_escape
slash_form top outer n p =
    begins_shorter IsForm (read_spelling top outer ++ 92 ∷ []) (110 ∷ [])
    (subst (Begins IsForm) (sym (append_assoc (read_spelling top outer) (92 ∷ []) (110 ∷ [])))
    (more_form top outer n (character (letter (Escaped 110))) Once p refl))

dot_form : (top : Choice) (outer : List Choice) (n : ℕ) → IsProgress top outer n → Begins IsForm (read_spelling top outer ++ 46 ∷ [])
unfolding test_spelling
dot_form top outer n p = more_form top outer n (character dot) Once p refl

char_form : (top : Choice) (outer : List Choice) (n b : ℕ) → IsProgress top outer n → is_char b ≡ true → Begins IsForm (read_spelling top outer ++ b ∷ [])
unfolding test_spelling is_test
char_form top outer n b p e = more_form top outer n (character (letter (Plain b))) Once p e

group_form : (top : Choice) (outer : List Choice) (n : ℕ) → IsProgress top outer n → Begins IsForm (read_spelling top outer ++ 40 ∷ [])
group_form top outer n p =
    begins_shorter IsForm (read_spelling top outer ++ 40 ∷ []) (41 ∷ [])
    (subst (Begins IsForm) (sym (append_assoc (read_spelling top outer) (40 ∷ []) (41 ∷ [])))
    (more_form top outer n (group (single nothing)) Once p refl))

group_few : (top : Choice) (outer : List Choice) (n : ℕ) → IsProgress top outer n → n + 1 ≤ 256 → Begins HasFewNodes (read_spelling top outer ++ 40 ∷ [])
group_few top outer n p room =
    begins_shorter HasFewNodes (read_spelling top outer ++ 40 ∷ []) (41 ∷ [])
    (subst (Begins HasFewNodes) (sym (append_assoc (read_spelling top outer) (40 ∷ []) (41 ∷ [])))
    (more_few top outer n (group (single nothing)) Once p refl (omega arith)))

node_form : (top : Choice) (outer : List Choice) (n b : ℕ) → IsProgress top outer n → begins_node b ≡ true → Begins IsForm (read_spelling top outer ++ b ∷ [])
node_form top outer n b p e = by_bar (b == 124) refl where
  moved : (k : ℕ) → (b == k) ≡ true → Begins IsForm (read_spelling top outer ++ k ∷ []) → Begins IsForm (read_spelling top outer ++ b ∷ [])
  moved k is there = subst (λ (i : ℕ). Begins IsForm (read_spelling top outer ++ i ∷ [])) (sym (eq_from b k is)) there

  by_class : (c : Bool) → (b == 91) ≡ c → (b == 124) ≡ false → (b == 40) ≡ false → (b == 46) ≡ false → (b == 92) ≡ false → Begins IsForm (read_spelling top outer ++ b ∷ [])
  by_class true is x y z w = moved 91 is (class_form top outer n p)
  by_class false is x y z w = char_form top outer n b p (begins_char b e x y z w is)

  by_slash : (c : Bool) → (b == 92) ≡ c → (b == 124) ≡ false → (b == 40) ≡ false → (b == 46) ≡ false → Begins IsForm (read_spelling top outer ++ b ∷ [])
  by_slash true is x y z = moved 92 is (slash_form top outer n p)
  by_slash false is x y z = by_class (b == 91) refl x y z is

  by_dot : (c : Bool) → (b == 46) ≡ c → (b == 124) ≡ false → (b == 40) ≡ false → Begins IsForm (read_spelling top outer ++ b ∷ [])
  by_dot true is x y = moved 46 is (dot_form top outer n p)
  by_dot false is x y = by_slash (b == 92) refl x y is

  by_group : (c : Bool) → (b == 40) ≡ c → (b == 124) ≡ false → Begins IsForm (read_spelling top outer ++ b ∷ [])
  by_group true is x = moved 40 is (group_form top outer n p)
  by_group false is x = by_dot (b == 46) refl x is

  by_bar : (c : Bool) → (b == 124) ≡ c → Begins IsForm (read_spelling top outer ++ b ∷ [])
  by_bar true is = moved 124 is (bar_form top outer n p)
  by_bar false is = by_group (b == 40) refl is

-- ---- what may not

slash_out : (L : Limits) (d n q : ℕ) → KeptOut q → run L (begin L d n 92) (q ∷ []) ≡ None
unfolding begin started is_char
slash_out L d n q k = by_room (nat_lt n L.most) where
  by_room : (room : Bool) → run L (cond room (Some (at behind_slash d (n + 1))) None) (q ∷ []) ≡ None
  by_room true = rw (k.no_escape, k.no_digit, k.no_space) refl
  by_room false = refl

brace_out : (L : Limits) (d n : ℕ) → begin L d n 123 ≡ None
unfolding begin is_char
brace_out L d n = refl

close_out : (L : Limits) (n : ℕ) → begin L 0 n 41 ≡ None
unfolding begin
close_out L n = refl

no_node_out : (L : Limits) (d n b : ℕ) → (b == 41) ≡ false → begins_node b ≡ false → begin L d n b ≡ None
unfolding begin
no_node_out L d n b e f = rw (e, f) refl

none_either : (c : Bool) → cond {A = Option State} c None None ≡ None
none_either true = refl
none_either false = refl

full_out : (L : Limits) (d n b : ℕ) → (b == 41) ≡ false → nat_lt n L.most ≡ false → begin L d n b ≡ None
unfolding begin
full_out L d n b e f = rw (e, f) (none_either (begins_node b))

deep_out : (L : Limits) (d n : ℕ) → nat_lt d L.deepest ≡ false → begin L d n 40 ≡ None
unfolding begin started is_char
deep_out L d n f = rw f (none_either (nat_lt n L.most))

-- ---- nothing left out

record TokenKept (b : ℕ) (rest : List ℕ) : Type 0 where
  pub shows : is_printable b ≡ true
  pub no_brace : (b == 123) ≡ false
  pub kept : (b == 92 && begins_left_out rest) ≡ false

token_kept : (b : ℕ) (rest : List ℕ) → is_unsupported (b ∷ rest) ≡ false → TokenKept b rest
unfolding is_unsupported
token_kept b rest e =
    let outer = or_false (not (is_printable b) || b == 123) (b == 92 && begins_left_out rest) e in
    let inner = or_false (not (is_printable b)) (b == 123) outer.0 in
    record { shows = not_false (is_printable b) inner.0; no_brace = inner.1; kept = outer.1 }

token_none : (top : Choice) (outer : List Choice) (n b : ℕ) (rest : List ℕ) → IsProgress top outer n → is_unsupported (b ∷ rest) ≡ false → IsLeftOut (read_spelling top outer) (b ∷ rest) → ⊥
token_none top outer n b rest p e =
    let k = token_kept b rest e in
    none_left_out (read_spelling top outer) b rest k.shows k.kept
    (λ is. absurd (let j : (123 == 123) ≡ false = subst (λ (i : ℕ). (i == 123) ≡ false) is k.no_brace in cc))
    (λ is open'. class_form top outer n p)

token_out : (top : Choice) (outer : List Choice) (n b : ℕ) (rest : List ℕ) → IsProgress top outer n → Calm (choice_mode fresh top) (b ∷ rest) → is_unsupported (b ∷ rest) ≡ true
    → IsLeftOut (read_spelling top outer) (b ∷ rest)
unfolding is_unsupported
token_out top outer n b rest p calm e =
    let front = read_spelling top outer in
    let m = choice_mode fresh top in
    let d = length outer in
    let reached = progress_reached top outer n p in
    elim (or_true (not (is_printable b) || b == 123) (b == 92 && begins_left_out rest) e) [
      | inl h ↦ elim (or_true (not (is_printable b)) (b == 123) h) [
        | inl k ↦ byte_out front b rest m d n reached (not_true (is_printable b) k)
        | inr k ↦
            let same = eq_from b 123 k in record {
              part = 123 ∷ [];
              rest = rest;
              whole = ap (λ (i : ℕ). i ∷ rest) same;
              other = brace (class_form top outer n p);
              refused = no_form front (123 ∷ []) m d n reached
                  (λ most deepest. calm_step (limits false most deepest) m d n 123 rest (subst (λ (i : ℕ). Calm m (i ∷ rest)) same calm) ∙ brace_out (limits false most deepest) d n);
            }
      ]
      | inr h ↦
          let both = and_true (b == 92) (begins_left_out rest) h in
          let same = eq_from b 92 both.0 in
          let out = left_out_is rest both.1 in record {
            part = 92 ∷ out.0 ∷ [];
            rest = out.1;
            whole = ap (λ (i : ℕ). i ∷ rest) same ∙ ap (λ t. 92 ∷ t) out.2;
            other = escape out.0 out.3;
            refused = no_form front (92 ∷ out.0 ∷ []) m d n reached
                (λ most deepest.
                ap (λ o. run (limits false most deepest) o (out.0 ∷ [])) (calm_step (limits false most deepest) m d n 92 rest (subst (λ (i : ℕ). Calm m (i ∷ rest)) same calm))
                ∙ slash_out (limits false most deepest) d n out.0 (kept_out out.0 out.3));
          }
    ] where
      left_out_is : (rest : List ℕ) → begins_left_out rest ≡ true → (q : ℕ) × (after : List ℕ) × (rest ≡ q ∷ after) × (is_left_out q ≡ true)
      left_out_is [] e = absurd (cc)
      left_out_is (q ∷ after) e = (q, after, refl, e)

-- ---- quantifiers

quantifier_spelled : (b : ℕ) (q : Quantifier) → quantifier_of b ≡ Some q → b ∷ [] ≡ quantifier_spelling q
quantifier_spelled b q e = by_optional (b == 63) refl e where
  some : (k : ℕ) (r : Quantifier) → (b == k) ≡ true → k ∷ [] ≡ quantifier_spelling r → Some r ≡ Some q → b ∷ [] ≡ quantifier_spelling q
  some k r is spelled same = ap (λ (i : ℕ). i ∷ []) (eq_from b k is) ∙ spelled ∙ ap quantifier_spelling (cc)

  by_plus : (c : Bool) → (b == 43) ≡ c → cond c (Some Plus) None ≡ Some q → b ∷ [] ≡ quantifier_spelling q
  by_plus true is same = some 43 Plus is refl same
  by_plus false is same = absurd (cc)

  by_star : (c : Bool) → (b == 42) ≡ c → cond c (Some Star) (if b == 43 then Some Plus else None) ≡ Some q → b ∷ [] ≡ quantifier_spelling q
  by_star true is same = some 42 Star is refl same
  by_star false is same = by_plus (b == 43) refl same

  by_optional : (c : Bool) → (b == 63) ≡ c → cond c (Some Optional) (if b == 42 then Some Star else if b == 43 then Some Plus else None) ≡ Some q → b ∷ [] ≡ quantifier_spelling q
  by_optional true is same = some 63 Optional is refl same
  by_optional false is same = by_star (b == 42) refl same

quantifier_none_left_out : (front : List ℕ) (b : ℕ) (rest : List ℕ) (q : Quantifier) → b ∷ [] ≡ quantifier_spelling q → IsLeftOut front (b ∷ rest) → ⊥
quantifier_none_left_out front b rest q spelled out = by_kind q spelled where
  known : (k : ℕ) → b ≡ k → is_printable k ≡ true → (k == 92) ≡ false → (k ≡ 123 → ⊥) → (k ≡ 45 → ⊥) → ⊥
  known k is shows slash no_brace no_hyphen =
      none_left_out front k rest shows (ap (λ r. r && begins_left_out rest) slash) (λ e. absurd (no_brace e)) (λ e. absurd (no_hyphen e))
      (subst (λ (i : ℕ). IsLeftOut front (i ∷ rest)) is out)

  by_kind : (q : Quantifier) → b ∷ [] ≡ quantifier_spelling q → ⊥
  by_kind Once e = absurd (cc)
  by_kind Optional e = known 63 (cc) refl refl (λ k. omega (arith, k)) (λ k. omega (arith, k))
  by_kind Star e = known 42 (cc) refl refl (λ k. omega (arith, k)) (λ k. omega (arith, k))
  by_kind Plus e = known 43 (cc) refl refl (λ k. omega (arith, k)) (λ k. omega (arith, k))

quantifier_fails : (whole front : List ℕ) (d n : ℕ) (text : List ℕ) → whole ≡ front ++ text → Fine front → Reached front behind_atom d n
    → ((q : Quantifier) → Begins IsForm (front ++ quantifier_spelling q)) → Fails (quantifier_at n text) (Located whole)
unfolding quantifier_at
quantifier_fails whole front d n [] split sound reached more = tt
quantifier_fails whole front d n (b ∷ rest) split sound reached more = by_kind (quantifier_of b) refl where
  full : (q : Quantifier) → quantifier_of b ≡ Some q → nat_lt n 256 ≡ false → (deepest : ℕ) → step (limits false 256 deepest) behind_atom d n b ≡ None
  full q is room deepest = ap (quantified (limits false 256 deepest) d n b) is ∙ ap (λ c. cond c (Some (at fresh d (n + 1))) None) room

  by_kind : (o : Option Quantifier) → quantifier_of b ≡ o → Fails (quantifier_read n b rest o) (Located whole)
  by_kind None is = tt
  by_kind (Some q) is =
      let spelled = quantifier_spelled b q is in
      if_fails (Located whole) (nat_lt n 256) _ _ (λ h. tt)
      (λ h. located whole front (b ∷ rest) TooLarge split (large_at front b rest sound (subst (λ t. Begins IsForm (front ++ t)) (sym spelled) (more q))
      (no_few front (b ∷ []) behind_atom d n reached (full q is h)) (quantifier_none_left_out front b rest q spelled)))

-- at a byte that begins nothing, nothing is completed that is left out
other_clear : (front : List ℕ) (b : ℕ) (rest : List ℕ) → is_left_out b ≡ false → (b ≡ 91 → ⊥) → Clear front (b ∷ rest)
other_clear front b rest kept no_open = ((λ before e out. absurd (let both = sym kept ∙ out in cc)), (λ before e is. absurd (no_open is)))

close_kept : is_left_out 41 ≡ false
unfolding is_left_out
close_kept = refl

close_clear : (front : List ℕ) (b : ℕ) (rest : List ℕ) → b ≡ 41 → Clear front (b ∷ rest)
close_clear front b rest e = subst (λ (i : ℕ). Clear front (i ∷ rest)) (sym e) (other_clear front 41 rest close_kept (λ k. omega (arith, k)))

no_node_clear : (front : List ℕ) (b : ℕ) (rest : List ℕ) → begins_node b ≡ false → Clear front (b ∷ rest)
unfolding is_char
no_node_clear front b rest e =
    other_clear front b rest (by_bool (is_left_out b) (λ h. let k = left_out_node b h in cc)) (λ is. let k : begins_node 91 ≡ false = subst (λ (i : ℕ). begins_node i ≡ false) is e in cc)

ready_steady : (m : Mode) → Ready m → Escapes m → ⊥
ready_steady fresh r e = e
ready_steady behind_atom r e = e
ready_steady m r e = r

-- ---- tokens

-- behind a group that is closed
close_fails : (whole : List ℕ) (top : Choice) (outer : List Choice) (n : ℕ) (rest : List ℕ) → whole ≡ read_spelling top outer ++ 41 ∷ rest → IsProgress top outer n → (length outer == 0) ≡ false
    → Fails (close_at n rest) (Located whole)
close_fails whole top [] n rest split p some = absurd (cc)
close_fails whole top (x ∷ outer) n rest split p some =
    let front = read_spelling top (x ∷ outer) in
    then_fails (Located whole) (quantifier_at n rest) (λ y. (close_group y.0, y.1, y.2))
    (quantifier_fails whole (front ++ 41 ∷ []) (length outer) n rest (split ∙ sym (append_assoc front (41 ∷ []) rest))
    (sound_rising (front ++ 41 ∷ []) (closed_within top x outer n p) (closed_rises top x outer n p))
    (reached_more front (41 ∷ []) (choice_mode fresh top) behind_atom (suc (length outer)) (length outer) n n (progress_reached top (x ∷ outer) n p)
    (λ rising most deepest few deep. close_runs (limits rising most deepest) (choice_mode fresh top) (length outer) n [] (choice_ready fresh top tt)))
    (λ q. closed_more top x outer n q p))

test_sound : (top : Choice) (outer : List Choice) (n : ℕ) (t : Test) → IsProgress top outer n → is_test t ≡ true → n + 1 ≤ 256 → Fine (read_spelling top outer ++ test_spelling t)
test_sound top outer n t p e room = sound_rising (read_spelling top outer ++ test_spelling t) (more_within top outer n t p (test_form t e) room) (more_rising top outer n t p e)

slash_sound : (top : Choice) (outer : List Choice) (n : ℕ) → IsProgress top outer n → n + 1 ≤ 256 → Fine (read_spelling top outer ++ 92 ∷ [])
unfolding test_spelling is_test is_escape
slash_sound top outer n p room =
    let front = read_spelling top outer in
    let group = sym (append_assoc front (92 ∷ []) (110 ∷ [])) in
    sound_rising (front ++ 92 ∷ [])
    (begins_shorter IsWithin (front ++ 92 ∷ []) (110 ∷ []) (subst (Begins IsWithin) group (more_within top outer n (letter (Escaped 110)) p refl room)))
    (begins_shorter IsRising (front ++ 92 ∷ []) (110 ∷ []) (subst (Begins IsRising) group (more_rising top outer n (letter (Escaped 110)) p refl)))

good_test : (r : Bool) (t : Test) → is_test t ≡ true → Good r (is_test t) (is_test_form t)
good_test true t e = e
good_test false t e = test_form t e

test_fails : (whole : List ℕ) (top : Choice) (outer : List Choice) (n b : ℕ) (rest : List ℕ) → whole ≡ read_spelling top outer ++ b ∷ rest → IsProgress top outer n → n + 1 ≤ 256
    → (b == 92 && begins_left_out rest) ≡ false → Fails (test_at (b ∷ rest)) (Located whole)
unfolding test_at
test_fails whole top outer n b rest split p room kept =
    let Q = Located whole in
    let front = read_spelling top outer in
    let m = choice_mode fresh top in
    let d = length outer in
    let reached = progress_reached top outer n p in
    if_fails Q (b == 46) _ _ (λ h. tt)
    (λ h. if_fails Q (b == 92) _ _
    (λ k. then_fails Q (escape_at rest) (λ x. (escape_test x.0, x.1))
    (escape_fails whole front rest behind_slash d (n + 1)
    (split ∙ ap (λ (i : ℕ). front ++ i ∷ rest) (eq_from b 92 k) ∙ sym (append_assoc front (92 ∷ []) rest)) (slash_sound top outer n p room)
    (reached_more front (92 ∷ []) m behind_slash d d n (n + 1) reached
    (λ rising most deepest few deep. slash_runs (limits rising most deepest) m d n [] (choice_ready fresh top tt) (omega arith))) slash_mode (not_and (b == 92) (begins_left_out rest) k kept)))
    (λ k. if_fails Q (b == 91) _ _
    (λ j. class_fails whole top outer n m d rest (split ∙ ap (λ (i : ℕ). front ++ i ∷ rest) (eq_from b 91 j)) p room reached (choice_ready fresh top tt))
    (λ j. tt)))

one_fails : (whole : List ℕ) (top : Choice) (outer : List Choice) (n b : ℕ) (rest : List ℕ) → whole ≡ read_spelling top outer ++ b ∷ rest → IsProgress top outer n → n + 1 ≤ 256
    → begins_node b ≡ true → (b == 124) ≡ false → (b == 40) ≡ false → (b == 92 && begins_left_out rest) ≡ false → Fails (one_at n (b ∷ rest)) (Located whole)
one_fails whole top outer n b rest split p room begins no_bar no_open kept =
    let Q = Located whole in
    let front = read_spelling top outer in
    let m = choice_mode fresh top in
    let d = length outer in
    bind_fails (λ x. (b ∷ rest ≡ test_spelling x.0 ++ x.1) × (is_test x.0 ≡ true)) Q (test_at (b ∷ rest)) (λ x. quantifier_at (n + 1) x.1 >>= λ y. Ok (one x.0 y.0, y.1, y.2))
    (test_found b rest (begins_char b begins no_bar no_open)) (test_fails whole top outer n b rest split p room kept)
    (λ x found.
    then_fails Q (quantifier_at (n + 1) x.1) (λ y. (one x.0 y.0, y.1, y.2))
    (quantifier_fails whole (front ++ test_spelling x.0) d (n + 1) x.1 (split ∙ ap (λ t. front ++ t) found.0 ∙ sym (append_assoc front (test_spelling x.0) x.1))
    (test_sound top outer n x.0 p found.1 room)
    (reached_more front (test_spelling x.0) m behind_atom d d n (n + 1) (progress_reached top outer n p)
    (λ rising most deepest few deep.
    ap (λ t. run (limits rising most deepest) (Some (at m d n)) t) (sym (append-nil (test_spelling x.0)))
    ∙ test_runs (limits rising most deepest) m d n x.0 [] (good_test rising x.0 found.1) (choice_ready fresh top tt) (omega arith)))
    (λ q. subst (Begins IsForm) (sym (append_assoc front (test_spelling x.0) (quantifier_spelling q)))
    (more_form top outer n (character x.0) q p (test_form x.0 found.1)))))

zero_from : (d : ℕ) → (d == 0) ≡ true → d ≡ 0
zero_from d e = eq_from d 0 e

pub token_fails : (whole : List ℕ) (top : Choice) (outer : List Choice) (n b : ℕ) (rest : List ℕ) → whole ≡ read_spelling top outer ++ b ∷ rest → IsProgress top outer n
    → Calm (choice_mode fresh top) (b ∷ rest) → Fails (token_at (length outer) n (b ∷ rest)) (Located whole)
unfolding token_at
token_fails whole top outer n b rest split p calm =
    let Q = Located whole in
    let front = read_spelling top outer in
    let m = choice_mode fresh top in
    let d = length outer in
    let reached = progress_reached top outer n p in
    let sound = progress_sound top outer n p in
    if_fails Q (is_unsupported (b ∷ rest)) _ _ (λ h. located whole front (b ∷ rest) Unsupported split
    (left_out_at front (b ∷ rest) m d n sound (token_out top outer n b rest p calm h) reached (ready_steady m (choice_ready fresh top tt))))
    (λ h.
    let none = token_none top outer n b rest p h in
    if_fails Q (b == 41) _ _
    (λ k. if_fails Q (d == 0) _ _
    (λ j. located whole front (b ∷ rest) Syntax split (departure_at front (b ∷ rest) sound
    (no_form front (b ∷ []) m d n reached
    (λ most deepest.
    calm_step (limits false most deepest) m d n b rest calm ∙ ap (begin (limits false most deepest) d n) (eq_from b 41 k)
    ∙ ap (λ (i : ℕ). begin (limits false most deepest) i n 41) (zero_from d j) ∙ close_out (limits false most deepest) n))
    none (close_clear front b rest (eq_from b 41 k))))
    (λ j. close_fails whole top outer n rest (split ∙ ap (λ (i : ℕ). front ++ i ∷ rest) (eq_from b 41 k)) p j))
    (λ k. if_fails Q (not (begins_node b)) _ _
    (λ j. located whole front (b ∷ rest) Syntax split (departure_at front (b ∷ rest) sound
    (no_form front (b ∷ []) m d n reached (λ most deepest. calm_step (limits false most deepest) m d n b rest calm ∙ no_node_out (limits false most deepest) d n b k (not_true (begins_node b) j)))
    none (no_node_clear front b rest (not_true (begins_node b) j))))
    (λ j.
    let begins = not_false (begins_node b) j in
    if_fails Q (nat_lt n 256) _ _
    (λ i.
    let room : n + 1 ≤ 256 = lt_from n 256 i in
    if_fails Q (b == 124) _ _ (λ g. tt)
    (λ g. if_fails Q (b == 40) _ _
    (λ o. if_fails Q (nat_lt d 16) _ _ (λ f. tt)
    (λ f.
    let same = eq_from b 40 o in
    subst (λ (c : ℕ). Located whole (fault_at TooDeep (c ∷ rest))) (sym same) (located whole front (40 ∷ rest) TooDeep (split ∙ ap (λ (c : ℕ). front ++ c ∷ rest) same)
    (deep_at front rest sound (group_few top outer n p room)
    (no_deep front (40 ∷ []) m d n reached
    (λ most. calm_step (limits false most 16) m d n 40 rest (subst (λ (c : ℕ). Calm m (c ∷ rest)) same calm) ∙ deep_out (limits false most 16) d n f))
    (subst (λ (c : ℕ). IsLeftOut front (c ∷ rest) → ⊥) same none)))))
    (λ o. one_fails whole top outer n b rest split p room begins g o (token_kept b rest h).kept)))
    (λ i. located whole front (b ∷ rest) TooLarge split (large_at front b rest sound (node_form top outer n b p begins)
    (no_few front (b ∷ []) m d n reached (λ deepest. calm_step (limits false 256 deepest) m d n b rest calm ∙ full_out (limits false 256 deepest) d n b k i))
    none)))))
