-- The first fault of a text stands where the grammar says.
use Rattle.std.proofs.Common.{◌≡◌, ◌≤◌, ◌<◌, ◌+◌, ◌-◌, ℕ, zero, suc, true, not, ◌==◌, nat_lt, List, [], ◌∷◌, ◌++◌, length, take, drop, Option, Some, None, Result, Ok, Err, IfOk, if◌then◌else◌, refl, ap, sym, ◌∙◌, subst, append_assoc, length-append, arith}
use Rattle.std.proofs.lemmas.List.{take_at, drop_at}
use Rattle.al_pattern.specs.declared.fault.FaultKind.{FaultKind}
use Rattle.al_pattern.specs.declared.fault.FaultKind.TheVariants.{Syntax, Unsupported, TooLarge, TooDeep}
use Rattle.al_pattern.specs.declared.fault.Fault.{Fault}
use Rattle.al_pattern.specs.declared.fault.PatternFault.{PatternFault}
use Rattle.al_pattern.specs.declared.token.Quantifier.{Quantifier}
use Rattle.al_pattern.specs.declared.token.Quantifier.TheVariants.{Optional, Star, Plus}
use Rattle.al_pattern.specs.Faults.{◌>>=◌}
use Rattle.al_pattern.specs.Tests.{test_spelling}
use Rattle.al_pattern.specs.Trees.{Choice, single, either, Atom, character, group, quantifier_spelling}
use Rattle.al_pattern.specs.Tokens.{Sign, bar, open_group, close_group, one, is_unsupported, begins_node, test_at, quantifier_read, quantifier_at, token_at}
use Rattle.al_pattern.specs.Reading.{Progress, start, with_atom, put, ended, read_from, reading, fault_named, first_fault, fault_or_none}
use Rattle.al_pattern.specs.Places.{IsFaultAt, IsFaultIn, IsPlaced}
use Rattle.al_pattern.proofs.TestLemmas.{if_read, bind_read, option_if}
use Rattle.al_pattern.proofs.TokenLemmas.{TokenRead, token_found, sign_spelling, is_sign, FitsAt}
use Rattle.al_pattern.proofs.OnlyLemmas.{test_takes}
use Rattle.al_pattern.proofs.GrammarLemmas.{IsProgress, token_adds}
use Rattle.al_pattern.proofs.Scan.{fresh}
use Rattle.al_pattern.proofs.ScanLemmas.{Calm}
use Rattle.al_pattern.proofs.ScanTrees.{quantifier_mode, choice_mode}
use Rattle.al_pattern.proofs.CloseLemmas.{read_spelling}
use Rattle.al_pattern.proofs.StopLemmas.{Fails, bind_fails, Located, located, whole_reached, end_left_out}
use Rattle.al_pattern.proofs.FaultLemmas.{departure_at}
use Rattle.al_pattern.proofs.ItemFaults.{both_read}
use Rattle.al_pattern.proofs.TokenFaults.{progress_reached, progress_sound, token_fails}

-- ---- behind a token no quantifier is left

abbrev QuantifierCalm : Quantifier → List ℕ → Type 0
QuantifierCalm q rest = Calm (quantifier_mode q) rest

abbrev SignCalm : Sign → List ℕ → Type 0
SignCalm bar rest = Unit {0}
SignCalm open_group rest = Unit {0}
SignCalm (close_group q) rest = QuantifierCalm q rest
SignCalm (one t q) rest = QuantifierCalm q rest

quantifier_calm : (n : ℕ) (text : List ℕ) → IfOk (quantifier_at n text) (λ x. QuantifierCalm x.0 x.2)
unfolding quantifier_at
quantifier_calm n [] = tt
quantifier_calm n (b ∷ rest) =
    let P : Quantifier × ℕ × List ℕ → Type 0 = λ x. QuantifierCalm x.0 x.2 in
    let R : Option Quantifier → Type 0 = λ o. IfOk (quantifier_read n b rest o) P in
    option_if R (b == 63) (Some Optional) (if b == 42 then Some Star else if b == 43 then Some Plus else None)
    (λ h. if_read P (nat_lt n 256) _ _ (λ i. tt) (λ i. tt))
    (λ h. option_if R (b == 42) (Some Star) (if b == 43 then Some Plus else None)
    (λ k. if_read P (nat_lt n 256) _ _ (λ i. tt) (λ i. tt))
    (λ k. option_if R (b == 43) (Some Plus) None
    (λ j. if_read P (nat_lt n 256) _ _ (λ i. tt) (λ i. tt))
    (λ j. rw (h, k, j) refl)))

-- a reading goes on with what another gave
any_read : {A : Type 0} (r : Result A Fault) → IfOk r (λ x. Unit {0})
any_read (Ok x) = tt
any_read (Err f) = tt

token_calm : (d n : ℕ) (text : List ℕ) → IfOk (token_at d n text) (λ x. SignCalm x.0 x.2)
unfolding token_at
token_calm d n [] = tt
token_calm d n (b ∷ rest) =
    let P : Sign × ℕ × List ℕ → Type 0 = λ x. SignCalm x.0 x.2 in
    let Q : Quantifier × ℕ × List ℕ → Type 0 = λ x. QuantifierCalm x.0 x.2 in
    if_read P (is_unsupported (b ∷ rest)) _ _ (λ h. tt)
    (λ h. if_read P (b == 41) _ _
    (λ k. if_read P (d == 0) _ _ (λ j. tt)
    (λ j. bind_read Q P (quantifier_at n rest) (λ x. Ok (close_group x.0, x.1, x.2)) (quantifier_calm n rest) (λ x q. q)))
    (λ k. if_read P (not (begins_node b)) _ _ (λ j. tt)
    (λ j. if_read P (nat_lt n 256) _ _
    (λ i. if_read P (b == 124) _ _ (λ m. tt)
    (λ m. if_read P (b == 40) _ _
    (λ o. if_read P (nat_lt d 16) _ _ (λ e. tt) (λ e. tt))
    (λ o. bind_read (λ x. Unit {0}) P (test_at (b ∷ rest)) (λ x. quantifier_at (n + 1) x.1 >>= λ y. Ok (one x.0 y.0, y.1, y.2)) (any_read (test_at (b ∷ rest)))
    (λ x t. bind_read Q P (quantifier_at (n + 1) x.1) (λ y. Ok (one x.0 y.0, y.1, y.2)) (quantifier_calm (n + 1) x.1) (λ y q. q)))))
    (λ i. tt))))

mode_with_atom : (x : Choice) (a : Atom) (q : Quantifier) → choice_mode fresh (with_atom x a q) ≡ quantifier_mode q
mode_with_atom (single b) a q = refl
mode_with_atom (either x b) a q = refl

calm_with_atom : (x : Choice) (a : Atom) (q : Quantifier) (rest : List ℕ) → QuantifierCalm q rest → Calm (choice_mode fresh (with_atom x a q)) rest
calm_with_atom x a q rest calm = subst (λ m. Calm m rest) (sym (mode_with_atom x a q)) calm

close_calm : (q : Quantifier) (top : Choice) (outer : List Choice) (rest : List ℕ) → 0 < length outer → QuantifierCalm q rest
    → Calm (choice_mode fresh (put (close_group q) (record { top = top; outer = outer })).top) rest
close_calm q top [] rest some calm = absurd (omega arith)
close_calm q top (x ∷ outer) rest some calm = calm_with_atom x (group top) q rest calm

put_calm : (sign : Sign) (p : Progress) (rest : List ℕ) → FitsAt (length p.outer) sign → SignCalm sign rest → Calm (choice_mode fresh (put sign p).top) rest
put_calm bar p rest fits calm = tt
put_calm open_group p rest fits calm = tt
put_calm (close_group q) p rest fits calm = close_calm q p.top p.outer rest fits calm
put_calm (one t q) p rest fits calm = calm_with_atom p.top (character t) q rest calm

-- ---- the whole text

end_fails : (whole : List ℕ) (top : Choice) (outer : List Choice) (n : ℕ) → whole ≡ read_spelling top outer ++ [] → IsProgress top outer n → Fails (ended top outer) (Located whole)
end_fails whole top [] n split p = tt
end_fails whole top (x ∷ outer) n split p =
    located whole (read_spelling top (x ∷ outer)) [] Syntax split (departure_at (read_spelling top (x ∷ outer)) [] (progress_sound top (x ∷ outer) n p)
    (λ tree e spelled.
    let k = (whole_reached (read_spelling top (x ∷ outer)) (choice_mode fresh top) (suc (length outer)) n tree (progress_reached top (x ∷ outer) n p) e spelled).1 in
    omega (arith, k))
    (end_left_out (read_spelling top (x ∷ outer))) tt)

sign_takes : (sign : Sign) → is_sign sign ≡ true → 1 ≤ length (sign_spelling sign)
sign_takes bar e = omega arith
sign_takes open_group e = omega arith
sign_takes (close_group q) e = omega arith
sign_takes (one t q) e = omega (arith, test_takes t [] e, length-append (test_spelling t) [], length-append (test_spelling t) (quantifier_spelling q))

-- what is left behind a token is shorter
rest_shorter : (sign : Sign) (b : ℕ) (text rest : List ℕ) (steps : ℕ) → b ∷ text ≡ sign_spelling sign ++ rest → is_sign sign ≡ true → length (b ∷ text) ≤ suc steps → length rest ≤ steps
rest_shorter sign b text rest steps e ok le = omega (arith, ap length e, length-append (sign_spelling sign) rest, sign_takes sign ok, le)

read_fails : (steps : ℕ) (whole : List ℕ) (n : ℕ) (p : Progress) (text : List ℕ) → length text ≤ steps → whole ≡ read_spelling p.top p.outer ++ text → IsProgress p.top p.outer n
    → Calm (choice_mode fresh p.top) text → Fails (read_from steps n p text) (Located whole)
unfolding read_from
read_fails steps whole n p [] enough split good calm = end_fails whole p.top p.outer n split good
read_fails zero whole n p (b ∷ rest) enough split good calm = absurd (omega arith)
read_fails (suc steps) whole n p (b ∷ rest) enough split good calm =
    let d = length p.outer in
    bind_fails (λ x. TokenRead d n (b ∷ rest) x.0 x.1 x.2 × SignCalm x.0 x.2) (Located whole) (token_at d n (b ∷ rest)) (λ x. read_from steps x.1 (put x.0 p) x.2)
    (both_read (λ x. TokenRead d n (b ∷ rest) x.0 x.1 x.2) (λ x. SignCalm x.0 x.2) (token_at d n (b ∷ rest)) (token_found d n (b ∷ rest) good.few) (token_calm d n (b ∷ rest)))
    (token_fails whole p.top p.outer n b rest split good calm)
    (λ x found.
    let r = found.0 in
    let more = token_adds x.0 p n x.1 good r.fits r.written r.count r.few in
    let split' : whole ≡ read_spelling (put x.0 p).top (put x.0 p).outer ++ x.2 =
    split ∙ ap (λ t. read_spelling p.top p.outer ++ t) r.spelled ∙ sym (append_assoc (read_spelling p.top p.outer) (sign_spelling x.0) x.2) ∙ ap (λ t. t ++ x.2) (sym more.spelled) in
    read_fails steps whole x.1 (put x.0 p) x.2 (rest_shorter x.0 b rest x.2 steps r.spelled r.written enough) split' more.good (put_calm x.0 p x.2 r.fits found.1))

reading_fails : (text : List ℕ) → Fails (reading text) (Located text)
reading_fails text =
    read_fails (length text) text 0 start text (omega arith) refl (record { written = refl; deep = omega arith; around = tt; count = refl; few = omega arith }) tt

-- ---- the law

place_is : (text : List ℕ) (kind : FaultKind) (n : ℕ) → IsFaultIn kind text n → IsPlaced text (fault_named kind n)
place_is text Syntax n h = h
place_is text Unsupported n h = h
place_is text TooLarge n h = h
place_is text TooDeep n h = h

located_in : (text : List ℕ) (f : Fault) → Located text f → IsFaultIn f.kind text (length text - f.left)
located_in text f l =
    let size : length text ≡ length l.front + length l.behind = ap length l.split ∙ length-append l.front l.behind in
    let place : length l.front ≡ length text - f.left = omega (arith, l.left, size) in
    let front : l.front ≡ take (length text - f.left) text = sym (take_at l.front l.behind (length text - f.left) place) ∙ ap (take (length text - f.left)) (sym l.split) in
    let behind : l.behind ≡ drop (length text - f.left) text = sym (drop_at l.front l.behind (length text - f.left) place) ∙ ap (drop (length text - f.left)) (sym l.split) in
    (omega arith, subst (λ t. IsFaultAt f.kind (take (length text - f.left) text) t) behind (subst (λ t. IsFaultAt f.kind t l.behind) front l.found))

pub fault_placed : (text : List ℕ) (fault : PatternFault) → first_fault text ≡ Some fault → IsPlaced text fault
unfolding first_fault
fault_placed text fault e = by_read (reading text) (reading_fails text) e where
  by_read : (r : Result Choice Fault) → Fails r (Located text) → fault_or_none text r ≡ Some fault → IsPlaced text fault
  by_read (Ok tree) found same = absurd (cc)
  by_read (Err f) found same = subst (IsPlaced text) (cc) (place_is text f.kind (length text - f.left) (located_in text f found))
