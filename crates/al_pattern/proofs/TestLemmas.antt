-- What tests on bytes tell.
use Rattle.std.proofs.Common.{◌≡◌, ◌≤◌, ◌+◌, ℕ, Bool, true, false, not, cond, ◌&&◌, ◌||◌, ◌==◌, inl, inr, nat_lt, nat_le, drop, Option, List, [], ◌∷◌, Result, Ok, Err, IfOk, refl, ap, subst, arith}
use Rattle.std.specs.List.{list_all}
use Rattle.std.proofs.lemmas.Bool.Decides.{eqb_tells, nat_tests}
use Rattle.al_pattern.specs.declared.fault.Fault.{Fault}
use Rattle.al_pattern.specs.Bytes.{among, begins_with}
use Rattle.al_pattern.specs.Faults.{◌>>=◌}

-- a fact of what was read, whichever way a test goes, and after another reader
pub if_read : {A : Type 0} (P : A → Type 0) (b : Bool) (x y : Result A Fault) → (b ≡ true → IfOk x P) → (b ≡ false → IfOk y P) → IfOk (cond b x y) P
if_read P true x y f g = f refl
if_read P false x y f g = g refl

pub bind_read : {A B : Type 0} (Q : A → Type 0) (P : B → Type 0) (r : Result A Fault) (f : A → Result B Fault) → IfOk r Q → ((x : A) → Q x → IfOk (f x) P) → IfOk (r >>= f) P
bind_read Q P (Ok x) f q g = g x q
bind_read Q P (Err e) f q g = tt

pub option_if : {A : Type 0} (P : Option A → Type 0) (b : Bool) (x y : Option A) → (b ≡ true → P x) → (b ≡ false → P y) → P (cond b x y)
option_if P true x y f g = f refl
option_if P false x y f g = g refl

pub lt_from : (a b : ℕ) → nat_lt a b ≡ true → a + 1 ≤ b
lt_from a b e = grind (arith, nat_tests)

pub le_from : (a b : ℕ) → nat_lt a b ≡ false → nat_le b a ≡ true
le_from a b e = grind (arith, nat_tests)

pub eq_from : (a b : ℕ) → (a == b) ≡ true → a ≡ b
eq_from a b e = elim (eqb_tells a b) [ inl h ↦ h.1 | inr h ↦ absurd (let f = h.0 in cc) ]

-- a byte that passes a test which another fails is another byte
pub differs : (p : ℕ → Bool) (b k : ℕ) → p b ≡ true → p k ≡ false → (b == k) ≡ false
differs p b k passes never = elim (eqb_tells b k) [
  | inl h ↦ absurd (let e = ap p h.1 in cc)
  | inr h ↦ h.0
]

-- a byte among some passes what each of them passes
pub among_all : (p : ℕ → Bool) (bytes : List ℕ) (b : ℕ) → among bytes b ≡ true → list_all p bytes ≡ true → p b ≡ true
among_all p [] b e f = absurd (cc)
among_all p (x ∷ bytes) b e f = elim (eqb_tells x b) [
  | inl h ↦ subst (λ n. p n ≡ true) h.1 (first (p x) (list_all p bytes) f)
  | inr h ↦ among_all p bytes b (subst (λ r. (r || among bytes b) ≡ true) h.0 e) (rest (p x) (list_all p bytes) f)
] where
  first : (u v : Bool) → (u && v) ≡ true → u ≡ true
  first true v e = refl
  first false v e = absurd (cc)

  rest : (u v : Bool) → (u && v) ≡ true → v ≡ true
  rest true v e = e
  rest false v e = absurd (cc)

pub not_true : (b : Bool) → not b ≡ true → b ≡ false
not_true true e = absurd (cc)
not_true false e = refl

pub not_false : (b : Bool) → not b ≡ false → b ≡ true
not_false true e = refl
not_false false e = absurd (cc)

pub or_false : (a b : Bool) → (a || b) ≡ false → (a ≡ false) × (b ≡ false)
or_false true b e = absurd (cc)
or_false false b e = (refl, e)

-- the first byte
pub begins_is : (b : ℕ) (text : List ℕ) → begins_with b text ≡ true → (rest : List ℕ) × (text ≡ b ∷ rest)
begins_is b [] e = absurd (cc)
begins_is b (x ∷ rest) e = (rest, ap (λ n. n ∷ rest) (eq_from x b e))

pub drop_begins : (b : ℕ) (text : List ℕ) → begins_with b text ≡ true → text ≡ b ∷ drop 1 text
drop_begins b [] e = absurd (cc)
drop_begins b (x ∷ rest) e = ap (λ n. n ∷ rest) (eq_from x b e)
