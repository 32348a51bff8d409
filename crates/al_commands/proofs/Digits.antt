-- The digits of a status.
use Rattle.std.proofs.Common.{◌≡◌, inl, inr, ℕ, zero, suc, ◌+◌, ◌*◌, ◌/◌, ◌%◌, ◌<◌, ◌≤◌, false, List, [], ◌∷◌, ◌++◌, length, get_or, refl, sym, ap, ◌∙◌, arith}
use Rattle.std.specs.Prelude.{decimal, ⊤}
use Rattle.std.specs.Fmt.{digits, digits_onto}
use Rattle.std.proofs.lemmas.Bool.{cases_lt}
use Rattle.std.proofs.lemmas.Bool.Decides.{nat_tests}
use Rattle.std.proofs.lemmas.Fmt.{decimal_digit, decimal_step}
use Rattle.al_commands.specs.Told.{status_told, three_digits}

-- all are digits
abbrev AreDigits : List ℕ → Type 0
AreDigits [] = ⊤
AreDigits (d ∷ ds) = (48 ≤ d) × AreDigits ds

-- the last digit, of a number that has no other
less : (k n : ℕ) (acc : List ℕ) → n < 10 → digits_onto (suc k) 10 false n acc ≡ (48 + n) ∷ acc
less k n acc small = grind (arith, nat_tests)

-- the last digit, of a number that has more
more : (k n : ℕ) (acc : List ℕ) → 10 ≤ n → digits_onto (suc k) 10 false n acc ≡ digits_onto k 10 false (n / 10) ((48 + n % 10) ∷ acc)
more k n acc large = grind (arith, nat_tests)

-- digits in front of digits
onto : (k n : ℕ) (acc : List ℕ) → AreDigits acc → AreDigits (digits_onto k 10 false n acc) × (length acc ≤ length (digits_onto k 10 false n acc))
onto zero n acc are = (are, omega arith)
onto (suc k) n acc are =
    elim (cases_lt n 10) [
      | inl small ↦ rw (less k n acc small) ((omega arith, are), omega arith)
      | inr large ↦
          let behind = onto k (n / 10) ((48 + n % 10) ∷ acc) (omega arith, are) in
          rw (more k n acc large) (behind.0, omega (arith, behind.1))
    ]

-- at least one more of them
one_more : (k n : ℕ) (acc : List ℕ) → AreDigits acc → suc (length acc) ≤ length (digits_onto (suc k) 10 false n acc)
one_more k n acc are =
    elim (cases_lt n 10) [
      | inl small ↦ rw (less k n acc small) (omega arith)
      | inr large ↦ rw (more k n acc large) (omega (arith, (onto k (n / 10) ((48 + n % 10) ∷ acc) (omega arith, are)).1))
    ]

digit_at : (xs ys : List ℕ) (i : ℕ) → AreDigits xs → i < length xs → 48 ≤ get_or (xs ++ ys) i 0
digit_at [] ys i are within = absurd (omega arith)
digit_at (x ∷ xs) ys zero are within = are.0
digit_at (x ∷ xs) ys (suc i) are within = digit_at xs ys i are.1 (omega arith)

-- a number of four digits or more has a digit behind three
pub fourth : (n : ℕ) (ys : List ℕ) → 1000 ≤ n → 48 ≤ get_or (decimal n ++ ys) 3 0
unfolding digits
fourth n ys large =
    let acc : List ℕ = (48 + n / 10 / 10 % 10) ∷ (48 + n / 10 % 10) ∷ (48 + n % 10) ∷ [] in
    let same : digits_onto 64 10 false n [] ≡ digits_onto 61 10 false (n / 10 / 10 / 10) acc =
    more 63 n [] (omega arith) ∙ more 62 (n / 10) ((48 + n % 10) ∷ []) (omega arith) ∙ more 61 (n / 10 / 10) ((48 + n / 10 % 10) ∷ (48 + n % 10) ∷ []) (omega arith) in
    let are : AreDigits acc = (omega arith, (omega arith, (omega arith, tt))) in
    rw same (digit_at (digits_onto 61 10 false (n / 10 / 10 / 10) acc) ys 3 (onto 61 (n / 10 / 10 / 10) acc are).0 (omega (arith, one_more 60 (n / 10 / 10 / 10) acc are)))

two : (n : ℕ) → 10 ≤ n → n < 100 → decimal n ≡ (48 + n / 10) ∷ (48 + n % 10) ∷ []
two n low high = decimal_step n low (omega arith) ∙ ap (λ (ds : List ℕ). ds ++ ((48 + n % 10) ∷ [])) (decimal_digit (n / 10) (omega arith))

pub three : (n : ℕ) → 100 ≤ n → n < 1000 → decimal n ≡ (48 + n / 10 / 10) ∷ (48 + n / 10 % 10) ∷ (48 + n % 10) ∷ []
three n low high = decimal_step n (omega arith) (omega arith) ∙ ap (λ (ds : List ℕ). ds ++ ((48 + n % 10) ∷ [])) (two (n / 10) (omega arith) (omega arith))

told_small : (s : ℕ) → s < 100 → status_told s ≡ 0
told_small s small = grind (arith, nat_tests)

told_large : (s : ℕ) → 1000 ≤ s → status_told s ≡ 0
told_large s large = grind (arith, nat_tests)

told_three : (s : ℕ) → 100 ≤ s → s < 1000 → status_told s ≡ s
told_three s low high = grind (arith, nat_tests)

-- three bytes of which the second is a space
second_blank : (a b : ℕ) → three_digits a 32 b ≡ 0
second_blank a b = grind (arith, nat_tests)

third_blank : (a b : ℕ) → three_digits a b 32 ≡ 0
third_blank a b = grind (arith, nat_tests)

-- three digits are their number
three_are : (a b c : ℕ) → a < 10 → b < 10 → c < 10 → three_digits (48 + a) (48 + b) (48 + c) ≡ a * 100 + b * 10 + c
three_are a b c x y z = grind (arith, nat_tests)

-- no status of three digits is told by so few bytes
pub none_short : (s : ℕ) (rest : List ℕ) → length (decimal s ++ 32 ∷ rest) < 4 → 0 ≡ status_told s
none_short s rest few =
    elim (cases_lt s 100) [
      | inl small ↦ sym (told_small s small)
      | inr low ↦ elim (cases_lt s 1000) [
        | inl high ↦ absurd (let e = three s low high in let few' : length (((48 + s / 10 / 10) ∷ (48 + s / 10 % 10) ∷ (48 + s % 10) ∷ []) ++ 32 ∷ rest) < 4 = rw e at few in omega arith)
        | inr large ↦ sym (told_large s large)
      ]
    ]

-- nor where the fourth byte isn't a space
pub none_other : (s : ℕ) (rest : List ℕ) → (get_or (decimal s ++ 32 ∷ rest) 3 0 ≡ 32 → ⊥) → 0 ≡ status_told s
none_other s rest other =
    elim (cases_lt s 100) [
      | inl small ↦ sym (told_small s small)
      | inr low ↦ elim (cases_lt s 1000) [
        | inl high ↦ absurd (other (rw (three s low high) refl))
        | inr large ↦ sym (told_large s large)
      ]
    ]

-- where it is, the three bytes tell the status
pub whole : (s : ℕ) (rest : List ℕ) → get_or (decimal s ++ 32 ∷ rest) 3 0 ≡ 32
    → three_digits (get_or (decimal s ++ 32 ∷ rest) 0 0) (get_or (decimal s ++ 32 ∷ rest) 1 0) (get_or (decimal s ++ 32 ∷ rest) 2 0) ≡ status_told s
whole s rest blank =
    elim (cases_lt s 100) [
      | inl small ↦ elim (cases_lt s 10) [
        | inl one ↦ rw (decimal_digit s one) (second_blank (48 + s) (get_or rest 0 0) ∙ sym (told_small s small))
        | inr ten ↦ rw (two s ten small) (third_blank (48 + s / 10) (48 + s % 10) ∙ sym (told_small s small))
      ]
      | inr low ↦ elim (cases_lt s 1000) [
        | inl high ↦ rw (three s low high) (three_are (s / 10 / 10) (s / 10 % 10) (s % 10) (omega arith) (omega arith) (omega arith) ∙ (let e : s / 10 / 10 * 100 + s / 10 % 10 * 10 + s % 10 ≡ s = omega arith in e) ∙ sym (told_three s low high))
        | inr large ↦ absurd (omega (arith, fourth s (32 ∷ rest) large))
      ]
    ]
