-- Lists in which one item at most passes a test, and what an insertion keeps apart.
use Rattle.std.proofs.Common.{◌≡◌, ℕ, ◌+◌, ◌<◌, ◌≤◌, Bool, true, false, not, cond, List, [], ◌∷◌, zero, suc, length, get_or, take, drop, refl, ◌∙◌, ap, arith}
use Rattle.std.proofs.lemmas.Bool.{false_from_ne_true}
use Rattle.std.proofs.lemmas.List.Elements.{All-append, All-cons, All-drop, All-take}
use Rattle.std.proofs.lemmas.List.Filters.{length-filter_both}
use Rattle.std.proofs.lemmas.List.Kept.{AllPairs-cons}
use Rattle.std.specs.List.{All, AllPairs, filter, insert, remove}

-- no two items pass
abbrev pub PassesOnce : {X : Type 0} → (X → Bool) → List X → Type 0
PassesOnce p xs = AllPairs (λ a b. p a ≡ true → p b ≡ true → ⊥) xs

pub all_others : {X : Type 0} (p : X → Bool) (xs : List X) → All (λ x. p x ≡ false) xs → filter (λ x. not (p x)) xs ≡ xs
all_others p [] none = refl
all_others p (x ∷ xs) none =
    let kept = filter (λ y. not (p y)) xs in
    let here : p x ≡ false = none 0 x (omega arith) in
    let rest : kept ≡ xs = all_others p xs (λ k d lt. none (suc k) d (omega arith)) in
    ap (λ b. cond (not b) (x ∷ kept) kept) here ∙ ap (λ l. x ∷ l) rest

at_most_one : {X : Type 0} (b : Bool) (x : X) (xs : List X) → length (cond b (x ∷ xs) xs) ≤ length xs + 1
at_most_one true x xs = omega arith
at_most_one false x xs = omega arith

-- where one passes, there are fewer others
pub fewer_others : {X : Type 0} (p : X → Bool) (xs : List X) (i : ℕ) (d : X) → i < length xs → p (get_or xs i d) ≡ true
    → length (filter (λ x. not (p x)) xs) + 1 ≤ length xs
fewer_others p [] i d lt passes = absurd (omega arith)
fewer_others p (x ∷ xs) zero d lt passes =
    let kept = filter (λ y. not (p y)) xs in
    let all = length-filter_both p (λ y. not (p y)) (λ y. refl) xs in
    let here = ap (λ b. length (cond (not b) (x ∷ kept) kept)) passes in
    omega arith
fewer_others p (x ∷ xs) (suc i) d lt passes =
    let kept = filter (λ y. not (p y)) xs in
    let rest = fewer_others p xs i d (omega arith) passes in
    let here = at_most_one (not (p x)) x kept in
    omega arith

-- without the one that passes
pub one_left_out : {X : Type 0} (p : X → Bool) (xs : List X) (i : ℕ) (d : X) → PassesOnce p xs → i < length xs → p (get_or xs i d) ≡ true
    → filter (λ x. not (p x)) xs ≡ remove xs i
one_left_out p [] i d once lt passes = absurd (omega arith)
one_left_out p (x ∷ xs) zero d once lt passes =
    let kept = filter (λ y. not (p y)) xs in
    let others : All (λ y. p y ≡ false) xs = λ k e within. false_from_ne_true _ (once 0 (suc k) e (omega arith) (omega arith) passes) in
    ap (λ b. cond (not b) (x ∷ kept) kept) passes ∙ all_others p xs others
one_left_out p (x ∷ xs) (suc i) d once lt passes =
    let kept = filter (λ y. not (p y)) xs in
    let here : p x ≡ false = false_from_ne_true _ (λ h. once 0 (suc i) d (omega arith) lt h passes) in
    let rest : kept ≡ remove xs i = one_left_out p xs i d (λ k j e below within. once (suc k) (suc j) e (omega arith) (omega arith)) (omega arith) passes in
    ap (λ b. cond (not b) (x ∷ kept) kept) here ∙ ap (λ l. x ∷ l) rest

all_inserted : {X : Type 0} (P : X → Type 0) (xs : List X) (n : ℕ) (y : X) → All P xs → P y → All P (insert xs n y)
all_inserted P xs n y each new =
    All-append P (take n xs) (y ∷ drop n xs) (All-take P n xs each) (All-cons P y (drop n xs) new (All-drop P n xs each))

-- a relation that goes both ways stays among all pairs where the new item has it to each
pub pairs_inserted : {X : Type 0} (R : X → X → Type 0) (back : (a b : X) → R a b → R b a) (xs : List X) (n : ℕ) (y : X) → n ≤ length xs
    → AllPairs R xs → All (λ x. R x y) xs → AllPairs R (insert xs n y)
pairs_inserted R back xs zero y le pairs each =
    AllPairs-cons R y xs (λ k d lt. back _ _ (each k d lt)) pairs
pairs_inserted R back [] (suc n) y le pairs each = absurd (omega arith)
pairs_inserted R back (x ∷ xs) (suc n) y le pairs each =
    let head : All (R x) xs = λ k d lt. pairs 0 (suc k) d (omega arith) (omega arith) in
    let tail : AllPairs R xs = λ k j e below within. pairs (suc k) (suc j) e (omega arith) (omega arith) in
    let rest = pairs_inserted R back xs n y (omega arith) tail (λ k d lt. each (suc k) d (omega arith)) in
    AllPairs-cons R x (insert xs n y) (all_inserted (R x) xs n y head (each 0 x (omega arith))) rest
