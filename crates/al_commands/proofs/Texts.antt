-- Texts that a call makes, by other words.
use Rattle.std.proofs.Common.{◌≡◌, ℕ, IfOk, List, ◌++◌, Result, Ok, Err, ◌∙◌, append_assoc}

-- a fact of an answer, in other words
pub in_other_words : {T E : Type 0} (seen : T → List ℕ) (result : Result T E) (xs ys : List ℕ) → xs ≡ ys → IfOk result (λ value. seen value ≡ xs) → IfOk result (λ value. seen value ≡ ys)
in_other_words seen (Ok value) xs ys same is = is ∙ same
in_other_words seen (Err fault) xs ys same is = tt

-- texts joined from the right are those joined from the left
pub five : (a b c d e : List ℕ) → a ++ (b ++ (c ++ (d ++ e))) ≡ a ++ b ++ c ++ d ++ e
five a b c d e = simp append_assoc

pub six : (a b c d e f : List ℕ) → a ++ (b ++ (c ++ (d ++ (e ++ f)))) ≡ a ++ b ++ c ++ d ++ e ++ f
six a b c d e f = simp append_assoc

-- the same, where two in the middle are one
pub eight : (a b c d e f g h : List ℕ) → a ++ (b ++ (c ++ (d ++ (e ++ (f ++ (g ++ h)))))) ≡ a ++ b ++ c ++ d ++ e ++ (f ++ g) ++ h
eight a b c d e f g h = simp append_assoc
