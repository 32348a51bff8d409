-- The newest of a list that is kept oldest first.
use Rattle.std.proofs.Common.{◌≡◌, ℕ, ◌-◌, List, ◌++◌, length, take, drop, reverse, inl, inr, sym, ◌∙◌, ap, arith, take-append-drop, length-drop, take_at, take_all}
use Rattle.std.proofs.lemmas.List.{reverse-append, length-reverse}
use Rattle.std.proofs.lemmas.Bool.{cases_lt}

-- a list turned round: first its end turned round, then its beginning
reverse-split : {E : Type 0} (xs : List E) (k : ℕ) → reverse xs ≡ reverse (drop k xs) ++ reverse (take k xs)
reverse-split xs k = ap reverse (sym (take-append-drop k xs)) ∙ reverse-append (take k xs) (drop k xs)

-- the last n of a list, turned round, are the first n of the list turned round
pub reverse-drop : {E : Type 0} (xs : List E) (n : ℕ) → reverse (drop (length xs - n) xs) ≡ take n (reverse xs)
reverse-drop xs n =
    elim (cases_lt (length xs) n) [
      | inl more ↦
          let none : length xs - n ≡ 0 = omega arith
          in ap (λ k. reverse (drop k xs)) none ∙ sym (take_all n (reverse xs) (omega (arith, length-reverse xs)))
      | inr within ↦
          let long : length (reverse (drop (length xs - n) xs)) ≡ n = omega (arith, length-reverse (drop (length xs - n) xs), length-drop (length xs - n) xs)
          in sym (ap (take n) (reverse-split xs (length xs - n)) ∙ take_at (reverse (drop (length xs - n) xs)) (reverse (take (length xs - n) xs)) n long)
    ]
