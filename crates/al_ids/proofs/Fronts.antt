-- The front of a list of bytes that pass a test, and what stands behind it.
use Rattle.std.proofs.Common.{◌≡◌, inl, inr, ℕ, Bool, true, false, not, ◌&&◌, List, [], ◌∷◌, ◌++◌, length, take, drop, refl, sym, ap, ◌∙◌, arith}
use Rattle.std.specs.List.{take_while, prefix_len, list_all}
use Rattle.std.proofs.lemmas.Bool.{cases_Bool}
use Rattle.std.proofs.lemmas.List.{take_at, drop_at}
use Rattle.al_ids.specs.StepReading.{front_of, behind_front}

front_len : (p : ℕ → Bool) (xs : List ℕ) → prefix_len p xs ≡ length (front_of p xs)
front_len p [] = refl
front_len p (x ∷ xs) = elim (cases_Bool (p x)) [
  | inl passes ↦ rw passes (omega (arith, front_len p xs))
  | inr fails ↦ rw fails refl
]

pub joined : (p : ℕ → Bool) (xs : List ℕ) → front_of p xs ++ behind_front p xs ≡ xs
joined p [] = refl
joined p (x ∷ xs) = elim (cases_Bool (p x)) [
  | inl passes ↦ rw passes (ap (λ l. x ∷ l) (joined p xs))
  | inr fails ↦ rw fails refl
]

while_front : (p : ℕ → Bool) (xs : List ℕ) → take_while p xs ≡ front_of p xs
while_front p xs =
    ap (take (prefix_len p xs)) (sym (joined p xs)) ∙ take_at (front_of p xs) (behind_front p xs) (prefix_len p xs) (sym (front_len p xs))

pub front_taken : (p : ℕ → Bool) (xs : List ℕ) (n : ℕ) → n ≡ length (take_while p xs) → take n xs ≡ front_of p xs
front_taken p xs n e =
    ap (take n) (sym (joined p xs)) ∙ take_at (front_of p xs) (behind_front p xs) n (sym (e ∙ ap length (while_front p xs)))

pub front_dropped : (p : ℕ → Bool) (xs : List ℕ) (n : ℕ) → n ≡ length (take_while p xs) → drop n xs ≡ behind_front p xs
front_dropped p xs n e =
    ap (drop n) (sym (joined p xs)) ∙ drop_at (front_of p xs) (behind_front p xs) n (sym (e ∙ ap length (while_front p xs)))

-- where the front ends
abbrev pub stops : (ℕ → Bool) → List ℕ → Bool
stops p [] = true
stops p (x ∷ rest) = not (p x)

and_left : (a b : Bool) → (a && b) ≡ true → a ≡ true
and_left true b h = refl
and_left false b h = h

and_right : (a b : Bool) → (a && b) ≡ true → b ≡ true
and_right true b h = h
and_right false b h = cc

off : (test : Bool) → not test ≡ true → test ≡ false
off true h = cc
off false h = refl

pub front_read : (p : ℕ → Bool) (xs rest : List ℕ) → list_all p xs ≡ true → stops p rest ≡ true → front_of p (xs ++ rest) ≡ xs
front_read p [] [] all stop = refl
front_read p [] (y ∷ rest) all stop = rw (off (p y) stop) refl
front_read p (x ∷ xs) rest all stop =
    rw (and_left (p x) (list_all p xs) all) (ap (λ l. x ∷ l) (front_read p xs rest (and_right (p x) (list_all p xs) all) stop))

pub behind_read : (p : ℕ → Bool) (xs rest : List ℕ) → list_all p xs ≡ true → stops p rest ≡ true → behind_front p (xs ++ rest) ≡ rest
behind_read p [] [] all stop = refl
behind_read p [] (y ∷ rest) all stop = rw (off (p y) stop) refl
behind_read p (x ∷ xs) rest all stop =
    rw (and_left (p x) (list_all p xs) all) (behind_read p xs rest (and_right (p x) (list_all p xs) all) stop)

-- Two lists that are cut where their fronts end are cut alike.
pub same_front : (p : ℕ → Bool) (xs ys r s : List ℕ) → list_all p xs ≡ true → list_all p ys ≡ true → stops p r ≡ true → stops p s ≡ true → xs ++ r ≡ ys ++ s → xs ≡ ys
same_front p xs ys r s all_xs all_ys r_stops s_stops e = sym (front_read p xs r all_xs r_stops) ∙ ap (front_of p) e ∙ front_read p ys s all_ys s_stops

pub same_behind : (p : ℕ → Bool) (xs ys r s : List ℕ) → list_all p xs ≡ true → list_all p ys ≡ true → stops p r ≡ true → stops p s ≡ true → xs ++ r ≡ ys ++ s → r ≡ s
same_behind p xs ys r s all_xs all_ys r_stops s_stops e = sym (behind_read p xs r all_xs r_stops) ∙ ap (behind_front p) e ∙ behind_read p ys s all_ys s_stops

pub front_passes : (p : ℕ → Bool) (xs : List ℕ) → list_all p (front_of p xs) ≡ true
front_passes p [] = refl
front_passes p (x ∷ xs) = elim (cases_Bool (p x)) [
  | inl passes ↦ rw (passes, passes) (front_passes p xs)
  | inr fails ↦ rw fails refl
]

pub behind_stops : (p : ℕ → Bool) (xs : List ℕ) → stops p (behind_front p xs) ≡ true
behind_stops p [] = refl
behind_stops p (x ∷ xs) = elim (cases_Bool (p x)) [
  | inl passes ↦ rw passes (behind_stops p xs)
  | inr fails ↦ rw (fails, fails) refl
]
