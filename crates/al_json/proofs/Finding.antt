-- What is found is what stands at its index.
use Rattle.std.proofs.Common.{◌≡◌, ℕ, zero, suc, ◌-◌, ◌<◌, ◌≤◌, Bool, true, false, cond, List, [], ◌∷◌, length, get_or, option_map, None, Some, refl, ap, ◌∙◌, ltb-false, sub-one, arith}
use Rattle.std.specs.Prelude.{nat_lt}
use Rattle.std.specs.List.{find, position, position_or_len, slice_get}
use Rattle.std.specs.Option.{option_and_then}
use Rattle.std.proofs.lemmas.List.Folds.{find_at}
use Rattle.std.proofs.lemmas.Option.{slice_get_past}
use Rattle.al_model.specs.Summary.{falling_severities}
use Rattle.al_json.specs.Summaries.{counts_tree, row_at, summary_trees}

pub found_placed : {X : Type 0} (p : X → Bool) (xs : List X) → find p xs ≡ option_and_then (slice_get xs) (position p xs)
found_placed {X} p xs = find_at p xs ∙ by (nat_lt (position_or_len p xs) (length xs)) refl
  where
    by : (b : Bool) → nat_lt (position_or_len p xs) (length xs) ≡ b → slice_get xs (position_or_len p xs) ≡ option_and_then (slice_get xs) (cond b (Some (position_or_len p xs)) None)
    by true e = refl
    by false e = slice_get_past xs (position_or_len p xs) (ltb-false (position_or_len p xs) (length xs) e)

pub past : {X : Type 0} (xs : List X) (i : ℕ) → length xs ≤ i → slice_get xs i ≡ None
past xs i h = slice_get_past xs i h

pub at_first : {X : Type 0} (x : X) (xs : List X) (i : ℕ) → i ≡ 0 → slice_get (x ∷ xs) i ≡ Some x
at_first x xs zero h = refl
at_first x xs (suc i) h = absurd (omega arith)

pub behind_first : {X : Type 0} (x : X) (xs : List X) (i : ℕ) → 0 < i → slice_get (x ∷ xs) i ≡ slice_get xs (i - 1)
behind_first x xs zero h = absurd (omega arith)
behind_first x xs (suc i) h = rw sub-one refl

pub row_is : (rows : List (List ℕ)) (i : ℕ) (row : List ℕ) → i < length rows → row ≡ get_or rows i row → row ≡ row_at i rows
row_is [] i row h is = absurd (omega arith)
row_is (r ∷ rows) zero row h is = is
row_is (r ∷ rows) (suc i) row h is = row_is rows i row (omega arith) is

pub summary_at : (rows : List (List ℕ)) (i : ℕ) → slice_get (summary_trees rows) i ≡ option_map (λ severity. counts_tree severity (row_at i rows)) (slice_get falling_severities i)
unfolding summary_trees
summary_at rows zero = refl
summary_at rows (suc zero) = refl
summary_at rows (suc (suc zero)) = refl
summary_at rows (suc (suc (suc zero))) = refl
summary_at rows (suc (suc (suc (suc zero)))) = refl
summary_at rows (suc (suc (suc (suc (suc i))))) = refl

pub summary_past : (rows : List (List ℕ)) (i : ℕ) → slice_get falling_severities i ≡ None → slice_get (summary_trees rows) i ≡ None
summary_past rows i h = summary_at rows i ∙ ap (option_map (λ severity. counts_tree severity (row_at i rows))) h
