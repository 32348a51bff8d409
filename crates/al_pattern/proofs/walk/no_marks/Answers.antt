use Rattle.std.proofs.Common.{◌≡◌, ◌/◌, ℕ, zero, suc, List, [], ◌∷◌, get_or, refl}
use Rattle.al_pattern.proofs.BitLemmas.{is_in-none}
use Rattle.al_pattern.proofs.walk.no_marks.Goals as goal

abbrev zeros : List ℕ
zeros = 0 ∷ 0 ∷ 0 ∷ 0 ∷ 0 ∷ 0 ∷ 0 ∷ 0 ∷ []

no_word : (k : ℕ) → get_or zeros k 0 ≡ zero
no_word zero = refl
no_word (suc zero) = refl
no_word (suc (suc zero)) = refl
no_word (suc (suc (suc zero))) = refl
no_word (suc (suc (suc (suc zero)))) = refl
no_word (suc (suc (suc (suc (suc zero))))) = refl
no_word (suc (suc (suc (suc (suc (suc zero)))))) = refl
no_word (suc (suc (suc (suc (suc (suc (suc zero))))))) = refl
no_word (suc (suc (suc (suc (suc (suc (suc (suc k)))))))) = refl

pub returns : goal.returns
returns c k = is_in-none zeros k (no_word (k / 64))
