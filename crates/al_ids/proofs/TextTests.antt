-- The tests of this crate's texts say what their relations say, in forms that the search can use.
use Rattle.std.proofs.Common.{◌≡◌, ℕ, true, false, List}
use Rattle.al_base.proofs.FormTests.{decides_text}
use Rattle.al_base.proofs.TextTests.{fails}
use Rattle.al_base.specs.Limits.{is_text, longest_resource}
use Rattle.al_ids.proofs.MatchTests.{decides_match}
use Rattle.al_ids.specs.Forms.{is_match}
use Rattle.al_ids.specs.Matches.{IsMatch}
use Rattle.al_ids.specs.Resources.{IsResource}

pub resource_holds : (t : List ℕ) → IsResource t → is_text 1 longest_resource t ≡ true
resource_holds t is = (decides_text 1 longest_resource t).1 (record { utf8 = is.utf8; shortest = is.shortest; longest = is.longest })

pub resource_fails : (t : List ℕ) → (IsResource t → ⊥) → is_text 1 longest_resource t ≡ false
resource_fails t none =
    fails (is_text 1 longest_resource t) (decides_text 1 longest_resource t)
    (λ is. none (record { shortest = is.shortest; longest = is.longest; utf8 = is.utf8 }))

pub match_holds : (t : List ℕ) → IsMatch t → is_match t ≡ true
match_holds t h = (decides_match t).1 h

pub match_fails : (t : List ℕ) → (IsMatch t → ⊥) → is_match t ≡ false
match_fails t none = fails (is_match t) (decides_match t) none
