-- The test of patterns for qualifiers says what their limits say.
use Rattle.std.proofs.Common.{ℕ, List}
use Rattle.std.specs.Bool.{Decides}
use Rattle.std.specs.Prelude.{is_none}
use Rattle.std.proofs.lemmas.Bool.Decides.{Decides-and, Decides-like}
use Rattle.al_base.proofs.FormTests.{decides_text}
use Rattle.al_base.specs.Limits.{is_text, longest_pattern}
use Rattle.al_ids.proofs.MatchTests.{decides_spelled_pattern}
use Rattle.al_ids.specs.Forms.{is_pattern_text}
use Rattle.al_model.specs.Limits.{IsPatternWithin}
use Rattle.al_pattern.specs.Reading.{first_fault}

pub decides_pattern : (t : List ℕ) → Decides (is_pattern_text t) (IsPatternWithin t)
unfolding is_pattern_text
decides_pattern t =
    Decides-like (is_pattern_text t) (λ h. record { text = h.0; spelled = h.1 }) (λ is. (is.text, is.spelled))
    (Decides-and (is_text 0 longest_pattern t) (is_none (first_fault t)) (decides_text 0 longest_pattern t) (decides_spelled_pattern t))
