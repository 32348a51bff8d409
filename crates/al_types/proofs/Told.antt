-- Two tests of one fact answer the same.
use Rattle.std.proofs.Common.{◌≡◌, Bool, sym, ◌∙◌}
use Rattle.std.proofs.lemmas.Bool.Decides.{same_from_decides}
use Rattle.std.specs.Bool.{Decides, IsTrue}
use Rattle.std.specs.Prelude.{◌↔◌}

pub told : {P : Type 0} (b t : Bool) → (IsTrue b ↔ P) → Decides t P → b ≡ t
told b t exact d = same_from_decides b t exact d

-- and the other way: a test that answers as another does is as exact
pub exact : {P : Type 0} (b t : Bool) → b ≡ t → Decides t P → IsTrue b ↔ P
exact b t e d = (λ h. d.0 (sym e ∙ h), λ p. e ∙ d.1 p)
