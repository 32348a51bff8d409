-- The tests of texts say what their relations say, in forms that the search can use.
use Rattle.std.proofs.Common.{◌≡◌, ℕ, Bool, true, false, inl, inr, List, length, refl, arith}
use Rattle.std.specs.Bool.{Decides}
use Rattle.std.specs.Prelude.{IsUtf8}
use Rattle.std.specs.Str.{is_utf8}
use Rattle.std.proofs.lemmas.Bool.{cases_lt}
use Rattle.std.proofs.lemmas.List.{get_or_past}
use Rattle.std.proofs.lemmas.Str.{is_utf8-from_IsUtf8, IsUtf8-from_ascii}
use Rattle.al_base.proofs.FormTests.{decides_operator_name, decides_type_name, decides_utf8}
use Rattle.al_base.specs.Identifiers.{IsTypeName, is_type_name}
use Rattle.al_base.specs.Limits.{is_operator_name}

pub fails : {P : Type 0} (test : Bool) → Decides test P → (P → ⊥) → test ≡ false
fails true decides none = absurd (none (decides.0 refl))
fails false decides none = refl

pub utf8_holds : (t : List ℕ) → IsUtf8 t → is_utf8 t ≡ true
utf8_holds t h = is_utf8-from_IsUtf8 t h

pub utf8_fails : (t : List ℕ) → (IsUtf8 t → ⊥) → is_utf8 t ≡ false
utf8_fails t none = fails (is_utf8 t) (decides_utf8 t) none

-- ---- names of types and operators

pub type_holds : (t : List ℕ) → IsTypeName t → is_type_name t ≡ true
type_holds t h = (decides_type_name t).1 h

pub type_fails : (t : List ℕ) → (IsTypeName t → ⊥) → is_type_name t ≡ false
type_fails t none = fails (is_type_name t) (decides_type_name t) none

pub operator_is_utf8 : (name : List ℕ) → is_operator_name name ≡ true → IsUtf8 name
operator_is_utf8 name h =
    let is = (decides_operator_name name).0 h in
    IsUtf8-from_ascii name (λ i. elim (cases_lt i (length name)) [
      | inl lt ↦ omega (arith, (is.printed i 0 lt).1)
      | inr le ↦ rw (get_or_past name i 0 le) (omega arith)
    ])
