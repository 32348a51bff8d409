-- A text without bytes that are escaped stands in a string as it is.
use Rattle.std.proofs.Common.{◌≡◌, ℕ, ◌+◌, Bool, true, false, cond, List, [], ◌∷◌, ◌++◌, refl, ap, ◌∙◌, arith}
use Rattle.std.specs.List.{count_by}
use Rattle.std.proofs.lemmas.Bool.Decides.{nat_tests}
use Rattle.std.proofs.lemmas.List.Sums.{sum_by-cons}
use Rattle.json.specs.Print.{escape, escape_byte}
use Rattle.al_fields.specs.Texts.{is_escaped}

byte_plain : (byte : ℕ) → is_escaped byte ≡ false → escape_byte byte ≡ byte ∷ []
unfolding escape_byte
byte_plain byte h = grind (arith, nat_tests)

pub escape_plain : (text : List ℕ) → count_by is_escaped text ≡ 0 → escape text ≡ text
escape_plain [] h = refl
escape_plain (byte ∷ rest) h =
    let e : count_by is_escaped (byte ∷ rest) ≡ cond (is_escaped byte) 1 0 + count_by is_escaped rest = sum_by-cons (λ x. cond (is_escaped x) 1 0) byte rest in
    by (is_escaped byte) refl (omega arith) (λ (z : count_by is_escaped rest ≡ 0). escape_plain rest z)
  where
    by : (b : Bool) → is_escaped byte ≡ b → cond b 1 0 + count_by is_escaped rest ≡ 0 → (count_by is_escaped rest ≡ 0 → escape rest ≡ rest) → escape_byte byte ++ escape rest ≡ byte ∷ rest
    by true e z more = absurd (omega arith)
    by false e z more = ap (λ t. t ++ escape rest) (byte_plain byte e) ∙ ap (λ t. byte ∷ t) (more (omega arith))
