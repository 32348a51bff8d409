-- The tests of forms and limits hold exactly where their relations do.
use Rattle.std.proofs.Common.{◌≡◌, ℕ, zero, suc, ◌+◌, ◌*◌, ◌/◌, ◌%◌, ◌<◌, ◌≤◌, Bool, true, false, not, ◌&&◌, ◌⊎◌, inl, inr, Option, Some, None, All, List, length, take, drop, position, refl, sym, ap, ◌∙◌, arith}
use Rattle.std.specs.Bool.{Decides}
use Rattle.std.specs.Cmp.Lexicographic.{pointwise, bytes_decides}
use Rattle.std.specs.List.{list_all}
use Rattle.std.specs.Option.{option_map_or}
use Rattle.std.specs.Prelude.{◌==◌, nat_le, IsUtf8, slice_index_or}
use Rattle.std.specs.Str.{is_utf8}
use Rattle.std.proofs.lemmas.Bool.{false≢true, leb-true, le-leb}
use Rattle.std.proofs.lemmas.Bool.Decides.{Decides-and, Decides-or, Decides-like, Decides-not, Decides-eqb, Decides-by_and}
use Rattle.std.proofs.lemmas.Str.{IsUtf8-from_is_utf8, is_utf8-from_IsUtf8}
use Rattle.al_base.proofs.TypeNames.{named, at_colon, no_place}
use Rattle.al_base.specs.Identifiers.{IsTypeName, is_identifier, is_type_name}
use Rattle.al_base.specs.Limits.{IsText, is_text, IsOperatorName, is_operator_name, own_name, IsAge, is_age, age_units}

pub decides_le : (a b : ℕ) → Decides (nat_le a b) (a ≤ b)
decides_le a b = (leb-true a b, le-leb a b)

pub decides_utf8 : (text : List ℕ) → Decides (is_utf8 text) (IsUtf8 text)
decides_utf8 text = (IsUtf8-from_is_utf8 text, is_utf8-from_IsUtf8 text)

pub decides_text : (least most : ℕ) (text : List ℕ) → Decides (is_text least most text) (IsText least most text)
unfolding is_text
decides_text least most text =
    Decides-like (is_text least most text) (λ h. record { utf8 = h.1; shortest = h.0.0; longest = h.0.1 })
    (λ is. ((is.shortest, is.longest), is.utf8))
    (Decides-and (nat_le least (length text) && nat_le (length text) most) (is_utf8 text)
    (Decides-and _ _ (decides_le least (length text)) (decides_le (length text) most)) (decides_utf8 text))

-- ---- names of types

abbrev parts : List ℕ → Option ℕ → Bool
parts text at = option_map_or (λ colon. is_identifier (take colon text) && is_identifier (drop (colon + 1) text)) at false

decides_parts : (text : List ℕ) (at : Option ℕ) → position (λ byte. byte == 58) text ≡ at → length text ≤ 128 → Decides (parts text at) (IsTypeName text)
decides_parts text None e short = (λ h. absurd (false≢true h), λ name. absurd (no_place text e name))
decides_parts text (Some colon) e short =
    Decides-like (parts text (Some colon)) (λ h. named text colon e short h.0 h.1) (λ name. at_colon text colon e name)
    (Decides-and (is_identifier (take colon text)) (is_identifier (drop (colon + 1) text)) (λ h. h, λ h. h) (λ h. h, λ h. h))

pub decides_type_name : (text : List ℕ) → Decides (is_type_name text) (IsTypeName text)
unfolding is_type_name
decides_type_name text = cases (nat_le (length text) 128) (decides_le (length text) 128)
  where
    cases : (short : Bool) → Decides short (length text ≤ 128) → Decides (short && parts text (position (λ byte. byte == 58) text)) (IsTypeName text)
    cases true is = decides_parts text (position (λ byte. byte == 58) text) refl (is.0 refl)
    cases false is = (λ h. absurd (false≢true h), λ name. is.1 name.longest)

-- ---- names of operators

abbrev is_printed : ℕ → Bool
is_printed byte = nat_le 0x20 byte && nat_le byte 0x7E

decides_printed : (name : List ℕ) → Decides (list_all is_printed name) (All (λ byte. (0x20 ≤ byte) × (byte ≤ 0x7E)) name)
decides_printed name =
    Decides-by_and is_printed (λ byte. (0x20 ≤ byte) × (byte ≤ 0x7E)) (list_all is_printed)
    (λ byte. Decides-and _ _ (decides_le 0x20 byte) (decides_le byte 0x7E)) refl (λ _ _. refl) name

pub decides_operator_name : (name : List ℕ) → Decides (is_operator_name name) (IsOperatorName name)
unfolding is_operator_name
decides_operator_name name =
    let sized : Bool = nat_le 1 (length name) && nat_le (length name) 64 in
    Decides-like (is_operator_name name)
    (λ h. record { shortest = h.0.0.0; longest = h.0.0.1; printed = h.0.1; foreign = h.1 })
    (λ is. (((is.shortest, is.longest), is.printed), is.foreign))
    (Decides-and (sized && list_all is_printed name) (not (pointwise ◌==◌ name own_name))
    (Decides-and sized (list_all is_printed name)
    (Decides-and _ _ (decides_le 1 (length name)) (decides_le (length name) 64)) (decides_printed name))
    (Decides-not (pointwise ◌==◌ name own_name) (bytes_decides name own_name)))

-- ---- ages

-- the age is up to 65,535 of the unit
abbrev Counts : ℕ → ℕ → Type 0
Counts age unit = (count : ℕ) × (count ≤ 65535) × (age ≡ count * unit)

abbrev counts : ℕ → ℕ → Bool
counts age unit = (age % unit == 0) && nat_le (age / unit) 65535

decides_counts : (age unit : ℕ) → (age % unit ≡ 0 → age ≡ age / unit * unit) → ((count : ℕ) → age ≡ count * unit → (age % unit ≡ 0) × (age / unit ≡ count))
    → Decides (counts age unit) (Counts age unit)
decides_counts age unit whole back =
    Decides-like (counts age unit) (λ h. (age / unit, h.1, whole h.0))
    (λ c. (let b = back c.0 c.2 in let few : c.0 ≤ 65535 = c.1 in (b.0, omega arith)))
    (Decides-and _ _ (Decides-eqb (age % unit) 0) (decides_le (age / unit) 65535))

seconds : (age : ℕ) → Decides (counts age 1000) (Counts age 1000)
seconds age = decides_counts age 1000 (λ h. omega arith) (λ count e. (omega arith, omega arith))

minutes : (age : ℕ) → Decides (counts age 60000) (Counts age 60000)
minutes age = decides_counts age 60000 (λ h. omega arith) (λ count e. (omega arith, omega arith))

hours : (age : ℕ) → Decides (counts age 3600000) (Counts age 3600000)
hours age = decides_counts age 3600000 (λ h. omega arith) (λ count e. (omega arith, omega arith))

days : (age : ℕ) → Decides (counts age 86400000) (Counts age 86400000)
days age = decides_counts age 86400000 (λ h. omega arith) (λ count e. (omega arith, omega arith))

weeks : (age : ℕ) → Decides (counts age 604800000) (Counts age 604800000)
weeks age = decides_counts age 604800000 (λ h. omega arith) (λ count e. (omega arith, omega arith))

never : Decides false ⊥
never = (λ h. false≢true h, λ h. absurd h)

abbrev CountsOne : ℕ → Type 0
CountsOne age = Counts age 1000 ⊎ (Counts age 60000 ⊎ (Counts age 3600000 ⊎ (Counts age 86400000 ⊎ (Counts age 604800000 ⊎ ⊥))))

one_is_age : (age : ℕ) → CountsOne age → IsAge age
one_is_age age (inl c) = record { count = c.0; unit = 1000; few = c.1; known = (0, omega arith, refl); is = c.2 }
one_is_age age (inr (inl c)) = record { count = c.0; unit = 60000; few = c.1; known = (1, omega arith, refl); is = c.2 }
one_is_age age (inr (inr (inl c))) = record { count = c.0; unit = 3600000; few = c.1; known = (2, omega arith, refl); is = c.2 }
one_is_age age (inr (inr (inr (inl c)))) = record { count = c.0; unit = 86400000; few = c.1; known = (3, omega arith, refl); is = c.2 }
one_is_age age (inr (inr (inr (inr (inl c))))) = record { count = c.0; unit = 604800000; few = c.1; known = (4, omega arith, refl); is = c.2 }
one_is_age age (inr (inr (inr (inr (inr none))))) = absurd none

age_counts : (age count unit place : ℕ) → count ≤ 65535 → age ≡ count * unit → place < 5 → slice_index_or age_units place unit ≡ unit → CountsOne age
age_counts age count unit zero few is lt at = inl (count, few, is ∙ ap (λ u. count * u) (sym at))
age_counts age count unit (suc zero) few is lt at = inr (inl (count, few, is ∙ ap (λ u. count * u) (sym at)))
age_counts age count unit (suc (suc zero)) few is lt at = inr (inr (inl (count, few, is ∙ ap (λ u. count * u) (sym at))))
age_counts age count unit (suc (suc (suc zero))) few is lt at = inr (inr (inr (inl (count, few, is ∙ ap (λ u. count * u) (sym at)))))
age_counts age count unit (suc (suc (suc (suc zero)))) few is lt at = inr (inr (inr (inr (inl (count, few, is ∙ ap (λ u. count * u) (sym at))))))
age_counts age count unit (suc (suc (suc (suc (suc place))))) few is lt at = absurd (omega arith)

pub decides_age : (age : ℕ) → Decides (is_age age) (IsAge age)
unfolding is_age
decides_age age =
    Decides-like (is_age age) (one_is_age age) (λ is. age_counts age is.count is.unit is.known.0 is.few is.is is.known.1 is.known.2)
    (Decides-or _ _ (seconds age) (Decides-or _ _ (minutes age) (Decides-or _ _ (hours age) (Decides-or _ _ (days age) (Decides-or _ _ (weeks age) never)))))
