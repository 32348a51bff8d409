-- Where bytes stop being UTF-8: what may begin a character, and what goes on.
use Rattle.std.proofs.Common.{◌≡◌, ◌⊎◌, inl, inr, ℕ, ◌+◌, ◌-◌, ◌*◌, ◌/◌, ◌%◌, ◌<◌, ◌≤◌, Bool, true, false, not, ◌&&◌, Option, Some, None, List, [], ◌∷◌, ◌++◌, length, get_or, take, drop, refl, sym, ap, subst, ◌∙◌, arith, append_assoc, length-append, length-drop, append-nil}
use Rattle.std.specs.Prelude.{◌==◌, nat_lt, IsUtf8}
use Rattle.std.specs.Int.{is_in_range}
use Rattle.std.specs.Option.{option_map_or}
use Rattle.std.specs.Char.{IsScalar}
use Rattle.std.specs.Str.{IsCharBoundary, IsValidUpTo, all_scalars, encode_utf8_all}
use Rattle.std.specs.Str.Lossy.{utf8_error_len, second_byte_min, second_byte_max}
use Rattle.std.proofs.lemmas.Bool.{cases_Bool, eqb-true}
use Rattle.std.proofs.lemmas.Bool.Decides.{nat_tests}
use Rattle.std.proofs.lemmas.List.{take_at, take-append-drop, drop_at, take_all, length-take-le, drop_more}
use Rattle.std.proofs.lemmas.Str.{IsUtf8-append, IsUtf8-nil, IsUtf8-drop, IsCharBoundary-from_take}
use Rattle.std.proofs.str.Laws.{one, two, three, four, Scalar, order}
use Rattle.std.proofs.str.Valid.{of_one, of_two, of_three, of_four}
use Rattle.al_ids.specs.TextStops.{BeginsText, IsTextStop}
use lib.Utf8.{encode, scalar as is_scalar, scalar_cases}

and_left : (a b : Bool) → (a && b) ≡ true → a ≡ true
and_left true b h = refl
and_left false b h = h

and_le : (least most n : ℕ) → is_in_range least most n ≡ true → least ≤ n
and_le least most n h = grind (arith, nat_tests)

and_ge : (least most n : ℕ) → is_in_range least most n ≡ true → n ≤ most
and_ge least most n h = grind (arith, nat_tests)

-- ---- how the bytes of a character begin (Unicode, table 3-7)

pub record Heads (l : List ℕ) : Type 0 where
  pub first : (get_or l 0 0 < 128) ⊎ ((194 ≤ get_or l 0 0) × (get_or l 0 0 ≤ 244))
  pub second : 194 ≤ get_or l 0 0 → (second_byte_min (get_or l 0 0) ≤ get_or l 1 0) × (get_or l 1 0 ≤ second_byte_max (get_or l 0 0))
  pub third : 224 ≤ get_or l 0 0 → (128 ≤ get_or l 2 0) × (get_or l 2 0 < 192)
  pub fourth : 240 ≤ get_or l 0 0 → (128 ≤ get_or l 3 0) × (get_or l 3 0 < 192)

least_is : (x y : ℕ) → 128 ≤ y → (x ≡ 224 → 160 ≤ y) → (x ≡ 240 → 144 ≤ y) → second_byte_min x ≤ y
least_is x y low three' four' = grind (arith, nat_tests)

most_is : (x y : ℕ) → y < 192 → (x ≡ 237 → y < 160) → (x ≡ 244 → y < 144) → y ≤ second_byte_max x
most_is x y high three' four' = grind (arith, nat_tests)

heads_one : (c : ℕ) (rest : List ℕ) → c < 128 → Heads (c ∷ rest)
heads_one c rest low = record { first = inl low; second = λ h. absurd (omega arith); third = λ h. absurd (omega arith); fourth = λ h. absurd (omega arith) }

heads_two : (c : ℕ) (rest : List ℕ) → 128 ≤ c → c < 2048 → Heads ((192 + c / 64) ∷ (128 + c % 64) ∷ rest)
heads_two c rest low high = record {
  first = inr (omega arith, omega arith);
  second = λ h. (least_is (192 + c / 64) (128 + c % 64) (omega arith) (λ e. absurd (omega arith)) (λ e. absurd (omega arith)), most_is (192 + c / 64) (128 + c % 64) (omega arith) (λ e. absurd (omega arith)) (λ e. absurd (omega arith)));
  third = λ h. absurd (omega arith);
  fourth = λ h. absurd (omega arith);
}

heads_three : (c : ℕ) (rest : List ℕ) → 2048 ≤ c → c < 65536 → Scalar c → Heads ((224 + c / 4096) ∷ (128 + (c / 64) % 64) ∷ (128 + c % 64) ∷ rest)
heads_three c rest low high scalar = record {
  first = inr (omega arith, omega arith);
  second = λ h. (
    least_is (224 + c / 4096) (128 + (c / 64) % 64) (omega arith) (λ e. omega arith) (λ e. absurd (omega arith)),
    most_is (224 + c / 4096) (128 + (c / 64) % 64) (omega arith) (λ e. elim scalar [ inl below ↦ omega arith | inr above ↦ omega arith ]) (λ e. absurd (omega arith)),
  );
  third = λ h. (omega arith, omega arith);
  fourth = λ h. absurd (omega arith);
}

heads_four : (c : ℕ) (rest : List ℕ) → 65536 ≤ c → c < 1114112 → Heads ((240 + c / 262144) ∷ (128 + (c / 4096) % 64) ∷ (128 + (c / 64) % 64) ∷ (128 + c % 64) ∷ rest)
heads_four c rest low high = record {
  first = inr (omega arith, omega arith);
  second = λ h. (
    least_is (240 + c / 262144) (128 + (c / 4096) % 64) (omega arith) (λ e. absurd (omega arith)) (λ e. omega arith),
    most_is (240 + c / 262144) (128 + (c / 4096) % 64) (omega arith) (λ e. absurd (omega arith)) (λ e. omega arith),
  );
  third = λ h. (omega arith, omega arith);
  fourth = λ h. (omega arith, omega arith);
}

below_top : (c : ℕ) → Scalar c → c < 1114112
below_top c (inl h) = omega arith
below_top c (inr h) = h.1

heads_cases : (c : ℕ) (rest : List ℕ) → Scalar c → (c < 128) ⊎ (128 ≤ c) → (c < 2048) ⊎ (2048 ≤ c) → (c < 65536) ⊎ (65536 ≤ c) → Heads (encode c ++ rest)
heads_cases c rest s (inl h) b d = rw (one c h) (heads_one c rest h)
heads_cases c rest s (inr l) (inl h) d = rw (two c l h) (heads_two c rest l h)
heads_cases c rest s (inr l) (inr m) (inl h) = rw (three c m h) (heads_three c rest m h s)
heads_cases c rest s (inr l) (inr m) (inr n) = rw (four c n) (heads_four c rest n (below_top c s))

pub heads : (c : ℕ) (rest : List ℕ) → IsScalar c → Heads (encode c ++ rest)
heads c rest is = heads_cases c rest (scalar_cases c is) (order c 128) (order c 2048) (order c 65536)

-- ---- the bytes of a character, and what begins them

record InRange (x y : ℕ) : Type 0 where
  least : second_byte_min x ≤ y
  most : y ≤ second_byte_max x

in_range : (x y : ℕ) → is_in_range (second_byte_min x) (second_byte_max x) y ≡ true → InRange x y
in_range x y h = record { least = and_le (second_byte_min x) (second_byte_max x) y h; most = and_ge (second_byte_min x) (second_byte_max x) y h }

y_low : (x y : ℕ) → InRange x y → 128 ≤ y
y_low x y r = let h = r.least in grind (arith, nat_tests)

y_high : (x y : ℕ) → InRange x y → y < 192
y_high x y r = let h = r.most in grind (arith, nat_tests)

y_224 : (x y : ℕ) → InRange x y → x ≡ 224 → 160 ≤ y
y_224 x y r e = let h : second_byte_min 224 ≤ y = subst (λ (n : ℕ). second_byte_min n ≤ y) e r.least in h

y_240 : (x y : ℕ) → InRange x y → x ≡ 240 → 144 ≤ y
y_240 x y r e = let h : second_byte_min 240 ≤ y = subst (λ (n : ℕ). second_byte_min n ≤ y) e r.least in h

y_237 : (x y : ℕ) → InRange x y → x ≡ 237 → y ≤ 159
y_237 x y r e = let h : y ≤ second_byte_max 237 = subst (λ (n : ℕ). y ≤ second_byte_max n) e r.most in h

y_244 : (x y : ℕ) → InRange x y → x ≡ 244 → y ≤ 143
y_244 x y r e = let h : y ≤ second_byte_max 244 = subst (λ (n : ℕ). y ≤ second_byte_max n) e r.most in h

full_two : (x y : ℕ) → 194 ≤ x → x < 224 → InRange x y → IsUtf8 (x ∷ y ∷ [])
full_two x y low high r = of_two (x ∷ y ∷ []) 0 (omega arith) (low, high) (y_low x y r, y_high x y r)

above : (m n : ℕ) → (m ≡ n) ⊎ ((m < n) ⊎ (n < m))
above m n = elim (cases_Bool (m == n)) [
  | inl same ↦ inl (eqb-true _ _ same)
  | inr other ↦ inr (elim (order m n) [ inl less ↦ inl less | inr le ↦ inr (grind (arith, nat_tests)) ])
]

full_three : (x y z : ℕ) → 224 ≤ x → x < 240 → InRange x y → (128 ≤ z) × (z < 192) → IsUtf8 (x ∷ y ∷ z ∷ [])
full_three x y z low high r cont =
    let yl = y_low x y r in
    let yh = y_high x y r in
    let least : 2048 ≤ (x - 224) * 4096 + (y - 128) * 64 + (z - 128) = elim (above x 224) [
      | inl same ↦ let h = y_224 x y r same in omega arith
      | inr other ↦ elim other [ inl less ↦ omega arith | inr more ↦ omega arith ]
    ] in
    of_three (x ∷ y ∷ z ∷ []) 0 (omega arith) (low, high) (yl, yh) cont least
    (elim (above x 237) [
      | inl same ↦ let h = y_237 x y r same in inl (omega arith)
      | inr other ↦ elim other [ inl less ↦ inl (omega arith) | inr more ↦ inr (omega arith) ]
    ])

full_four : (x y z w : ℕ) → 240 ≤ x → x ≤ 244 → InRange x y → (128 ≤ z) × (z < 192) → (128 ≤ w) × (w < 192) → IsUtf8 (x ∷ y ∷ z ∷ w ∷ [])
full_four x y z w low high r cont last =
    let yl = y_low x y r in
    let yh = y_high x y r in
    let least : 16 ≤ (x - 240) * 64 + (y - 128) = elim (above x 240) [
      | inl same ↦ let h = y_240 x y r same in omega arith
      | inr other ↦ elim other [ inl less ↦ omega arith | inr more ↦ omega arith ]
    ] in
    let most : (x - 240) * 64 + (y - 128) < 272 = elim (above x 244) [
      | inl same ↦ let h = y_244 x y r same in omega arith
      | inr other ↦ elim other [ inl less ↦ omega arith | inr more ↦ omega arith ]
    ] in
    of_four (x ∷ y ∷ z ∷ w ∷ []) 0 (omega arith) low (yl, yh) cont last (least, most)

begins_three : (x y z : ℕ) → 224 ≤ x → x ≤ 244 → InRange x y → (128 ≤ z) × (z < 192) → BeginsText (x ∷ y ∷ z ∷ [])
begins_three x y z low high r cont = elim (order x 240) [
  | inl less ↦ record { rest = []; utf8 = full_three x y z low less r cont }
  | inr more ↦ record { rest = 128 ∷ []; utf8 = full_four x y z 128 more high r cont (omega arith, omega arith) }
]

begins_two : (x y : ℕ) → 194 ≤ x → x ≤ 244 → InRange x y → BeginsText (x ∷ y ∷ [])
begins_two x y low high r = elim (order x 224) [
  | inl less ↦ record { rest = []; utf8 = full_two x y low less r }
  | inr more ↦ let b = begins_three x y 128 more high r (omega arith, omega arith) in record { rest = 128 ∷ b.rest; utf8 = b.utf8 }
]

least_second : (x : ℕ) → InRange x (second_byte_min x)
least_second x = record { least = omega arith; most = grind (arith, nat_tests) }

begins_one : (x : ℕ) → 194 ≤ x → x ≤ 244 → BeginsText (x ∷ [])
begins_one x low high = let b = begins_two x (second_byte_min x) low high (least_second x) in record { rest = second_byte_min x ∷ b.rest; utf8 = b.utf8 }

-- ---- a stop behind what is UTF-8

some_heads : (l cs : List ℕ) → all_scalars cs ≡ true → encode_utf8_all cs ≡ l → 0 < length l → Heads l
some_heads l [] scalars e long = absurd (let none = ap length e in omega arith)
some_heads l (c ∷ cs) scalars e long = subst Heads e (heads c (encode_utf8_all cs) (and_left (is_scalar c) (all_scalars cs) scalars))

heads_of : (byte : ℕ) (rest : List ℕ) → IsUtf8 (byte ∷ rest) → Heads (byte ∷ rest)
heads_of byte rest utf8 = some_heads (byte ∷ rest) utf8.0 utf8.1.0 utf8.1.1 (omega arith)

behind_utf8 : (front more : List ℕ) → IsUtf8 front → IsUtf8 (front ++ more) → IsUtf8 more
behind_utf8 front more first whole =
    let long = length-append front more in
    let at : IsCharBoundary (front ++ more) (length front) = IsCharBoundary-from_take (front ++ more) (length front) whole (omega arith) (subst IsUtf8 (sym (take_at front more (length front) refl)) first) in
    subst IsUtf8 (drop_at front more (length front) refl) (IsUtf8-drop (front ++ more) (length front) whole at)

valid_long : (text : List ℕ) (v : ℕ) → IsValidUpTo text v → length (take v text) ≡ v
valid_long text v valid = let short = valid.short in length-take-le v text (omega arith)

taken : (text : List ℕ) (v : ℕ) (p r : List ℕ) → IsValidUpTo text v → drop v text ≡ p ++ r → take (v + length p) text ≡ take v text ++ p
taken text v p r valid e =
    let whole : text ≡ (take v text ++ p) ++ r = sym (take-append-drop v text) ∙ ap (λ l. take v text ++ l) e ∙ sym (append_assoc (take v text) p r) in
    ap (take (v + length p)) whole ∙ take_at (take v text ++ p) r (v + length p) (length-append (take v text) p ∙ ap (λ n. n + length p) (valid_long text v valid))

no_char : (text : List ℕ) (v : ℕ) (p r : List ℕ) → IsValidUpTo text v → drop v text ≡ p ++ r → 0 < length p → ¬ (IsUtf8 p)
no_char text v p r valid e long utf8 =
    valid.longest (v + length p) (omega arith) (subst IsUtf8 (sym (taken text v p r valid e)) (IsUtf8-append (take v text) p valid.front utf8))

abbrev GoesNot : List ℕ → List ℕ → Type 0
GoesNot p [] = Unit {0}
GoesNot p (byte ∷ r) = (more : List ℕ) → ¬ (IsUtf8 (p ++ (byte ∷ more)))

text_length : (text : List ℕ) (v : ℕ) (p r : List ℕ) → IsValidUpTo text v → drop v text ≡ p ++ r → length text ≡ v + (length p + length r)
text_length text v p r valid e =
    let short = valid.short in
    let dropped = sym (length-drop v text) ∙ ap length e ∙ length-append p r in
    omega arith

goes_no_further : (text : List ℕ) (v : ℕ) (p r : List ℕ) → IsValidUpTo text v → drop v text ≡ p ++ r → GoesNot p r → v + length p < length text → ¬ (BeginsText (take (v + length p + 1) text))
goes_no_further text v p [] valid e not less begins = let long = text_length text v p [] valid e in absurd (omega arith)
goes_no_further text v p (byte ∷ r) valid e not less begins =
    let q : List ℕ = p ++ (byte ∷ []) in
    let there : take (v + length q) text ≡ take v text ++ q = taken text v q r valid (e ∙ sym (append_assoc p (byte ∷ []) r)) in
    let same : v + length p + 1 ≡ v + length q = omega (arith, length-append p (byte ∷ [])) in
    let whole : take (v + length p + 1) text ++ begins.rest ≡ take v text ++ (p ++ (byte ∷ begins.rest)) =
    ap (λ n. take n text ++ begins.rest) same ∙ ap (λ l. l ++ begins.rest) there ∙ append_assoc (take v text) q begins.rest ∙ ap (λ l. take v text ++ l) (append_assoc p (byte ∷ []) begins.rest) in
    not begins.rest (behind_utf8 (take v text) (p ++ (byte ∷ begins.rest)) valid.front (subst IsUtf8 whole begins.utf8))

stop_at : (text : List ℕ) (v : ℕ) (p r : List ℕ) → IsValidUpTo text v → drop v text ≡ p ++ r → BeginsText p → GoesNot p r → IsTextStop text (v + length p)
stop_at text v p r valid e begins not = record {
  within = let long = text_length text v p r valid e in omega arith;
  before = record { rest = begins.rest; utf8 = subst IsUtf8 (sym (ap (λ l. l ++ begins.rest) (taken text v p r valid e) ∙ append_assoc (take v text) p begins.rest)) (IsUtf8-append (take v text) (p ++ begins.rest) valid.front begins.utf8) };
  here = goes_no_further text v p r valid e not;
  whole = λ utf8. valid.longest (length text) valid.short (subst IsUtf8 (sym (take_all (length text) text (omega arith))) utf8);
}

stop_moved : (text : List ℕ) (n m : ℕ) → n ≡ m → IsTextStop text n → IsTextStop text m
stop_moved text n m e stop = let At : ℕ → Type 0 = λ k. IsTextStop text k in subst At e stop

-- ---- the fault that is told

not_short : (n m : ℕ) → m ≤ n → nat_lt n m ≡ false
not_short n m le = grind (arith, nat_tests)

some_length : (byte : ℕ) (rest : List ℕ) → (length (byte ∷ rest) == 0) ≡ false
some_length byte rest = grind (arith, nat_tests)

abbrev is_first : ℕ → Bool
is_first x = is_in_range 0xC2 0xF4 x

abbrev is_second : ℕ → ℕ → Bool
is_second x y = is_in_range (second_byte_min x) (second_byte_max x) y

abbrev is_later : ℕ → Bool
is_later z = is_in_range 0x80 0xBF z

told_one : (x : ℕ) → is_first x ≡ true → utf8_error_len (x ∷ []) ≡ None
unfolding utf8_error_len
told_one x first = rw first refl

told_not_second : (x y : ℕ) (rest : List ℕ) → is_first x ≡ true → is_second x y ≡ false → utf8_error_len (x ∷ y ∷ rest) ≡ Some 1
unfolding utf8_error_len
told_not_second x y rest first second = rw (some_length x (y ∷ rest), first, not_short (length (x ∷ y ∷ rest)) 2 (omega arith), second) refl

told_two : (x y : ℕ) → is_first x ≡ true → is_second x y ≡ true → utf8_error_len (x ∷ y ∷ []) ≡ None
unfolding utf8_error_len
told_two x y first second = rw (first, second) refl

told_not_third : (x y z : ℕ) (rest : List ℕ) → is_first x ≡ true → is_second x y ≡ true → is_later z ≡ false → utf8_error_len (x ∷ y ∷ z ∷ rest) ≡ Some 2
unfolding utf8_error_len
told_not_third x y z rest first second third =
    rw (some_length x (y ∷ z ∷ rest), first, not_short (length (x ∷ y ∷ z ∷ rest)) 2 (omega arith), second, not_short (length (x ∷ y ∷ z ∷ rest)) 3 (omega arith), third) refl

told_three : (x y z : ℕ) → is_first x ≡ true → is_second x y ≡ true → is_later z ≡ true → utf8_error_len (x ∷ y ∷ z ∷ []) ≡ None
unfolding utf8_error_len
told_three x y z first second third = rw (first, second, third) refl

told_fourth : (x y z w : ℕ) (rest : List ℕ) → is_first x ≡ true → is_second x y ≡ true → is_later z ≡ true → utf8_error_len (x ∷ y ∷ z ∷ w ∷ rest) ≡ Some 3
unfolding utf8_error_len
told_fourth x y z w rest first second third =
    rw (some_length x (y ∷ z ∷ w ∷ rest), first, not_short (length (x ∷ y ∷ z ∷ w ∷ rest)) 2 (omega arith), second, not_short (length (x ∷ y ∷ z ∷ w ∷ rest)) 3 (omega arith), third, not_short (length (x ∷ y ∷ z ∷ w ∷ rest)) 4 (omega arith)) refl

not_in : (least most n : ℕ) → is_in_range least most n ≡ false → least ≤ n → ¬ (n ≤ most)
not_in least most n h low high = grind (arith, nat_tests)

later_range : (z : ℕ) → is_later z ≡ true → (128 ≤ z) × (z < 192)
later_range z h = let low = and_le 0x80 0xBF z h in let high = and_ge 0x80 0xBF z h in (low, omega arith)

not_later : (z : ℕ) → is_later z ≡ false → 128 ≤ z → ¬ (z < 192)
not_later z h low high = not_in 0x80 0xBF z h low (omega arith)

-- ---- each stop

-- the answer: behind what is valid, or the length
abbrev pub place_of : List ℕ → ℕ → Option ℕ → ℕ
place_of text v len = option_map_or (λ k. v + k) len (length text)

some_place : (text : List ℕ) (v k : ℕ) (p r : List ℕ) (len : Option ℕ) → IsValidUpTo text v → drop v text ≡ p ++ r → BeginsText p → GoesNot p r → length p ≡ k → len ≡ Some k → IsTextStop text (place_of text v len)
some_place text v k p r len valid e begins not long is = rw is (stop_moved text (v + length p) (v + k) (ap (λ n. v + n) long) (stop_at text v p r valid e begins not))

no_place : (text : List ℕ) (v : ℕ) (p : List ℕ) (len : Option ℕ) → IsValidUpTo text v → drop v text ≡ p → BeginsText p → len ≡ None → IsTextStop text (place_of text v len)
no_place text v p len valid e begins is =
    let e' : drop v text ≡ p ++ [] = e ∙ sym (append-nil p) in
    rw is (stop_moved text (v + length p) (length text) (let long = text_length text v p [] valid e' in omega arith) (stop_at text v p [] valid e' begins tt))

-- a second byte that doesn't go on
not_second : (x y : ℕ) → is_first x ≡ true → is_second x y ≡ false → (more : List ℕ) → ¬ (IsUtf8 ((x ∷ []) ++ (y ∷ more)))
not_second x y first second more utf8 =
    let h = heads_of x (y ∷ more) utf8 in
    let range = h.second (and_le 0xC2 0xF4 x first) in
    not_in (second_byte_min x) (second_byte_max x) y second range.0 range.1

-- a third: where the two bytes are no character already
not_third : (text : List ℕ) (v x y z : ℕ) (rest : List ℕ) → IsValidUpTo text v → drop v text ≡ x ∷ y ∷ z ∷ rest → is_first x ≡ true → is_second x y ≡ true → is_later z ≡ false → (more : List ℕ) → ¬ (IsUtf8 ((x ∷ y ∷ []) ++ (z ∷ more)))
not_third text v x y z rest valid e first second third more utf8 = elim (order x 224) [
  | inl less ↦ no_char text v (x ∷ y ∷ []) (z ∷ rest) valid e (omega arith) (full_two x y (and_le 0xC2 0xF4 x first) less (in_range x y second))
  | inr high ↦ let h = heads_of x (y ∷ z ∷ more) utf8 in let range = h.third high in not_later z third range.0 range.1
]

not_fourth : (text : List ℕ) (v x y z w : ℕ) (rest : List ℕ) → IsValidUpTo text v → drop v text ≡ x ∷ y ∷ z ∷ w ∷ rest → is_first x ≡ true → is_second x y ≡ true → is_later z ≡ true → (more : List ℕ) → ¬ (IsUtf8 ((x ∷ y ∷ z ∷ []) ++ (w ∷ more)))
not_fourth text v x y z w rest valid e first second third more utf8 = elim (order x 224) [
  | inl less ↦ no_char text v (x ∷ y ∷ []) (z ∷ w ∷ rest) valid e (omega arith) (full_two x y (and_le 0xC2 0xF4 x first) less (in_range x y second))
  | inr high ↦ elim (order x 240) [
    | inl less ↦ no_char text v (x ∷ y ∷ z ∷ []) (w ∷ rest) valid e (omega arith) (full_three x y z high less (in_range x y second) (later_range z third))
    | inr higher ↦
        let h = heads_of x (y ∷ z ∷ w ∷ more) utf8 in
        let range = h.fourth higher in
        no_char text v (x ∷ y ∷ z ∷ w ∷ []) rest valid e (omega arith) (full_four x y z w higher (and_ge 0xC2 0xF4 x first) (in_range x y second) (later_range z third) range)
  ]
]

begins_three_or_char : (text : List ℕ) (v x y z : ℕ) (rest : List ℕ) → IsValidUpTo text v → drop v text ≡ x ∷ y ∷ z ∷ rest → is_first x ≡ true → is_second x y ≡ true → is_later z ≡ true → BeginsText (x ∷ y ∷ z ∷ [])
begins_three_or_char text v x y z rest valid e first second third = elim (order x 224) [
  | inl less ↦ absurd (no_char text v (x ∷ y ∷ []) (z ∷ rest) valid e (omega arith) (full_two x y (and_le 0xC2 0xF4 x first) less (in_range x y second)))
  | inr high ↦ begins_three x y z high (and_ge 0xC2 0xF4 x first) (in_range x y second) (later_range z third)
]

stop_behind_third : (text : List ℕ) (v x y z : ℕ) (rest : List ℕ) (len : Option ℕ) → IsValidUpTo text v → drop v text ≡ x ∷ y ∷ z ∷ rest → is_first x ≡ true → is_second x y ≡ true → is_later z ≡ true → len ≡ utf8_error_len (x ∷ y ∷ z ∷ rest) → IsTextStop text (place_of text v len)
stop_behind_third text v x y z [] len valid e first second third is =
    no_place text v (x ∷ y ∷ z ∷ []) len valid e (begins_three_or_char text v x y z [] valid e first second third) (is ∙ told_three x y z first second third)
stop_behind_third text v x y z (w ∷ rest) len valid e first second third is =
    some_place text v 3 (x ∷ y ∷ z ∷ []) (w ∷ rest) len valid e (begins_three_or_char text v x y z (w ∷ rest) valid e first second third) (not_fourth text v x y z w rest valid e first second third) refl (is ∙ told_fourth x y z w rest first second third)

stop_behind_second : (text : List ℕ) (v x y : ℕ) (rest : List ℕ) (len : Option ℕ) → IsValidUpTo text v → drop v text ≡ x ∷ y ∷ rest → is_first x ≡ true → is_second x y ≡ true → len ≡ utf8_error_len (x ∷ y ∷ rest) → IsTextStop text (place_of text v len)
stop_behind_second text v x y [] len valid e first second is =
    no_place text v (x ∷ y ∷ []) len valid e (begins_two x y (and_le 0xC2 0xF4 x first) (and_ge 0xC2 0xF4 x first) (in_range x y second)) (is ∙ told_two x y first second)
stop_behind_second text v x y (z ∷ rest) len valid e first second is = elim (cases_Bool (is_later z)) [
  | inl third ↦ stop_behind_third text v x y z rest len valid e first second third is
  | inr other ↦ some_place text v 2 (x ∷ y ∷ []) (z ∷ rest) len valid e (begins_two x y (and_le 0xC2 0xF4 x first) (and_ge 0xC2 0xF4 x first) (in_range x y second)) (not_third text v x y z rest valid e first second other) refl (is ∙ told_not_third x y z rest first second other)
]

stop_behind_first : (text : List ℕ) (v x : ℕ) (rest : List ℕ) (len : Option ℕ) → IsValidUpTo text v → drop v text ≡ x ∷ rest → is_first x ≡ true → len ≡ utf8_error_len (x ∷ rest) → IsTextStop text (place_of text v len)
stop_behind_first text v x [] len valid e first is =
    no_place text v (x ∷ []) len valid e (begins_one x (and_le 0xC2 0xF4 x first) (and_ge 0xC2 0xF4 x first)) (is ∙ told_one x first)
stop_behind_first text v x (y ∷ rest) len valid e first is = elim (cases_Bool (is_second x y)) [
  | inl second ↦ stop_behind_second text v x y rest len valid e first second is
  | inr other ↦ some_place text v 1 (x ∷ []) (y ∷ rest) len valid e (begins_one x (and_le 0xC2 0xF4 x first) (and_ge 0xC2 0xF4 x first)) (not_second x y first other) refl (is ∙ told_not_second x y rest first other)
]

-- what stands behind what is valid
behind_valid : (text : List ℕ) (v : ℕ) → IsValidUpTo text v → drop v text ≡ get_or text v 0 ∷ drop (v + 1) text
behind_valid text v valid = drop_more text v 0 valid.short

pub fault_stop : (text : List ℕ) (v : ℕ) (len : Option ℕ) → IsValidUpTo text v → is_in_range 0xC2 0xF4 (get_or text v 0) ≡ true → len ≡ utf8_error_len (drop v text) → IsTextStop text (option_map_or (λ k. v + k) len (length text))
fault_stop text v len valid first is =
    let e = behind_valid text v valid in
    stop_behind_first text v (get_or text v 0) (drop (v + 1) text) len valid e first (is ∙ ap utf8_error_len e)

no_first : (x : ℕ) (more : List ℕ) → is_first x ≡ false → 128 ≤ x → ¬ (IsUtf8 (x ∷ more))
no_first x more first high utf8 = let h = heads_of x more utf8 in elim h.first [
  | inl low ↦ absurd (omega arith)
  | inr range ↦ not_in 0xC2 0xF4 x first range.0 range.1
]

ascii_char : (x : ℕ) → x < 128 → IsUtf8 (x ∷ [])
ascii_char x low = of_one (x ∷ []) 0 (omega arith) low

-- a byte that begins no character
pub byte_stop : (text : List ℕ) (v : ℕ) → IsValidUpTo text v → is_in_range 0xC2 0xF4 (get_or text v 0) ≡ false → IsTextStop text v
byte_stop text v valid first =
    let x : ℕ = get_or text v 0 in
    let rest : List ℕ = drop (v + 1) text in
    let e : drop v text ≡ x ∷ rest = behind_valid text v valid in
    let high : 128 ≤ x = elim (order x 128) [ inl low ↦ absurd (no_char text v (x ∷ []) rest valid e (omega arith) (ascii_char x low)) | inr high ↦ high ] in
    stop_moved text (v + 0) v (omega arith) (stop_at text v [] (x ∷ rest) valid e (record { rest = []; utf8 = IsUtf8-nil }) (λ more utf8. no_first x more first high utf8))
