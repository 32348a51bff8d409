-- The reader of object identifiers comes to an end exactly on them.
use Rattle.std.proofs.Common.{◌≡◌, ◌↔◌, ◌⊎◌, inl, inr, ℕ, ◌+◌, ◌-◌, ◌*◌, ◌<◌, ◌≤◌, Bool, true, false, not, ◌&&◌, cond, IsTrue, Option, Some, List, [], ◌∷◌, ◌++◌, length, fold, refl, sym, ap, ◌∙◌, arith, append-nil}
use Rattle.std.specs.Prelude.{◌==◌, ◌||◌}
use Rattle.std.specs.Char.{is_ascii_digit}
use Rattle.std.specs.Int.{is_in_range}
use Rattle.std.specs.List.{AllByRecursion, flat_map, list_all, join_with_byte}
use Rattle.std.specs.Option.{option_map_or}
use Rattle.std.proofs.lemmas.Bool.{cases_Bool, eqb-true, or_cases}
use Rattle.std.proofs.lemmas.Bool.Decides.{nat_tests}
use Rattle.al_ids.specs.Oids.{is_empty, is_arc, arc_value, IsRooted, IsOid}
use Rattle.al_ids.specs.OidReading.{when, next_place, may_end, leads_to_end}
use Rattle.al_ids.specs.declared.oid.Place.{Place}
use Rattle.al_ids.specs.declared.oid.Place.TheVariants.{Start, Low, High, Second, Tens, Done, Arc, Digits}

and_left : (a b : Bool) → (a && b) ≡ true → a ≡ true
and_left true b h = refl
and_left false b h = h

and_right : (a b : Bool) → (a && b) ≡ true → b ≡ true
and_right true b h = h
and_right false b h = cc

abbrev IsArc : List ℕ → Type 0
IsArc arc = IsTrue (is_arc arc)

abbrev dotted : List ℕ → List ℕ
dotted arc = 46 ∷ arc

-- the arcs that may stand behind one
record Arcs (bytes : List ℕ) : Type 0 where
  arcs : List (List ℕ)
  each : AllByRecursion IsArc arcs
  spelling : bytes ≡ flat_map dotted arcs

record ArcRest (bytes : List ℕ) : Type 0 where
  digits : List ℕ
  rest : List ℕ
  all : list_all is_ascii_digit digits ≡ true
  more : Arcs rest
  spelling : bytes ≡ digits ++ rest

-- at most one more digit
record LastDigit (bytes : List ℕ) : Type 0 where
  digits : List ℕ
  rest : List ℕ
  all : list_all is_ascii_digit digits ≡ true
  short : length digits ≤ 1
  more : Arcs rest
  spelling : bytes ≡ digits ++ rest

record ArcWhole (bytes : List ℕ) : Type 0 where
  arc : List ℕ
  rest : List ℕ
  is : IsArc arc
  more : Arcs rest
  spelling : bytes ≡ arc ++ rest

record SmallArc (bytes : List ℕ) : Type 0 where
  arc : List ℕ
  rest : List ℕ
  is : IsArc arc
  small : arc_value arc ≤ 39
  more : Arcs rest
  spelling : bytes ≡ arc ++ rest

record Dotted (P : List ℕ → Type 0) (bytes : List ℕ) : Type 0 where
  behind : List ℕ
  value : P behind
  spelling : bytes ≡ 46 ∷ behind

-- what leads from a place to the end of an object identifier
abbrev Leads : Place → List ℕ → Type 0
Leads Start bytes = IsOid bytes
Leads Low bytes = Dotted SmallArc bytes
Leads High bytes = Dotted ArcWhole bytes
Leads Second bytes = SmallArc bytes
Leads Tens bytes = LastDigit bytes
Leads Done bytes = Arcs bytes
Leads Arc bytes = ArcWhole bytes
Leads Digits bytes = ArcRest bytes

abbrev Later : List ℕ → Type 0
Later rest = (place : Place) → leads_to_end rest place ≡ true → Leads place rest

chosen : (test : Bool) (place : Place) (rest : List ℕ) → option_map_or (leads_to_end rest) (when test place) false ≡ true → (test ≡ true) × (leads_to_end rest place ≡ true)
chosen true place rest h = (refl, h)
chosen false place rest h = cc

either : (test : Bool) (place : Place) (other : Option Place) (rest : List ℕ) → option_map_or (leads_to_end rest) (cond test (Some place) other) false ≡ true → ((test ≡ true) × (leads_to_end rest place ≡ true)) ⊎ ((test ≡ false) × (option_map_or (leads_to_end rest) other false ≡ true))
either true place other rest h = inl (refl, h)
either false place other rest h = inr (refl, h)

no_arcs : Arcs []
no_arcs = record { arcs = []; each = tt; spelling = refl }

-- one more arc behind a dot
one_more : (byte : ℕ) (rest : List ℕ) → byte ≡ 46 → ArcWhole rest → Arcs (byte ∷ rest)
one_more byte rest dot whole =
    let more = whole.more in
    record { arcs = whole.arc ∷ more.arcs; each = (whole.is, more.each); spelling = rw (dot, whole.spelling, more.spelling) refl }

is_digit_range : (byte : ℕ) → is_ascii_digit byte ≡ true → (48 ≤ byte) × (byte ≤ 57)
is_digit_range byte h = grind (arith, nat_tests)

tens_range : (byte : ℕ) → is_in_range 49 51 byte ≡ true → (49 ≤ byte) × (byte ≤ 51)
tens_range byte h = grind (arith, nat_tests)

range_tens : (byte : ℕ) → 49 ≤ byte → byte ≤ 51 → is_in_range 49 51 byte ≡ true
range_tens byte low high = grind (arith, nat_tests)

not_zero : (byte : ℕ) → 49 ≤ byte → (byte == 48) ≡ false
not_zero byte low = grind (arith, nat_tests)

tens_digit : (byte : ℕ) → 49 ≤ byte → byte ≤ 51 → is_ascii_digit byte ≡ true
tens_digit byte low high = grind (arith, nat_tests)

longer : (byte : ℕ) (rest : List ℕ) → is_ascii_digit byte ≡ true → ArcRest rest → ArcRest (byte ∷ rest)
longer byte rest on more = record { digits = byte ∷ more.digits; rest = more.rest; all = rw on more.all; more = more.more; spelling = ap (λ l. byte ∷ l) more.spelling }

zero_arc : (byte : ℕ) (rest : List ℕ) → byte ≡ 48 → Arcs rest → ArcWhole (byte ∷ rest)
zero_arc byte rest zero more = record { arc = 48 ∷ []; rest = rest; is = refl; more = more; spelling = ap (λ b. b ∷ rest) zero }

arc_is : (byte : ℕ) (digits : List ℕ) → (byte == 48) ≡ false → is_ascii_digit byte ≡ true → list_all is_ascii_digit digits ≡ true → is_arc (byte ∷ digits) ≡ true
arc_is byte digits some on all = rw (on, all, some) refl

digits_arc : (byte : ℕ) (rest : List ℕ) → (byte == 48) ≡ false → is_ascii_digit byte ≡ true → ArcRest rest → ArcWhole (byte ∷ rest)
digits_arc byte rest some on more = record { arc = byte ∷ more.digits; rest = more.rest; is = arc_is byte more.digits some on more.all; more = more.more; spelling = ap (λ l. byte ∷ l) more.spelling }

-- a digit up to 3, and at most one more
small_tens : (byte : ℕ) (digits : List ℕ) → byte ≤ 51 → list_all is_ascii_digit digits ≡ true → length digits ≤ 1 → arc_value (byte ∷ digits) ≤ 39
small_tens byte [] high all short = omega arith
small_tens byte (ones ∷ []) high all short =
    let range = is_digit_range ones (and_left (is_ascii_digit ones) true all) in
    omega arith
small_tens byte (ones ∷ more ∷ rest) high all short = absurd (omega arith)

tens_arc : (byte : ℕ) (rest : List ℕ) → is_in_range 49 51 byte ≡ true → LastDigit rest → SmallArc (byte ∷ rest)
tens_arc byte rest tens more =
    let range = tens_range byte tens in
    record { arc = byte ∷ more.digits; rest = more.rest; is = arc_is byte more.digits (not_zero byte range.0) (tens_digit byte range.0 range.1) more.all; small = small_tens byte more.digits range.1 more.all more.short; more = more.more; spelling = ap (λ l. byte ∷ l) more.spelling }

last_or : (test : Bool) → (not test || true) ≡ true
last_or true = refl
last_or false = refl

one_digit : (byte : ℕ) → is_ascii_digit byte ≡ true → is_arc (byte ∷ []) ≡ true
one_digit byte on = rw on (last_or (byte == 48))

ones_arc : (byte : ℕ) (rest : List ℕ) → is_ascii_digit byte ≡ true → Arcs rest → SmallArc (byte ∷ rest)
ones_arc byte rest on more =
    let range = is_digit_range byte on in
    record { arc = byte ∷ []; rest = rest; is = one_digit byte on; small = omega arith; more = more; spelling = refl }

read_digits : (byte : ℕ) (rest : List ℕ) → Later rest → leads_to_end (byte ∷ rest) Digits ≡ true → ArcRest (byte ∷ rest)
read_digits byte rest later h =
    elim (either (byte == 46) Arc (when (is_ascii_digit byte) Digits) rest h) [
      | inl dot ↦ record { digits = []; rest = byte ∷ rest; all = refl; more = one_more byte rest (eqb-true _ _ dot.0) (later Arc dot.1); spelling = refl }
      | inr other ↦
          let on = chosen (is_ascii_digit byte) Digits rest other.1 in
          let more : ArcRest rest = later Digits on.1 in
          longer byte rest on.0 more
    ]

read_tens : (byte : ℕ) (rest : List ℕ) → Later rest → leads_to_end (byte ∷ rest) Tens ≡ true → LastDigit (byte ∷ rest)
read_tens byte rest later h =
    elim (either (byte == 46) Arc (when (is_ascii_digit byte) Done) rest h) [
      | inl dot ↦ record { digits = []; rest = byte ∷ rest; all = refl; short = omega arith; more = one_more byte rest (eqb-true _ _ dot.0) (later Arc dot.1); spelling = refl }
      | inr other ↦
          let on = chosen (is_ascii_digit byte) Done rest other.1 in
          record { digits = byte ∷ []; rest = rest; all = rw on.0 refl; short = omega arith; more = later Done on.1; spelling = refl }
    ]

read_arc : (byte : ℕ) (rest : List ℕ) → Later rest → leads_to_end (byte ∷ rest) Arc ≡ true → ArcWhole (byte ∷ rest)
read_arc byte rest later h =
    elim (either (byte == 48) Done (when (is_ascii_digit byte) Digits) rest h) [
      | inl zero ↦ zero_arc byte rest (eqb-true _ _ zero.0) (later Done zero.1)
      | inr other ↦ let on = chosen (is_ascii_digit byte) Digits rest other.1 in digits_arc byte rest other.0 on.0 (later Digits on.1)
    ]

read_second : (byte : ℕ) (rest : List ℕ) → Later rest → leads_to_end (byte ∷ rest) Second ≡ true → SmallArc (byte ∷ rest)
read_second byte rest later h =
    elim (either (is_in_range 49 51 byte) Tens (when (is_ascii_digit byte) Done) rest h) [
      | inl tens ↦ tens_arc byte rest tens.0 (later Tens tens.1)
      | inr other ↦ let on = chosen (is_ascii_digit byte) Done rest other.1 in ones_arc byte rest on.0 (later Done on.1)
    ]

joined : (arc : List ℕ) (more : List (List ℕ)) → join_with_byte 46 (arc ∷ more) ≡ arc ++ flat_map dotted more
joined arc [] = sym (append-nil arc)
joined arc (next ∷ more) = ap (λ l. arc ++ (46 ∷ l)) (joined next more)

low_digit : (byte : ℕ) → (byte ≡ 48) ⊎ (byte ≡ 49) → is_ascii_digit byte ≡ true
low_digit byte (inl zero) = rw zero refl
low_digit byte (inr one) = rw one refl

read_low : (byte : ℕ) (rest : List ℕ) → (byte ≡ 48) ⊎ (byte ≡ 49) → Dotted SmallArc rest → IsOid (byte ∷ rest)
read_low byte rest low dot =
    let arc = dot.value in
    let more = arc.more in
    let range : (48 ≤ byte) × (byte ≤ 49) = elim low [ inl zero ↦ (omega arith, omega arith) | inr one ↦ (omega arith, omega arith) ] in
    record {
      arcs = (byte ∷ []) ∷ arc.arc ∷ more.arcs;
      each = (one_digit byte (low_digit byte low), (arc.is, more.each));
      rooted = (omega arith, λ h. arc.small);
      spelling = rw (dot.spelling, arc.spelling, more.spelling) (ap (λ l. byte ∷ 46 ∷ l) (sym (joined arc.arc more.arcs)));
    }

read_high : (byte : ℕ) (rest : List ℕ) → byte ≡ 50 → Dotted ArcWhole rest → IsOid (byte ∷ rest)
read_high byte rest two dot =
    let arc = dot.value in
    let more = arc.more in
    record {
      arcs = (50 ∷ []) ∷ arc.arc ∷ more.arcs;
      each = (refl, (arc.is, more.each));
      rooted = (omega arith, λ h. absurd (omega arith));
      spelling = rw (two, dot.spelling, arc.spelling, more.spelling) (ap (λ l. 50 ∷ 46 ∷ l) (sym (joined arc.arc more.arcs)));
    }

low_is : (byte : ℕ) → ((byte == 48) || (byte == 49)) ≡ true → (byte ≡ 48) ⊎ (byte ≡ 49)
low_is byte h = elim (or_cases (byte == 48) (byte == 49) h) [ inl zero ↦ inl (eqb-true _ _ zero) | inr one ↦ inr (eqb-true _ _ one) ]

-- What leads to the end is an object identifier from there on.
read_on : (rest : List ℕ) (place : Place) → leads_to_end rest place ≡ true → Leads place rest
read_on [] Start h = absurd (cc)
read_on [] Low h = absurd (cc)
read_on [] High h = absurd (cc)
read_on [] Second h = absurd (cc)
read_on [] Tens h = record { digits = []; rest = []; all = refl; short = omega arith; more = no_arcs; spelling = refl }
read_on [] Done h = no_arcs
read_on [] Arc h = absurd (cc)
read_on [] Digits h = record { digits = []; rest = []; all = refl; more = no_arcs; spelling = refl }
read_on (byte ∷ rest) Start h =
    elim (either (byte == 50) High (when ((byte == 48) || (byte == 49)) Low) rest h) [
      | inl two ↦ read_high byte rest (eqb-true _ _ two.0) (read_on rest High two.1)
      | inr other ↦ let low = chosen ((byte == 48) || (byte == 49)) Low rest other.1 in read_low byte rest (low_is byte low.0) (read_on rest Low low.1)
    ]
read_on (byte ∷ rest) Low h =
    let dot = chosen (byte == 46) Second rest h in
    record { behind = rest; value = read_on rest Second dot.1; spelling = ap (λ b. b ∷ rest) (eqb-true _ _ dot.0) }
read_on (byte ∷ rest) High h =
    let dot = chosen (byte == 46) Arc rest h in
    record { behind = rest; value = read_on rest Arc dot.1; spelling = ap (λ b. b ∷ rest) (eqb-true _ _ dot.0) }
read_on (byte ∷ rest) Second h = read_second byte rest (read_on rest) h
read_on (byte ∷ rest) Tens h = read_tens byte rest (read_on rest) h
read_on (byte ∷ rest) Done h =
    let dot = chosen (byte == 46) Arc rest h in one_more byte rest (eqb-true _ _ dot.0) (read_on rest Arc dot.1)
read_on (byte ∷ rest) Arc h = read_arc byte rest (read_on rest) h
read_on (byte ∷ rest) Digits h = read_digits byte rest (read_on rest) h

-- What is spelled as an object identifier leads to the end. These places may be followed by a dot.
abbrev EndsArc : Place → Type 0
EndsArc place = (may_end place ≡ true) × (next_place place 46 ≡ Some Arc)

abbrev LeadsOn : List ℕ → Type 0
LeadsOn rest = (place : Place) → EndsArc place → leads_to_end rest place ≡ true

no_dot : (byte : ℕ) → is_ascii_digit byte ≡ true → (byte == 46) ≡ false
no_dot byte h = grind (arith, nat_tests)

digits_lead : (digits rest : List ℕ) → list_all is_ascii_digit digits ≡ true → LeadsOn rest → leads_to_end (digits ++ rest) Digits ≡ true
digits_lead [] rest all on = on Digits (refl, refl)
digits_lead (byte ∷ digits) rest all on =
    let digit = and_left (is_ascii_digit byte) (list_all is_ascii_digit digits) all in
    rw (no_dot byte digit, digit) (digits_lead digits rest (and_right (is_ascii_digit byte) (list_all is_ascii_digit digits) all) on)

-- the parts of an arc
first_digit : (byte : ℕ) (digits : List ℕ) → IsArc (byte ∷ digits) → is_ascii_digit byte ≡ true
first_digit byte digits is = and_left (is_ascii_digit byte) (list_all is_ascii_digit digits) (and_left (is_ascii_digit byte && list_all is_ascii_digit digits) (not (byte == 48) || is_empty digits) is)

later_digits : (byte : ℕ) (digits : List ℕ) → IsArc (byte ∷ digits) → list_all is_ascii_digit digits ≡ true
later_digits byte digits is = and_right (is_ascii_digit byte) (list_all is_ascii_digit digits) (and_left (is_ascii_digit byte && list_all is_ascii_digit digits) (not (byte == 48) || is_empty digits) is)

zero_or : (zero : Bool) (digits : List ℕ) → (not zero || is_empty digits) ≡ true → (zero ≡ false) ⊎ (digits ≡ [])
zero_or false digits h = inl refl
zero_or true [] h = inr refl
zero_or true (x ∷ digits) h = absurd (cc)

no_leading_zero : (byte : ℕ) (digits : List ℕ) → IsArc (byte ∷ digits) → ((byte == 48) ≡ false) ⊎ (digits ≡ [])
no_leading_zero byte digits is = zero_or (byte == 48) digits (and_right (is_ascii_digit byte && list_all is_ascii_digit digits) (not (byte == 48) || is_empty digits) is)

arc_leads : (arc rest : List ℕ) → IsArc arc → LeadsOn rest → leads_to_end (arc ++ rest) Arc ≡ true
arc_leads [] rest is on = cc
arc_leads (byte ∷ digits) rest is on =
    elim (cases_Bool (byte == 48)) [
      | inl zero ↦ elim (no_leading_zero byte digits is) [
        | inl some ↦ absurd (cc)
        | inr none ↦ rw (zero, none) (on Done (refl, refl))
      ]
      | inr some ↦ rw (some, first_digit byte digits is) (digits_lead digits rest (later_digits byte digits is) on)
    ]

arcs_lead : (arcs : List (List ℕ)) → AllByRecursion IsArc arcs → LeadsOn (flat_map dotted arcs)
arcs_lead [] each = λ place ends. ends.0
arcs_lead (arc ∷ arcs) each = λ place ends. rw ends.1 (arc_leads arc (flat_map dotted arcs) each.0 (arcs_lead arcs each.1))

-- more digits make no smaller number
grows : (n : ℕ) (digits : List ℕ) → n ≤ fold (λ n digit. 10 * n + (digit - 48)) n digits
grows n [] = omega arith
grows n (byte ∷ digits) = omega (arith, grows (10 * n + (byte - 48)) digits)

not_zero_digit : (byte : ℕ) → is_ascii_digit byte ≡ true → (byte == 48) ≡ false → 49 ≤ byte
not_zero_digit byte digit some = grind (arith, nat_tests)

not_zero_first : (byte next : ℕ) (digits : List ℕ) → IsArc (byte ∷ next ∷ digits) → (byte == 48) ≡ false
not_zero_first byte next digits is = elim (no_leading_zero byte (next ∷ digits) is) [ inl some ↦ some | inr none ↦ absurd (cc) ]

second_leads : (arc rest : List ℕ) → IsArc arc → arc_value arc ≤ 39 → LeadsOn rest → leads_to_end (arc ++ rest) Second ≡ true
second_leads [] rest is small on = cc
second_leads (byte ∷ []) rest is small on =
    elim (cases_Bool (is_in_range 49 51 byte)) [
      | inl tens ↦ rw tens (on Tens (refl, refl))
      | inr other ↦ rw (other, first_digit byte [] is) (on Done (refl, refl))
    ]
second_leads (byte ∷ ones ∷ []) rest is small on =
    let digit = first_digit byte (ones ∷ []) is in
    let some = not_zero_digit byte digit (not_zero_first byte ones [] is) in
    let last = and_left (is_ascii_digit ones) true (later_digits byte (ones ∷ []) is) in
    rw (range_tens byte some (omega arith), no_dot ones last, last) (on Done (refl, refl))
second_leads (byte ∷ ones ∷ more ∷ digits) rest is small on =
    let digit = first_digit byte (ones ∷ more ∷ digits) is in
    let some = not_zero_digit byte digit (not_zero_first byte ones (more ∷ digits) is) in
    let large = grows (10 * (10 * (10 * 0 + (byte - 48)) + (ones - 48)) + (more - 48)) digits in
    absurd (omega arith)

below_fifty : (byte : ℕ) → (byte == 50) ≡ false → byte ≤ 50 → byte < 50
below_fifty byte other high = grind (arith, nat_tests)

zero_or_one : (byte : ℕ) → 48 ≤ byte → byte < 50 → ((byte == 48) || (byte == 49)) ≡ true
zero_or_one byte low high = grind (arith, nat_tests)

-- the first arc, with the second behind its dot
first_leads : (first second rest : List ℕ) → IsArc first → IsArc second → arc_value first ≤ 2 → (arc_value first < 2 → arc_value second ≤ 39) → LeadsOn rest → leads_to_end (first ++ (46 ∷ (second ++ rest))) Start ≡ true
first_leads [] second rest is is_second root small on = cc
first_leads (byte ∷ []) second rest is is_second root small on =
    let range = is_digit_range byte (first_digit byte [] is) in
    elim (cases_Bool (byte == 50)) [
      | inl two ↦ rw two (arc_leads second rest is_second on)
      | inr other ↦
          let low : byte < 50 = below_fifty byte other (omega arith) in
          rw (other, zero_or_one byte range.0 low) (second_leads second rest is_second (small (omega arith)) on)
    ]
first_leads (byte ∷ more ∷ digits) second rest is is_second root small on =
    let some = not_zero_digit byte (first_digit byte (more ∷ digits) is) (not_zero_first byte more digits is) in
    let large = grows (10 * (10 * 0 + (byte - 48)) + (more - 48)) digits in
    absurd (omega arith)

rooted_leads : (arcs : List (List ℕ)) → AllByRecursion IsArc arcs → IsRooted arcs → leads_to_end (join_with_byte 46 arcs) Start ≡ true
rooted_leads [] each rooted = absurd rooted
rooted_leads (first ∷ []) each rooted = absurd rooted
rooted_leads (first ∷ second ∷ more) each rooted =
    rw (joined second more) (first_leads first second (flat_map dotted more) each.0 each.1.0 rooted.0 rooted.1 (arcs_lead more each.1.1))

-- The reader comes to an end exactly on object identifiers.
oid_leads : (text : List ℕ) → IsOid text → leads_to_end text Start ≡ true
oid_leads text oid = rw oid.spelling (rooted_leads oid.arcs oid.each oid.rooted)

leads_oid : (text : List ℕ) → leads_to_end text Start ≡ true → IsOid text
leads_oid text h = read_on text Start h

pub oid_read : (text : List ℕ) (answer : Bool) → answer ≡ leads_to_end text Start → IsTrue answer ↔ IsOid text
oid_read text answer e = (λ h. leads_oid text (sym e ∙ h), λ oid. e ∙ oid_leads text oid)
