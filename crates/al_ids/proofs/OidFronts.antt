-- An object identifier has one list of arcs, so that a front of its arcs is a front of its text that ends where an arc does.
use Rattle.std.proofs.Common.{◌≡◌, ◌≢◌, ◌↔◌, IsTrue, ℕ, ◌<◌, Bool, true, false, not, ◌&&◌, List, [], ◌∷◌, ◌++◌, refl, sym, ap, ◌∙◌, append_assoc, append-nil, arith}
use Rattle.std.specs.Prelude.{◌==◌, ◌||◌, IsUtf8}
use Rattle.std.specs.Char.{is_ascii_digit}
use Rattle.std.specs.Str.{IsAscii}
use Rattle.std.specs.List.{AllByRecursion, flat_map, join_with_byte, list_all}
use Rattle.std.proofs.lemmas.Bool.Decides.{nat_tests}
use Rattle.std.proofs.lemmas.List.{append_cancel_left}
use Rattle.std.proofs.lemmas.List.Concat.{flat_map-append}
use Rattle.std.proofs.lemmas.Str.{IsAscii-append, IsUtf8-from_ascii}
use Rattle.std.proofs.lemmas.Str.Ascii.{IsAscii-nil, IsAscii-cons}
use Rattle.al_ids.specs.Oids.{is_arc, is_empty, IsRooted, IsOid}
use Rattle.al_ids.specs.Matches.{TakesOid}
use Rattle.al_ids.specs.OidReading.{ends_arc}
use Rattle.al_ids.proofs.Fronts.{stops, same_front, same_behind}

and_left : (a b : Bool) → (a && b) ≡ true → a ≡ true
and_left true b h = refl
and_left false b h = h

and_right : (a b : Bool) → (a && b) ≡ true → b ≡ true
and_right true b h = h
and_right false b h = cc

abbrev pub IsArc : List ℕ → Type 0
IsArc arc = IsTrue (is_arc arc)

abbrev dotted : List ℕ → List ℕ
dotted arc = 46 ∷ arc

abbrev pub no_dot : ℕ → Bool
no_dot byte = not (byte == 46)

digit_no_dot : (byte : ℕ) → is_ascii_digit byte ≡ true → no_dot byte ≡ true
digit_no_dot byte h = grind (arith, nat_tests)

digit_low : (byte : ℕ) → is_ascii_digit byte ≡ true → byte < 128
digit_low byte h = grind (arith, nat_tests)

digits_no_dot : (digits : List ℕ) → list_all is_ascii_digit digits ≡ true → list_all no_dot digits ≡ true
digits_no_dot [] all = refl
digits_no_dot (byte ∷ digits) all =
    rw (digit_no_dot byte (and_left (is_ascii_digit byte) (list_all is_ascii_digit digits) all))
    (digits_no_dot digits (and_right (is_ascii_digit byte) (list_all is_ascii_digit digits) all))

arc_digits : (arc : List ℕ) → IsArc arc → list_all is_ascii_digit arc ≡ true
arc_digits [] is = refl
arc_digits (byte ∷ digits) is = and_left (list_all is_ascii_digit (byte ∷ digits)) (not (byte == 48) || is_empty digits) is

pub arc_no_dot : (arc : List ℕ) → IsArc arc → list_all no_dot arc ≡ true
arc_no_dot arc is = digits_no_dot arc (arc_digits arc is)

joined : (arc : List ℕ) (more : List (List ℕ)) → join_with_byte 46 (arc ∷ more) ≡ arc ++ flat_map dotted more
joined arc [] = sym (append-nil arc)
joined arc (next ∷ more) = ap (λ l. arc ++ (46 ∷ l)) (joined next more)

dot_stops : (byte : ℕ) → (byte == 46) ≡ true → not (no_dot byte) ≡ true
dot_stops byte h = rw h refl

stops_no_dot : (rest : List ℕ) → ends_arc rest ≡ true → stops no_dot rest ≡ true
stops_no_dot [] ends = refl
stops_no_dot (byte ∷ rest) ends = dot_stops byte ends

dots_stop : (arcs : List (List ℕ)) (rest : List ℕ) → ends_arc rest ≡ true → stops no_dot (flat_map dotted arcs ++ rest) ≡ true
dots_stop [] rest ends = stops_no_dot rest ends
dots_stop (arc ∷ arcs) rest ends = refl

dots_end : (arcs : List (List ℕ)) → ends_arc (flat_map dotted arcs) ≡ true
dots_end [] = refl
dots_end (arc ∷ arcs) = refl

-- the arcs that go on behind a front
record Longer (front arcs : List (List ℕ)) : Type 0 where
  more : List (List ℕ)
  is : arcs ≡ front ++ more

one_longer : (arc next : List ℕ) (front arcs : List (List ℕ)) → next ≡ arc → Longer front arcs → Longer (arc ∷ front) (next ∷ arcs)
one_longer arc next front arcs same longer = record { more = longer.more; is = rw (same, longer.is) refl }

-- The first arcs are the same, and what stands behind them.
record Cut (arc next : List ℕ) (front arcs : List (List ℕ)) (rest : List ℕ) : Type 0 where
  same : next ≡ arc
  behind : flat_map dotted arcs ≡ flat_map dotted front ++ rest

cut : (arc next : List ℕ) (front arcs : List (List ℕ)) (rest : List ℕ) → IsArc arc → IsArc next → ends_arc rest ≡ true
    → next ++ flat_map dotted arcs ≡ (arc ++ flat_map dotted front) ++ rest → Cut arc next front arcs rest
cut arc next front arcs rest arc_is next_is ends e =
    let e' = e ∙ append_assoc arc (flat_map dotted front) rest in
    let stop = dots_stop front rest ends in
    let there = stops_no_dot (flat_map dotted arcs) (dots_end arcs) in
    record {
      same = same_front no_dot next arc (flat_map dotted arcs) (flat_map dotted front ++ rest) (arc_no_dot next next_is) (arc_no_dot arc arc_is) there stop e';
      behind = same_behind no_dot next arc (flat_map dotted arcs) (flat_map dotted front ++ rest) (arc_no_dot next next_is) (arc_no_dot arc arc_is) there stop e';
    }

dots_begin : (front arcs : List (List ℕ)) (rest : List ℕ) → AllByRecursion IsArc front → AllByRecursion IsArc arcs → ends_arc rest ≡ true
    → flat_map dotted arcs ≡ flat_map dotted front ++ rest → Longer front arcs
dots_begin [] arcs rest front_are arcs_are ends e = record { more = arcs; is = refl }
dots_begin (arc ∷ front) [] rest front_are arcs_are ends e = absurd (cc)
dots_begin (arc ∷ front) (next ∷ arcs) rest front_are arcs_are ends e =
    let e' : next ++ flat_map dotted arcs ≡ (arc ++ flat_map dotted front) ++ rest = cc in
    let c = cut arc next front arcs rest front_are.0 arcs_are.0 ends e' in
    one_longer arc next front arcs c.same (dots_begin front arcs rest front_are.1 arcs_are.1 ends c.behind)

joins_begin : (front arcs : List (List ℕ)) (rest : List ℕ) → AllByRecursion IsArc front → IsRooted front → AllByRecursion IsArc arcs → IsRooted arcs → ends_arc rest ≡ true
    → join_with_byte 46 arcs ≡ join_with_byte 46 front ++ rest → Longer front arcs
joins_begin [] arcs rest front_are rooted arcs_are arcs_rooted ends e = absurd rooted
joins_begin (arc ∷ front) [] rest front_are rooted arcs_are arcs_rooted ends e = absurd arcs_rooted
joins_begin (arc ∷ front) (next ∷ arcs) rest front_are rooted arcs_are arcs_rooted ends e =
    let c = cut arc next front arcs rest front_are.0 arcs_are.0 ends (sym (joined next arcs) ∙ e ∙ ap (λ l. l ++ rest) (joined arc front)) in
    one_longer arc next front arcs c.same (dots_begin front arcs rest front_are.1 arcs_are.1 ends c.behind)

-- A front of the text that ends where an arc does is a front of the arcs.
pub oid_front : (asked given rest : List ℕ) → IsOid asked → IsOid given → given ≡ asked ++ rest → ends_arc rest ≡ true → TakesOid asked given
oid_front asked given rest front oid e ends =
    let longer = joins_begin front.arcs oid.arcs rest front.each front.rooted oid.each oid.rooted ends (sym oid.spelling ∙ e ∙ ap (λ l. l ++ rest) front.spelling) in
    record { front = front; oid = oid; more = longer.more; arcs = longer.is }

join_longer : (front more : List (List ℕ)) → IsRooted front → join_with_byte 46 (front ++ more) ≡ join_with_byte 46 front ++ flat_map dotted more
join_longer [] more rooted = absurd rooted
join_longer (arc ∷ front) more rooted =
    joined arc (front ++ more) ∙ ap (λ l. arc ++ l) (flat_map-append dotted front more) ∙ sym (append_assoc arc (flat_map dotted front) (flat_map dotted more)) ∙ ap (λ l. l ++ flat_map dotted more) (sym (joined arc front))

-- The other way.
oid_rest : (asked given : List ℕ) (takes : TakesOid asked given) → given ≡ asked ++ flat_map dotted takes.more
oid_rest asked given takes =
    takes.oid.spelling ∙ ap (join_with_byte 46) takes.arcs ∙ join_longer takes.front.arcs takes.more takes.front.rooted
    ∙ ap (λ l. l ++ flat_map dotted takes.more) (sym takes.front.spelling)

pub oid_ends : (asked given rest : List ℕ) → given ≡ asked ++ rest → TakesOid asked given → ends_arc rest ≡ true
oid_ends asked given rest e takes =
    let same : rest ≡ flat_map dotted takes.more = append_cancel_left asked rest (flat_map dotted takes.more) (sym e ∙ oid_rest asked given takes) in
    ap ends_arc same ∙ dots_end takes.more

pub oid_begins : (asked given : List ℕ) → ((rest : List ℕ) → given ≢ asked ++ rest) → ¬ (TakesOid asked given)
oid_begins asked given none takes = none (flat_map dotted takes.more) (oid_rest asked given takes)

-- An object identifier is ASCII.
digits_ascii : (digits : List ℕ) → list_all is_ascii_digit digits ≡ true → IsAscii digits
digits_ascii [] all = IsAscii-nil
digits_ascii (byte ∷ digits) all =
    IsAscii-cons byte digits (digit_low byte (and_left (is_ascii_digit byte) (list_all is_ascii_digit digits) all))
    (digits_ascii digits (and_right (is_ascii_digit byte) (list_all is_ascii_digit digits) all))

dots_ascii : (arcs : List (List ℕ)) → AllByRecursion IsArc arcs → IsAscii (flat_map dotted arcs)
dots_ascii [] each = IsAscii-nil
dots_ascii (arc ∷ arcs) each =
    IsAscii-cons 46 (arc ++ flat_map dotted arcs) (omega arith) (IsAscii-append arc (flat_map dotted arcs) (digits_ascii arc (arc_digits arc each.0)) (dots_ascii arcs each.1))

arcs_ascii : (arcs : List (List ℕ)) → AllByRecursion IsArc arcs → IsRooted arcs → IsAscii (join_with_byte 46 arcs)
arcs_ascii [] each rooted = absurd rooted
arcs_ascii (arc ∷ arcs) each rooted =
    rw (joined arc arcs) (IsAscii-append arc (flat_map dotted arcs) (digits_ascii arc (arc_digits arc each.0)) (dots_ascii arcs each.1))

pub oid_utf8 : (text : List ℕ) → IsOid text → IsUtf8 text
oid_utf8 text oid = IsUtf8-from_ascii text (rw oid.spelling (arcs_ascii oid.arcs oid.each oid.rooted))

-- what a front that was taken off tells
pub front_taken : (asked given rest : List ℕ) (answer : Bool) → IsOid asked → IsOid given → given ≡ asked ++ rest → answer ≡ ends_arc rest → IsTrue answer ↔ TakesOid asked given
front_taken asked given rest answer front oid e is = (λ ends. oid_front asked given rest front oid e (sym is ∙ ends), λ takes. is ∙ oid_ends asked given rest e takes)
