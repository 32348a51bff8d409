-- The name of an alarm type is cut at its first colon.
use Rattle.std.proofs.Common.{◌≡◌, ℕ, zero, suc, ◌+◌, ◌<◌, ◌≤◌, Bool, true, false, not, ◌&&◌, List, [], ◌∷◌, ◌++◌, Some, length, take, drop, position, refl, sym, ap, ◌∙◌, arith, rules, nat_lt, get_or, length-append, drop-cons, None, slice_index, append-nil}
use Rattle.std.specs.Prelude.{◌==◌}
use Rattle.std.proofs.lemmas.Str.{IsUtf8-from_ascii}
use Rattle.std.specs.Str.{IsUtf8}
use Rattle.std.proofs.Math.Seq.{take-append_seam, drop-append-add}
use Rattle.std.proofs.lemmas.List.{take-append-drop}
use Rattle.std.proofs.lemmas.List.Quantifiers.{position-Some}
use Rattle.std.proofs.lemmas.Bool.{eqb-true}
use Rattle.std.proofs.lemmas.Bool.Decides.{nat_tests}
use Rattle.std.specs.List.{list_all, position_or_len}
use Rattle.al_base.specs.Identifiers.{IsTypeName, begins_identifier, continues_identifier, is_identifier}

abbrev pub is_colon : ℕ → Bool
is_colon byte = byte == 58

begins_continues : (byte : ℕ) → begins_identifier byte ≡ true → continues_identifier byte ≡ true
begins_continues byte h = grind (arith, nat_tests)

no_colon : (byte : ℕ) → continues_identifier byte ≡ true → not (is_colon byte) ≡ true
no_colon byte h = grind (arith, nat_tests)

and_left : (a b : Bool) → (a && b) ≡ true → a ≡ true
and_left true b h = refl
and_left false b h = h

and_right : (a b : Bool) → (a && b) ≡ true → b ≡ true
and_right true b h = h
and_right false b h = cc

all_continue : (name : List ℕ) → is_identifier name ≡ true → list_all continues_identifier name ≡ true
all_continue [] h = refl
all_continue (x ∷ rest) h =
    let begins = begins_continues x (and_left (begins_identifier x) (list_all continues_identifier rest) h) in
    let continues = and_right (begins_identifier x) (list_all continues_identifier rest) h in
    rw (begins, continues) refl

colon_place : (name rest : List ℕ) → list_all continues_identifier name ≡ true → position_or_len is_colon (name ++ 58 ∷ rest) ≡ length name
colon_place [] rest h = refl
colon_place (x ∷ name) rest h =
    let here = no_colon x (and_left (continues_identifier x) (list_all continues_identifier name) h) in
    let later = colon_place name rest (and_right (continues_identifier x) (list_all continues_identifier name) h) in
    rw here (omega (arith, later))

not_empty : (name : List ℕ) → is_identifier name ≡ true → 1 ≤ length name
not_empty [] h = cc
not_empty (x ∷ rest) h = omega arith

-- a text with two identifiers about its first colon
pub named : (text : List ℕ) (i : ℕ) → position is_colon text ≡ Some i → length text ≤ 128 → is_identifier (take i text) ≡ true → is_identifier (drop (i + 1) text) ≡ true → IsTypeName text
named text i at short first second =
    let found = position-Some is_colon text i 0 at in
    let colon : get_or text i 0 ≡ 58 = eqb-true _ _ found.1 in
    let next : i + 1 ≡ suc i = omega arith in
    let behind : drop i text ≡ 58 ∷ drop (i + 1) text = rw (next, ← colon) (drop-cons text i 0 found.0) in
    let spelled : text ≡ take i text ++ 58 ∷ drop (i + 1) text = sym (ap (λ rest. take i text ++ rest) (sym behind) ∙ take-append-drop i text) in
    let left = not_empty (take i text) first in
    let right = not_empty (drop (i + 1) text) second in
    let long = ap length spelled ∙ length-append (take i text) (58 ∷ drop (i + 1) text) in
    record {
      defined_in = take i text;
      identity = drop (i + 1) text;
      spelling = spelled;
      has_module = first;
      has_identity = second;
      shortest = omega arith;
      longest = short;
    }

position_is : (text : List ℕ) (i : ℕ) → position_or_len is_colon text ≡ i → i < length text → position is_colon text ≡ Some i
position_is text i e lt =
    let within : nat_lt i (length text) ≡ true = search (rules, lt) in
    rw (e, within) refl

-- and the place of the colon in a name
pub cut : (text : List ℕ) (h : IsTypeName text) → (position is_colon text ≡ Some (length h.defined_in)) × (take (length h.defined_in) text ≡ h.defined_in) × (drop (length h.defined_in + 1) text ≡ h.identity)
cut text h =
    let m = h.defined_in in
    let place = colon_place h.defined_in h.identity (all_continue h.defined_in h.has_module) in
    let long = ap length h.spelling ∙ length-append h.defined_in (58 ∷ h.identity) in
    let at : position is_colon (h.defined_in ++ 58 ∷ h.identity) ≡ Some (length h.defined_in) = position_is (h.defined_in ++ 58 ∷ h.identity) (length h.defined_in) place (omega (arith, length-append h.defined_in (58 ∷ h.identity))) in (
      rw h.spelling at,
      rw h.spelling (take-append_seam h.defined_in (58 ∷ h.identity)),
      rw h.spelling (drop-append-add h.defined_in (58 ∷ h.identity) 1),
    )

pub at_colon : (text : List ℕ) (i : ℕ) → position is_colon text ≡ Some i → IsTypeName text → (is_identifier (take i text) ≡ true) × (is_identifier (drop (i + 1) text) ≡ true)
at_colon text i at h =
    let there = cut text h in
    let first = there.0 in
    let same : i ≡ length h.defined_in = cc in
    (rw (same, there.1) h.has_module, rw (same, there.2) h.has_identity)

pub no_place : (text : List ℕ) → position is_colon text ≡ None → IsTypeName text → ⊥
no_place text none h = let some = (cut text h).0 in cc

-- names are of ASCII
continues_ascii : (byte : ℕ) → continues_identifier byte ≡ true → byte < 128
continues_ascii byte h = grind (arith, nat_tests)

ascii : (name rest : List ℕ) → list_all continues_identifier name ≡ true → ((i : ℕ) → slice_index rest i < 128) → (i : ℕ) → slice_index (name ++ rest) i < 128
ascii [] rest h later i = later i
ascii (x ∷ name) rest h later zero = continues_ascii x (and_left (continues_identifier x) (list_all continues_identifier name) h)
ascii (x ∷ name) rest h later (suc i) = ascii name rest (and_right (continues_identifier x) (list_all continues_identifier name) h) later i

colon_first : (rest : List ℕ) → ((i : ℕ) → slice_index rest i < 128) → (i : ℕ) → slice_index (58 ∷ rest) i < 128
colon_first rest later zero = omega arith
colon_first rest later (suc i) = later i

none_left : (i : ℕ) → slice_index [] i < 128
none_left i = omega arith

pub name_is_utf8 : (text : List ℕ) → IsTypeName text → IsUtf8 text
name_is_utf8 text h =
    let identity : (i : ℕ) → slice_index h.identity i < 128 = rw (← append-nil h.identity) (ascii h.identity [] (all_continue h.identity h.has_identity) none_left) in
    rw h.spelling (IsUtf8-from_ascii (h.defined_in ++ 58 ∷ h.identity) (ascii h.defined_in (58 ∷ h.identity) (all_continue h.defined_in h.has_module) (colon_first h.identity identity)))
