-- Where a byte is first, as a search answers it.
use Rattle.std.proofs.Common.{◌≡◌, ◌≢◌, ℕ, ◌+◌, ◌<◌, ◌≤◌, Bool, true, false, ◌==◌, List, [], ◌∷◌, ◌++◌, length, take, drop, get_or, Option, None, Some, refl, sym, ◌∙◌, ap, arith}
use Rattle.std.specs.List.{position, position_or_len, All}
use Rattle.std.proofs.lemmas.Bool.Decides.{nat_tests}
use Rattle.std.proofs.lemmas.List.{append_assoc, get_or-take, get_or-drop, get_or_default, length-take, length-drop, take_more}
use Rattle.std.proofs.lemmas.List.Quantifiers.{position-Some}
use Rattle.std.proofs.lemmas.List.Sums.{position_or_len_is, fails_before_first}
use Rattle.std.proofs.lemmas.Slice.{between_to_end}
use Rattle.std.specs.Prelude.{slice_range}
use Rattle.al_http.proofs.StreamLemmas.{front_part, take_to}
use Rattle.memchr.specs.Find.{is_byte, IsFirstByte}

-- a test that isn't true is false
not_true : (b : Bool) → (b ≡ true → ⊥) → b ≡ false
not_true true fails = absurd (fails refl)
not_true false fails = refl

-- what a search over bytes answers is the position in the words of lists
pub first_is_position : (byte : ℕ) (bytes : List ℕ) (result : Option ℕ) → IsFirstByte (is_byte byte) bytes result → result ≡ position (λ b. b == byte) bytes
first_is_position byte bytes None none =
    let at : position_or_len (λ b. b == byte) bytes ≡ length bytes =
    position_or_len_is (λ b. b == byte) bytes (length bytes) 0 (omega arith) (λ k low. not_true _ (none k (omega arith) low)) (λ past. absurd (omega arith)) in
    rw at (grind (arith, nat_tests))
first_is_position byte bytes (Some k) (before, here) =
    let within : k < length bytes = before.high in
    let at : position_or_len (λ b. b == byte) bytes ≡ k =
    position_or_len_is (λ b. b == byte) bytes k 0 (omega arith) (λ i low. not_true _ (before.before i (omega arith) low)) (λ _. here) in
    rw at (grind (arith, nat_tests))

-- the bytes before the first one that passes don't
pub none_before : (byte : ℕ) (bytes : List ℕ) (len : ℕ) → position (λ b. b == byte) bytes ≡ Some len → All (λ b. b ≢ byte) (take len bytes)
none_before byte bytes len found k d low =
    let at = position-Some (λ b. b == byte) bytes len 0 found in
    let size = length-take len bytes in
    let before : k < len = omega arith in
    let fails = at.2 k before in
    let same : get_or (take len bytes) k d ≡ get_or bytes k 0 = get_or-take len bytes k d before ∙ get_or_default bytes k d 0 (omega arith) in
    rw same (λ is. cc (fails, ap (λ x. x == byte) is, yes byte))
  where
    yes : (x : ℕ) → (x == x) ≡ true
    yes x = grind (arith, nat_tests)

-- where none passes, no byte does
pub none_at_all : (byte : ℕ) (bytes : List ℕ) → position (λ b. b == byte) bytes ≡ None → All (λ b. b ≢ byte) bytes
none_at_all byte bytes none k d low =
    let whole : length bytes ≤ position_or_len (λ b. b == byte) bytes = grind (arith, nat_tests) in
    let fails = fails_before_first (λ b. b == byte) bytes k d (omega arith) in
    λ is. cc (fails, ap (λ x. x == byte) is, yes byte)
  where
    yes : (x : ℕ) → (x == x) ≡ true
    yes x = grind (arith, nat_tests)

-- the byte that was found
pub found_there : (byte : ℕ) (bytes : List ℕ) (len : ℕ) → position (λ b. b == byte) bytes ≡ Some len → (len < length bytes) × (get_or bytes len 0 ≡ byte)
found_there byte bytes len found =
    let at = position-Some (λ b. b == byte) bytes len 0 found in
    (at.0, let passes = at.1 in grind (arith, nat_tests))

-- the part up to the byte that was found behind an index
pub part_before : (byte : ℕ) (bytes : List ℕ) (at len : ℕ) → position (λ b. b == byte) (slice_range bytes at (length bytes)) ≡ Some len → All (λ b. b ≢ byte) (slice_range bytes at (at + len))
part_before byte bytes at len found =
    let here = found_there byte (slice_range bytes at (length bytes)) len found in
    rw (front_part bytes at (length bytes) len (omega (arith, here.0))) (none_before byte (slice_range bytes at (length bytes)) len found)

-- the byte that was found behind an index lies in the bytes, and ends this front of them
pub found_at : (byte : ℕ) (bytes : List ℕ) (at len : ℕ) → at ≤ length bytes → position (λ b. b == byte) (slice_range bytes at (length bytes)) ≡ Some len
    → (at + len < length bytes) × ((front : List ℕ) → ((front ++ take at bytes) ++ slice_range bytes at (at + len)) ++ byte ∷ [] ≡ front ++ take (at + len + 1) bytes)
found_at byte bytes at len low found =
    let all : slice_range bytes at (length bytes) ≡ drop at bytes = between_to_end bytes at (length bytes) (omega arith) in
    let here = found_there byte (drop at bytes) len (rw all at found) in
    let within : at + len < length bytes = omega (arith, here.0, length-drop at bytes) in
    let is : get_or bytes (at + len) 0 ≡ byte = sym (get_or-drop at bytes len 0) ∙ here.1 in
    let end : take at bytes ++ slice_range bytes at (at + len) ≡ take (at + len) bytes = take_to bytes at (at + len) (omega arith) in
    let more : take (at + len + 1) bytes ≡ take (at + len) bytes ++ byte ∷ [] = rw is at (take_more bytes (at + len) 0 within) in (
      within,
      λ front.
          append_assoc (front ++ take at bytes) _ _ ∙ append_assoc front (take at bytes) _
          ∙ ap (λ t. front ++ t) (sym (append_assoc (take at bytes) _ _) ∙ ap (λ t. t ++ byte ∷ []) end ∙ sym more),
    )

-- a search that found nothing
pub no_part : (found position : Option ℕ) → found ≡ position → ((k : ℕ) → found ≡ Some k → ⊥) → position ≡ None
no_part None position same other = sym same
no_part (Some k) position same other = absurd (other k refl)
