-- Sets of small numbers.
use Rattle.std.proofs.Common.{◌≡◌, ◌≢◌, ◌<◌, ◌≤◌, ◌+◌, ◌*◌, ◌/◌, ◌%◌, ◌^◌, ℕ, Bool, true, false, not, ◌&&◌, ◌||◌, ◌==◌, inl, inr, nat_le, List, length, get_or, set, bit_or, refl, ap, sym, ◌∙◌, arith, get_or-set_same, get_or-set_other}
use Rattle.std.specs.Int.{bit_at, w64}
use Rattle.std.proofs.lemmas.Nat.Bits.{bit_at_set_same, bit_at_set_other, bit_at-zero}
use Rattle.std.proofs.lemmas.Bool.Decides.{eqb_tells, nat_tests}
use Rattle.al_pattern.specs.Sets.{is_in}

same_place : (n k : ℕ) → n / 64 ≡ k / 64 → n % 64 ≡ k % 64 → n ≡ k
same_place n k d m = omega arith

-- the word of another place stays
other_word : (words : List ℕ) (n k v : ℕ) → k / 64 ≢ n / 64 → is_in (set words (n / 64) v) k ≡ is_in words k
unfolding is_in
other_word words n k v ne = let h : k / 64 ≢ n / 64 = ne in ap (λ (w : ℕ). bit_at w (k % 64) == 1) (rw get_or-set_other refl)

same_word : (words : List ℕ) (n k v : ℕ) → n < 64 * length words → k / 64 ≡ n / 64 → is_in (set words (n / 64) v) k ≡ (bit_at v (k % 64) == 1)
unfolding is_in
same_word words n k v within e =
    let inside : n / 64 < length words = omega arith in
    ap (λ (w : ℕ). bit_at w (k % 64) == 1) (rw e (rw get_or-set_same refl))

pub is_in-insert : (words : List ℕ) (n k : ℕ) → n < 64 * length words
    → is_in (set words (n / 64) (bit_or (get_or words (n / 64) 0) (1 * 2 ^ (n % 64) % 18446744073709551616))) k ≡ (k == n || is_in words k)
unfolding is_in
is_in-insert words n k within =
    let v = bit_or (get_or words (n / 64) 0) (1 * 2 ^ (n % 64) % 18446744073709551616) in
    let low : n % 64 < 64 = omega arith in
    elim (eqb_tells k n) [
      | inl h ↦ let e : k ≡ n = h.1 in
          let here : bit_at v (k % 64) ≡ 1 = rw e (bit_at_set_same w64 (get_or words (n / 64) 0) (n % 64) low) in
          rw (h.0) (same_word words n k v within (ap (λ x. x / 64) e) ∙ ap (λ (b : ℕ). b == 1) here)
      | inr h ↦ rw (h.0) (elim (eqb_tells (k / 64) (n / 64)) [
        | inl d ↦
            let ne : k % 64 ≢ n % 64 = λ m. h.1 (same_place k n d.1 m) in
            same_word words n k v within d.1
            ∙ ap (λ (b : ℕ). b == 1) (bit_at_set_other w64 (get_or words (n / 64) 0) (n % 64) low (k % 64) ne)
            ∙ ap (λ (i : ℕ). bit_at (get_or words i 0) (k % 64) == 1) (sym d.1)
        | inr d ↦ other_word words n k v d.1
      ])
    ]

pub is_in-range_end : (first last n k : ℕ) (before : Bool) → last + 1 ≤ n → (first ≤ last + 1 → n ≤ last + 1) → (last + 1 < first → n ≡ first)
    → (nat_le first k && not (nat_le n k) || before) ≡ (nat_le first k && nat_le k last || before)
is_in-range_end first last n k true a b c = grind (arith, nat_tests)
is_in-range_end first last n k false a b c = grind (arith, nat_tests)

pub is_in-none : (words : List ℕ) (n : ℕ) → get_or words (n / 64) 0 ≡ 0 → is_in words n ≡ false
unfolding is_in
is_in-none words n e = rw (e, bit_at-zero) refl
