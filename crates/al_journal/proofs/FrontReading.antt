-- What the first 14 bytes say.
use Rattle.std.proofs.Common.{◌≡◌, ◌⊎◌, inl, inr, ℕ, ◌<◌, ◌≤◌, ◌^◌, true, false, List, [], ◌∷◌, ◌++◌, length, take, drop, get_or, Option, None, Some, refl, sym, ◌∙◌, ap, arith, append_assoc, length-append, take-append-drop}
use Rattle.std.specs.Int.{from_be_bytes, w64}
use Rattle.std.specs.Option.{is_some}
use Rattle.std.proofs.lemmas.Bool.{false≢true}
use Rattle.std.proofs.lemmas.List.{drop_more, length-take, take-take, take_at}
use Rattle.std.proofs.lemmas.Nat.{from_be_bytes-to_be_bytes_8}
use Rattle.al_journal.specs.Births.{IsBirthOf, StartsShut}
use Rattle.al_journal.specs.Format.{IsCapacity, birth, in_eight}
use Rattle.al_journal.specs.Images.{HasBirth, IsNoJournal}
use Rattle.al_journal.proofs.Pieces.{length-birth}

number_behind : (capacity : ℕ) (rest : List ℕ) → capacity < 2 ^ 64 → from_be_bytes w64 (drop 5 (birth capacity ++ rest)) ≡ capacity
unfolding in_eight
number_behind capacity rest small = from_be_bytes-to_be_bytes_8 capacity small

module _ (front content : List ℕ) (is : front ≡ take 14 content) where
  -- a birth shows in them
  module _ (capacity : ℕ) (has : HasBirth capacity content) where
    size : length (birth capacity ++ has.gate ∷ []) ≡ 14
    size = omega (arith, length-append (birth capacity) (has.gate ∷ []), length-birth capacity)

    all : front ≡ birth capacity ++ has.gate ∷ []
    all =
        is
        ∙ ap (λ (l : List ℕ). take 14 l) (has.is ∙ sym (append_assoc (birth capacity) (has.gate ∷ []) has.rest))
        ∙ take_at (birth capacity ++ has.gate ∷ []) has.rest 14 size

    pub is_long : 14 ≤ length front
    is_long = omega (arith, ap (λ (l : List ℕ). length l) all, size)

    pub same_birth : take 13 front ≡ birth capacity
    same_birth = ap (λ (l : List ℕ). take 13 l) all ∙ take_at (birth capacity) (has.gate ∷ []) 13 (length-birth capacity)

    pub same_number : from_be_bytes w64 (drop 5 front) ≡ capacity
    same_number = ap (λ (l : List ℕ). from_be_bytes w64 (drop 5 l)) all ∙ number_behind capacity (has.gate ∷ []) (omega (arith, has.allowed))

  -- and what shows in them is there
  pub has_birth : (capacity : ℕ) → 14 ≤ length front → take 13 front ≡ birth capacity → IsCapacity capacity → HasBirth capacity content
  has_birth capacity long same allowed =
      let there : 13 < length content = omega (arith, ap (λ (l : List ℕ). length l) is, length-take 14 content) in
      record {
        gate = get_or content 13 0;
        rest = drop 14 content;
        is = sym (take-append-drop 13 content)
            ∙ ap (λ (l : List ℕ). l ++ drop 13 content) (sym (take-take 13 14 content (omega arith)) ∙ ap (λ (l : List ℕ). take 13 l) (sym is) ∙ same)
            ∙ ap (λ (l : List ℕ). birth capacity ++ l) (drop_more content 13 0 there);
        allowed = allowed;
      }

pub some_birth : (image : List ℕ) (read : Option ℕ) → IsBirthOf image read → is_some read ≡ true → (capacity : ℕ) × HasBirth capacity image
some_birth image None is some = absurd (false≢true some)
some_birth image (Some capacity) is some = (capacity, is)

pub no_birth : (image : List ℕ) (read : Option ℕ) → IsBirthOf image read → is_some read ≡ false → IsNoJournal image
no_birth image None is none = is
no_birth image (Some capacity) is none = absurd (false≢true (sym none))

pub open_front : (front content : List ℕ) → front ≡ take 14 content → (rest : List ℕ) → front ≡ 1 ∷ rest → (behind : List ℕ) × (content ≡ 1 ∷ behind)
open_front front [] is rest begins = absurd (cc)
open_front front (first ∷ behind) is rest begins = let same : first ≡ 1 = cc in (behind, ap (λ (b : ℕ). b ∷ behind) same)

pub shut_front : (front content : List ℕ) → front ≡ take 14 content → (length content ≡ 0 → ⊥) → (front ≡ []) ⊎ StartsShut front → StartsShut content
shut_front front [] is some shut = absurd (some refl)
shut_front front (first ∷ behind) is some (inl empty) = absurd (cc)
shut_front front (first ∷ behind) is some (inr starts) =
    let e = starts.is in
    let same : first ≡ starts.first = cc in
    record { first = first; rest = behind; is = refl; shut = λ one. starts.shut (sym same ∙ one) }
