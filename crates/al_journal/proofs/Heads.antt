-- What the bytes at a gate say.
use Rattle.std.proofs.Common.{◌≡◌, ◌≢◌, inl, inr, ⊎_elim, ℕ, ◌+◌, ◌<◌, ◌≤◌, ◌^◌, Bool, true, false, nat_eq, Some, List, [], ◌∷◌, ◌++◌, length, take, drop, get_or, refl, sym, ◌∙◌, ap, subst, arith, append_assoc, length-append, length-drop, take-append-drop}
use Rattle.std.specs.List.{slice_get}
use Rattle.std.specs.Int.{from_be_bytes, w32}
use Rattle.std.proofs.lemmas.Bool.{cases_lt, eq-eqb, eqb-true, false≢true}
use Rattle.std.proofs.lemmas.List.{drop-drop, drop_at, drop_more, get_or-drop, get_or-take, get_or_past, length-take, length-take-le, take-take, take_all, take_at}
use Rattle.std.proofs.lemmas.Nat.{be_bytes_4, from_be_bytes-to_be_bytes_4}
use Rattle.al_journal.specs.Format.{framed, in_four}
use Rattle.al_journal.specs.Images.{HoldsNone}
use Rattle.al_journal.specs.Walks.{IsCut, IsPayload}
use Rattle.al_journal.proofs.Pieces.{length-framed, length-in_four}

-- a number in four bytes is that number
pub in_four_once : (m n : ℕ) → m < 2 ^ 32 → n < 2 ^ 32 → in_four m ≡ in_four n → m ≡ n
unfolding in_four
in_four_once m n small small' same = sym (from_be_bytes-to_be_bytes_4 m small) ∙ ap (λ (l : List ℕ). from_be_bytes w32 l) same ∙ from_be_bytes-to_be_bytes_4 n small'

pub in_front_once : (m n : ℕ) (rest more : List ℕ) → m < 2 ^ 32 → n < 2 ^ 32 → in_four m ++ rest ≡ in_four n ++ more → m ≡ n
in_front_once m n rest more small small' same =
    in_four_once m n small small' (sym (take_at (in_four m) rest 4 (length-in_four m)) ∙ ap (λ (l : List ℕ). take 4 l) same ∙ take_at (in_four n) more 4 (length-in_four n))

bounded : (xs : List ℕ) → ((i : ℕ) → get_or xs i 0 < 256) → (n m i : ℕ) → get_or (take n (drop m xs)) i 0 < 256
bounded xs small n m i = ⊎_elim (λ below. rw (get_or-take n (drop m xs) i 0 below, get_or-drop m xs i 0) (small (m + i)))
    (λ past. rw (get_or_past (take n (drop m xs)) i 0 (omega (arith, length-take n (drop m xs), past))) (omega arith)) (cases_lt i n)

pub four_bytes : (front : List ℕ) (n : ℕ) → 5 ≤ length front → ((i : ℕ) → get_or front i 0 < 256) → n ≡ from_be_bytes w32 (drop 1 front) → in_four n ≡ take 4 (drop 1 front)
unfolding in_four
four_bytes front n long small is = be_bytes_4 (take 4 (drop 1 front)) n (length-take-le 4 (drop 1 front) (omega (arith, length-drop 1 front))) (bounded front small 4 1)
    (let e0 = get_or-take 4 (drop 1 front) 0 0 (omega arith) in
    let e1 = get_or-take 4 (drop 1 front) 1 0 (omega arith) in
    let e2 = get_or-take 4 (drop 1 front) 2 0 (omega arith) in
    let e3 = get_or-take 4 (drop 1 front) 3 0 (omega arith) in
    cc)

pub first_byte : (front : List ℕ) (byte : ℕ) → Some byte ≡ slice_get front 0 → (0 < length front) × (get_or front 0 0 ≡ byte)
first_byte [] byte is = absurd (cc)
first_byte (first ∷ front) byte is = (omega arith, let e = is in cc)

-- an open gate stands in front
pub begins_open : (front tail : List ℕ) → front ≡ take 5 tail → 0 < length front → get_or front 0 0 ≡ 1 → (rest : List ℕ) × (tail ≡ 1 ∷ rest) × (front ≡ 1 ∷ take 4 rest)
begins_open front [] is some one = absurd (omega (arith, some, ap (λ (l : List ℕ). length l) is))
begins_open front (byte ∷ rest) is some one =
    let same : byte ≡ 1 = sym (ap (λ (l : List ℕ). get_or l 0 0) is) ∙ one in
    (rest, ap (λ (b : ℕ). b ∷ rest) same, is ∙ ap (λ (b : ℕ). b ∷ take 4 rest) same)

module _ (room : ℕ) (small : room ≤ 268435456) (rest : List ℕ) where
  -- fewer than four bytes stand behind it
  short_none : length rest < 4 → HoldsNone room rest
  short_none short = λ payload next more is fits. absurd (omega (arith, short, ap (λ (l : List ℕ). length l) is, length-append (framed payload) (next ∷ more), length-framed payload))

  same_length : (n : ℕ) → n < 2 ^ 32 → (behind : List ℕ) → rest ≡ in_four n ++ behind → (payload : List ℕ) (next : ℕ) (more : List ℕ) → rest ≡ framed payload ++ next ∷ more → 6 + length payload ≤ room → n ≡ length payload
  same_length n few behind is payload next more frame fits =
      in_front_once n (length payload) behind (payload ++ next ∷ more) few (omega (arith, fits, small)) (sym is ∙ frame ∙ append_assoc (in_four (length payload)) payload (next ∷ more))

  -- the length says more than there is room for
  long_none : (n : ℕ) → n < 2 ^ 32 → (behind : List ℕ) → rest ≡ in_four n ++ behind → room < n + 6 → HoldsNone room rest
  long_none n few behind is long = λ payload next more frame fits. absurd (omega (arith, long, fits, same_length n few behind is payload next more frame fits))

  -- the length says more than there is
  past_none : (n : ℕ) → n < 2 ^ 32 → (behind : List ℕ) → rest ≡ in_four n ++ behind → length behind ≤ n → HoldsNone room rest
  past_none n few behind is short = λ payload next more frame fits.
      absurd (omega (
        arith,
        short,
        same_length n few behind is payload next more frame fits,
        ap (λ (l : List ℕ). length l) (sym is ∙ frame),
        length-append (in_four n) behind,
        length-in_four n,
        length-append (framed payload) (next ∷ more),
        length-framed payload,
      ))

pub cut_here : (room : ℕ) (tail rest : List ℕ) → tail ≡ 1 ∷ rest → HoldsNone room rest → IsCut room tail
cut_here room tail rest is none = record {
  unshut = inr (rest, is);
  none = λ other same. let equal : rest ≡ other = cc in subst (HoldsNone room) equal none;
}

pub cut_empty : (room : ℕ) (tail : List ℕ) → tail ≡ [] → IsCut room tail
cut_empty room tail is = record { unshut = inl is; none = λ rest same. absurd (cc) }

module _ (room : ℕ) (small : room ≤ 268435456) (front tail : List ℕ) (is : front ≡ take 5 tail) (some : 0 < length front) (one : get_or front 0 0 ≡ 1) where
  abbrev begun : (rest : List ℕ) × (tail ≡ 1 ∷ rest) × (front ≡ 1 ∷ take 4 rest)
  begun = begins_open front tail is some one

  abbrev rest : List ℕ
  rest = begun.0

  pub short_cut : length front < 5 → IsCut room tail
  short_cut short =
      let few : length rest < 4 = omega (arith, ap (λ (l : List ℕ). length l) begun.2, length-take 4 rest, short) in
      cut_here room tail rest begun.1 (short_none room small rest few)

  in_rest : (n : ℕ) → in_four n ≡ take 4 (drop 1 front) → rest ≡ in_four n ++ drop 4 rest
  in_rest n same =
      let front_of_rest : in_four n ≡ take 4 rest = same ∙ ap (λ (l : List ℕ). take 4 (drop 1 l)) begun.2 ∙ take-take 4 4 rest (omega arith) in
      sym (take-append-drop 4 rest) ∙ ap (λ (l : List ℕ). l ++ drop 4 rest) (sym front_of_rest)

  pub long_cut : (n : ℕ) → in_four n ≡ take 4 (drop 1 front) → n < 2 ^ 32 → room < n + 6 → IsCut room tail
  long_cut n same few long = cut_here room tail rest begun.1 (long_none room small rest n few (drop 4 rest) (in_rest n same) long)

  pub whole_head : (n : ℕ) → in_four n ≡ take 4 (drop 1 front) → (behind : List ℕ) × (tail ≡ 1 ∷ (in_four n ++ behind))
  whole_head n same = (drop 4 rest, begun.1 ∙ ap (λ (l : List ℕ). 1 ∷ l) (in_rest n same))

-- so many bytes and one more were read, or fewer
pub payload_read : (whole : Bool) (count len : ℕ) (buf tail : List ℕ) → whole ≡ nat_eq count (len + 1) → length buf ≡ len + 1 → count ≤ len + 1
    → take count buf ≡ take (len + 1) tail → IsPayload whole len tail (take len buf)
payload_read true count len buf tail tested size within is =
    let all : count ≡ len + 1 = eqb-true count (len + 1) (sym tested) in
    let same : buf ≡ take (len + 1) tail = sym (take_all count buf (omega arith)) ∙ is in
    let long : len < length tail = omega (arith, size, ap (λ (l : List ℕ). length l) same, length-take (len + 1) tail) in
    let front : take len buf ≡ take len tail = ap (λ (l : List ℕ). take len l) same ∙ take-take len (len + 1) tail (omega arith) in
    ((get_or tail len 0, drop (len + 1) tail, sym (take-append-drop len tail) ∙ ap (λ (l : List ℕ). l ++ drop len tail) (sym front) ∙ ap (λ (l : List ℕ). take len buf ++ l) (drop_more tail len 0 long)), length-take-le len buf (omega arith))
payload_read false count len buf tail tested size within is =
    let fewer : count ≢ len + 1 = λ all. false≢true (tested ∙ eq-eqb count (len + 1) all) in
    omega (arith, fewer, length-take-le count buf (omega arith), ap (λ (l : List ℕ). length l) is, length-take (len + 1) tail)

-- what stands behind the length
pub behind_length : (place len : ℕ) (content rest : List ℕ) → drop place content ≡ 1 ∷ (in_four len ++ rest) → drop (place + 5) content ≡ rest
behind_length place len content rest is = sym (drop-drop 5 place content) ∙ ap (λ (l : List ℕ). drop 5 l) is ∙ drop_at (in_four len) rest 4 (length-in_four len)

-- a frame whose payload was read
pub whole_frame : (len : ℕ) (tail behind payload : List ℕ) → tail ≡ 1 ∷ (in_four len ++ behind) → IsPayload true len behind payload → (next : ℕ) × (more : List ℕ) × (tail ≡ 1 ∷ (framed payload ++ next ∷ more))
whole_frame len tail behind payload is read = (
  read.0.0,
  read.0.1,
  is
      ∙ ap (λ (l : List ℕ). 1 ∷ (in_four len ++ l)) read.0.2
      ∙ ap (λ (n : ℕ). 1 ∷ (in_four n ++ (payload ++ read.0.0 ∷ read.0.1))) (sym read.1)
      ∙ ap (λ (l : List ℕ). 1 ∷ l) (sym (append_assoc (in_four (length payload)) payload (read.0.0 ∷ read.0.1))),
)

-- a frame of which too little is there
pub cut_frame : (room len : ℕ) → room ≤ 268435456 → 6 + len ≤ room → (tail behind payload : List ℕ) → tail ≡ 1 ∷ (in_four len ++ behind) → IsPayload false len behind payload → IsCut room tail
cut_frame room len small fits tail behind payload is short =
    cut_here room tail (in_four len ++ behind) is (past_none room small (in_four len ++ behind) len (omega (arith, small, fits)) behind refl short)
