-- The stream of a framer: the bytes held, and then those left, where they are told.
use Rattle.std.proofs.Common.{◌≡◌, ℕ, ◌+◌, ◌-◌, ◌≤◌, List, ◌++◌, length, take, drop, Option, None, Some, refl, sym, ◌∙◌, ap, append_assoc, arith}
use Rattle.std.specs.Prelude.{IfSome, slice_range}
use Rattle.std.specs.Io.KnownBytes.{Keeps, Consumes}
use Rattle.std.proofs.lemmas.List.{take-append-drop, take-take, append-nil, drop-drop, drop-take, length-take, length-drop}
use Rattle.std.proofs.lemmas.Slice.{between_is, between_from_start}
use Rattle.al_base.specs.Outside.{TellsEnd}
use Rattle.al_http.specs.Moves.{stream_of, IsAll, TakesRequest}
use Rattle.al_http.specs.Requests.{RequestMessage, FirstRequest}

pub keeps_same : (old : Option (List ℕ)) → Keeps old old
keeps_same None = tt
keeps_same (Some bytes) = refl

pub keeps_both : (old mid new : Option (List ℕ)) → Keeps old mid → Keeps mid new → Keeps old new
keeps_both None mid new a b = tt
keeps_both (Some bytes) None new a b = absurd a
keeps_both (Some bytes) (Some more) None a b = absurd b
keeps_both (Some bytes) (Some more) (Some rest) a b = b ∙ a

-- what holds of the bytes held with all that may follow holds of the stream
pub stream_all : (P : List ℕ → Type 0) (held : List ℕ) (left : Option (List ℕ)) → ((more : List ℕ) → P (held ++ more)) → IfSome (stream_of held left) P
stream_all P held None all = tt
stream_all P held (Some more) all = all more

-- a stream that is kept has what it had
pub kept_has : (P : List ℕ → Type 0) (old new : Option (List ℕ)) → Keeps old new → IfSome new P → IfSome old P
kept_has P None new keeps has = tt
kept_has P (Some bytes) None keeps has = absurd keeps
kept_has P (Some bytes) (Some same) keeps has = rw keeps at has

-- what a read gives goes from the source to the bytes held
pub read_on : (held piece : List ℕ) (old new : Option (List ℕ)) → Consumes old new piece → Keeps (stream_of held old) (stream_of (held ++ piece) new)
read_on held piece None new gave = tt
read_on held piece (Some left) None gave = absurd gave
read_on held piece (Some left) (Some rest) gave = append_assoc held piece rest ∙ ap (λ t. held ++ t) (sym gave)

pub same_left : (held : List ℕ) (old new : Option (List ℕ)) → Keeps old new → Keeps (stream_of held old) (stream_of held new)
same_left held None new keeps = tt
same_left held (Some left) None keeps = absurd keeps
same_left held (Some left) (Some same) keeps = ap (λ t. held ++ t) keeps

-- a front of a list, in two parts
pub take_parts : (n k : ℕ) (xs : List ℕ) → take n xs ++ take k (drop n xs) ≡ take (n + k) xs
take_parts n k xs =
    let le : n ≤ n + k = omega arith in
    ap (λ t. t ++ take k (drop n xs)) (sym (take-take n (n + k) xs le)) ∙ ap (λ t. take n (take (n + k) xs) ++ t) (sym (drop-take n k xs)) ∙ take-append-drop n (take (n + k) xs)

-- the part behind n of a part
pub drop_part : (xs : List ℕ) (start end n : ℕ) → slice_range xs (start + n) end ≡ drop n (slice_range xs start end)
drop_part xs start end n = between_is xs (start + n) end ∙ sym (drop-drop n start (take end xs)) ∙ ap (drop n) (sym (between_is xs start end))

-- the same, of a part whose beginning has another name
pub drop_to : (xs : List ℕ) (start new end n : ℕ) → new ≡ start + n → slice_range xs new end ≡ drop n (slice_range xs start end)
drop_to xs start new end n at = rw at (drop_part xs start end n)

-- what is held after a read behind the bytes that were
pub grown : (bytes new : List ℕ) (filled count : ℕ) → take filled new ≡ take filled bytes
    → slice_range new 0 (filled + count) ≡ slice_range bytes 0 filled ++ slice_range new filled (filled + count)
grown bytes new filled count kept =
    let size : filled + count - filled ≡ count = omega arith in
    between_from_start new (filled + count)
    ∙ sym (take_parts filled count new)
    ∙ ap (λ t. t ++ take count (drop filled new)) (kept ∙ sym (between_from_start bytes filled))
    ∙ ap (λ n. slice_range bytes 0 filled ++ take n (drop filled new)) (sym size)

-- the same, of a buffer whose bytes begin with those held
pub held_grown : (items new bytes held : List ℕ) (start filled count : ℕ) → items ≡ new → start ≡ 0 → take filled new ≡ take filled bytes
    → slice_range bytes start filled ≡ held → slice_range items start (filled + count) ≡ held ++ slice_range new filled (filled + count)
held_grown items new bytes held start filled count same front kept was =
    rw (same, front) (grown bytes new filled count kept ∙ ap (λ t. t ++ slice_range new filled (filled + count)) (rw front at was))

pub held_same : (items new bytes held : List ℕ) (start filled : ℕ) → items ≡ new → start ≡ 0 → take filled new ≡ take filled bytes
    → slice_range bytes start filled ≡ held → slice_range items start filled ≡ held
held_same items new bytes held start filled same front kept was =
    rw (same, front) (between_from_start new filled ∙ kept ∙ sym (between_from_start bytes filled) ∙ rw front at was)

-- a read that gave nothing was at the end: the bytes held are all of the stream
pub at_end : (held : List ℕ) (left : Option (List ℕ)) (count : ℕ) → count ≡ 0 → TellsEnd left count → IsAll held (stream_of held left)
at_end held None count none tells = tt
at_end held (Some left) count none tells = rw (tells.0 none) (append-nil held)

-- what holds of the bytes held holds of the stream that they are all of
pub all_has : (P : List ℕ → Type 0) (held : List ℕ) (stream : Option (List ℕ)) → IsAll held stream → P held → IfSome stream P
all_has P held None all has = tt
all_has P held (Some bytes) all has = rw all has

-- the first n bytes of a part
pub front_part : (xs : List ℕ) (start end n : ℕ) → n ≤ length (slice_range xs start end) → slice_range xs start (start + n) ≡ take n (slice_range xs start end)
front_part xs start end n within =
    let size : start + n - start ≡ n = omega arith in
    let fits : n ≤ end - start = omega (arith, length-take (end - start) (drop start xs)) in
    ap (λ k. take k (drop start xs)) size ∙ sym (take-take n (end - start) (drop start xs) fits)

-- the m bytes behind the first n of a part
pub mid_part : (xs : List ℕ) (start end n m : ℕ) → n + m ≤ length (slice_range xs start end) → slice_range xs (start + n) (start + n + m) ≡ take m (drop n (slice_range xs start end))
mid_part xs start end n m within =
    let behind = drop_part xs start end n in
    let size = ap length behind ∙ length-drop n (slice_range xs start end) in
    let fits : m ≤ length (slice_range xs (start + n) end) = omega (arith, size) in
    front_part xs (start + n) end m fits ∙ ap (take m) behind

-- a front, and the bytes from there to an end
pub take_to : (xs : List ℕ) (n end : ℕ) → n ≤ end → take n xs ++ slice_range xs n end ≡ take end xs
take_to xs n end le =
    let all : n + (end - n) ≡ end = omega arith in
    take_parts n (end - n) xs ∙ ap (λ k. take k xs) all

-- a front, and some of the bytes from there to an end
pub take_on : (xs : List ℕ) (n end k : ℕ) → k ≤ length (slice_range xs n end) → take n xs ++ take k (slice_range xs n end) ≡ take (n + k) xs
take_on xs n end k within =
    let fits : k ≤ end - n = omega (arith, length-take (end - n) (drop n xs)) in
    ap (λ t. take n xs ++ t) (take-take k (end - n) (drop n xs) fits) ∙ take_parts n k xs

-- a front of the bytes held stays when more are read
pub front_kept : (old new : List ℕ) (n : ℕ) → n ≤ length old → take (length old) new ≡ old → take n new ≡ take n old
front_kept old new n le kept = sym (take-take n (length old) new le) ∙ ap (take n) kept

-- the request at the front leaves a stream that was kept
pub takes_kept : (old : Option (List ℕ)) (held after : List ℕ) (left : Option (List ℕ)) (request : RequestMessage) → Keeps old (stream_of held left)
    → ((rest : List ℕ) → FirstRequest (held ++ rest) request (after ++ rest)) → TakesRequest old (stream_of after left) request
takes_kept None held after left request keeps first = tt
takes_kept (Some bytes) held after None request keeps first = absurd keeps
takes_kept (Some bytes) held after (Some rest) request keeps first = rw keeps at (first rest)
