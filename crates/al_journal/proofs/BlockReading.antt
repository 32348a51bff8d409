-- What is read through one block.
use Rattle.std.proofs.Common.{◌≡◌, false, ℕ, zero, suc, zero-add, ◌+◌, ◌-◌, ◌%◌, ◌<◌, ◌≤◌, List, [], ◌∷◌, ◌++◌, length, take, drop, refl, sym, ◌∙◌, ap, arith, length-drop}
use Rattle.std.proofs.lemmas.List.{drop-drop, drop-take, drop_at, length-take, length-take-le, take-append-le, take_all, take_at}
use Rattle.std.proofs.lemmas.Bool.{false≢true}
use Rattle.al_journal.specs.Blocks.{BlockView, Holds}

-- a place lies so many bytes behind the place at which its block begins
pub in_block : (place : ℕ) (held content : List ℕ) → held ≡ take 4096 (drop (place - place % 4096) content) → drop (place % 4096) held ≡ take (4096 - place % 4096) (drop place content)
in_block place held content is =
    let r = place % 4096 in
    let start = place - place % 4096 in
    let all : 4096 ≡ r + (4096 - r) = omega arith in
    let whole : start + r ≡ place = omega arith in
    ap (λ (l : List ℕ). drop r l) is
    ∙ ap (λ (n : ℕ). drop r (take n (drop start content))) all
    ∙ drop-take r (4096 - r) (drop start content)
    ∙ ap (λ (l : List ℕ). take (4096 - r) l) (drop-drop r start content ∙ ap (λ (n : ℕ). drop n content) whole)

take-sum : (n m : ℕ) (xs : List ℕ) → take (n + m) xs ≡ take n xs ++ take m (drop n xs)
take-sum zero m xs = ap (λ (k : ℕ). take k xs) (zero-add m)
take-sum (suc n) m [] = take_all (suc n + m) [] (omega arith) ∙ sym (take_all m [] (omega arith))
take-sum (suc n) m (x ∷ xs) = let e : suc n + m ≡ suc (n + m) = omega arith in ap (λ (k : ℕ). take k (x ∷ xs)) e ∙ ap (λ (l : List ℕ). x ∷ l) (take-sum n m xs)

take_sum : (n m : ℕ) (front xs : List ℕ) → length front ≡ n → take (n + m) (front ++ xs) ≡ front ++ take m xs
take_sum n m front xs size =
    take-sum n m (front ++ xs) ∙ ap (λ (l : List ℕ). l ++ take m (drop n (front ++ xs))) (take_at front xs n size) ∙ ap (λ (l : List ℕ). front ++ take m l) (drop_at front xs n size)

front_take : (n m : ℕ) (xs : List ℕ) → take n (take m xs) ≡ take (length (take n (take m xs))) xs
front_take zero m xs = refl
front_take (suc n) zero xs = refl
front_take (suc n) (suc m) [] = refl
front_take (suc n) (suc m) (x ∷ xs) = ap (λ (l : List ℕ). x ∷ l) (front_take n m xs)

-- a piece that is a front of a front is the front of its length
pub front_of : (count n m : ℕ) (piece content : List ℕ) → take count piece ≡ take n (take m content) → count ≤ length piece → take count piece ≡ take count content
front_of count n m piece content is fits =
    let long : length (take n (take m content)) ≡ count = sym (ap (λ (l : List ℕ). length l) is) ∙ length-take-le count piece fits in
    is ∙ front_take n m content ∙ ap (λ (k : ℕ). take k content) long

-- one piece more, whatever follows it
pub one_more : (done count n m : ℕ) (old piece behind content : List ℕ) → done ≤ length old → take done old ≡ take done content → take count piece ≡ take n (take m (drop done content)) → count ≤ length piece
    → take (done + count) (take done old ++ (piece ++ behind)) ≡ take (done + count) content
one_more done count n m old piece behind content within so_far is fits =
    take_sum done count (take done old) (piece ++ behind) (length-take-le done old within)
    ∙ ap (λ (l : List ℕ). take done old ++ l) (take-append-le count piece behind fits ∙ front_of count n m piece (drop done content) is fits)
    ∙ ap (λ (l : List ℕ). l ++ take count (drop done content)) so_far
    ∙ sym (take-sum done count content)

-- no byte more: all is read
pub none_left : (done n m : ℕ) (old piece content : List ℕ) → take done old ≡ take done content → [] ≡ take n (take m (drop done content)) → 0 < n → 0 < m → done ≤ length old → (size : ℕ) → done ≤ size → take done old ≡ take size content
none_left done n m old piece content so_far is some room within size fits =
    let none : length (drop done content) ≡ 0 = omega (arith, ap (λ (l : List ℕ). length l) is, length-take n (take m (drop done content)), length-take m (drop done content)) in
    let short : length content ≤ done = omega (arith, length-drop done content) in
    so_far ∙ take_all done content short ∙ sym (take_all size content (omega arith))

-- a block that isn't filled has no wrong byte
pub unfilled : (block : BlockView) (content : List ℕ) → block.filled ≡ false → Holds block content
unfilled block content none = λ full. absurd (false≢true (sym none ∙ full))
