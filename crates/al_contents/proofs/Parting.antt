-- Where the places of a side are parted by one.
use Rattle.std.proofs.Common.{◌≡◌, ℕ, zero, suc, ◌+◌, ◌<◌, ◌≤◌, Bool, true, false, List, [], ◌∷◌, ◌++◌, length, map, take, drop, refl, ap, sym, ◌∙◌, subst, arith, ltb, ltb-true, ltb-false, lt-ltb}
use Rattle.std.specs.List.{AllByRecursion, insert, slice_index_or}
use Rattle.std.specs.List.Sorted.{IsPartitionPoint, IsPartitionedBy}
use Rattle.std.proofs.Math.Seq.{drop-append_seam, take-append_seam}
use Rattle.al_contents.specs.Places.{AreParted}

-- ---- all of a list

pub all_at : {X : Type 0} (P : X → Type 0) (xs : List X) (i : ℕ) (d : X) → i < length xs → AllByRecursion P xs → P (slice_index_or xs i d)
all_at P [] i d lt h = absurd (omega arith)
all_at P (x ∷ xs) zero d lt h = h.0
all_at P (x ∷ xs) (suc i) d lt h = all_at P xs i d (omega arith) h.1

pub all_drop : {X : Type 0} (P : X → Type 0) (n : ℕ) (xs : List X) → AllByRecursion P xs → AllByRecursion P (drop n xs)
all_drop P zero xs h = h
all_drop P (suc n) [] h = h
all_drop P (suc n) (x ∷ xs) h = all_drop P n xs h.1

pub all_small : (n m : ℕ) (places : List ℕ) → n < m → AllByRecursion (λ i. i < n) places → AllByRecursion (λ i. i + 1 < m) places
all_small n m [] lt h = tt
all_small n m (i ∷ rest) lt h = (omega (arith, lt, h.0), all_small n m rest lt h.1)

-- ---- the parts

at_before : (P : ℕ → Type 0) (before after : List ℕ) (i d : ℕ) → i < length before → AllByRecursion P before → P (slice_index_or (before ++ after) i d)
at_before P [] after i d lt h = absurd (omega arith)
at_before P (x ∷ before) after zero d lt h = h.0
at_before P (x ∷ before) after (suc i) d lt h = at_before P before after i d (omega arith) h.1

at_after : (P : ℕ → Type 0) (before after : List ℕ) (i d : ℕ) → length before ≤ i → i < length (before ++ after) → AllByRecursion P after → P (slice_index_or (before ++ after) i d)
at_after P [] after i d le lt h = all_at P after i d lt h
at_after P (x ∷ before) after zero d le lt h = absurd (omega arith)
at_after P (x ∷ before) after (suc i) d le lt h = at_after P before after i d (omega arith) (omega arith) h

parted_by : (place : ℕ) (before after : List ℕ) → AllByRecursion (λ i. i < place) before → AllByRecursion (λ i. place ≤ i) after → IsPartitionedBy (λ i. ltb i place) (before ++ after)
parted_by place before after below above i j d le within passes = by (ltb i (length before)) refl
  where
    by : (b : Bool) → ltb i (length before) ≡ b → ltb (slice_index_or (before ++ after) i d) place ≡ true
    by true is = lt-ltb _ place (at_before (λ k. k < place) before after i d (ltb-true _ _ is) below)
    by false is =
        let past : length before ≤ j = omega (arith, ltb-false _ _ is, le) in
        let high : place ≤ slice_index_or (before ++ after) j d = at_after (λ k. place ≤ k) before after j d past within above in
        let low : slice_index_or (before ++ after) j d < place = ltb-true _ place passes in
        absurd (omega (arith, high, low))

-- They meet where the search stops.
meet_at : (place at : ℕ) (before after : List ℕ) → AllByRecursion (λ i. i < place) before → AllByRecursion (λ i. place ≤ i) after → at ≤ length (before ++ after) → IsPartitionPoint (λ i. ltb i place ≡ true) (λ i. ltb i place ≡ false) (before ++ after) at → length before ≤ length (before ++ after) → at ≡ length before
meet_at place at before after below above le point most = by (ltb at (length before)) refl (ltb (length before) at) refl
  where
    by : (b : Bool) → ltb at (length before) ≡ b → (c : Bool) → ltb (length before) at ≡ c → at ≡ length before
    by true is c less =
        let lt : at < length before = ltb-true _ _ is in
        let within : at < length (before ++ after) = omega (arith, lt, most) in
        let here : at ≤ at = omega arith in
        let low : slice_index_or (before ++ after) at 0 < place = at_before (λ k. k < place) before after at 0 lt below in
        let high : place ≤ slice_index_or (before ++ after) at 0 = ltb-false _ _ (point.1 at 0 here within) in
        absurd (omega (arith, low, high))
    by false is true less =
        let lt : length before < at = ltb-true _ _ less in
        let within : length before < length (before ++ after) = omega (arith, lt, le) in
        let here : length before ≤ length before = omega arith in
        let from : 0 ≤ length before = omega arith in
        let low : slice_index_or (before ++ after) (length before) 0 < place = ltb-true _ _ (point.0 (length before) 0 from lt) in
        let high : place ≤ slice_index_or (before ++ after) (length before) 0 = at_after (λ k. place ≤ k) before after (length before) 0 here within above in
        absurd (omega (arith, low, high))
    by false is false less = omega (arith, ltb-false _ _ is, ltb-false _ _ less)

longer : (before after : List ℕ) → length before ≤ length (before ++ after)
longer [] after = omega arith
longer (x ∷ before) after = omega (arith, longer before after)

-- what the search for the place finds
pub record Found (places before after : List ℕ) (at : ℕ) : Type 0 where
  pub moved : take at places ++ map suc (drop at places) ≡ before ++ map suc after
  pub put : (place : ℕ) → insert (before ++ map suc after) at place ≡ before ++ (place ∷ map suc after)

pub found : (place at : ℕ) (places seen before after : List ℕ) → AreParted place places before after → seen ≡ places → at ≤ length seen → (IsPartitionedBy (λ i. ltb i place) seen → IsPartitionPoint (λ i. ltb i place ≡ true) (λ i. ltb i place ≡ false) seen at) → Found places before after at
found place at places seen before after parted same le searched =
    let all : before ++ after ≡ seen = sym (same ∙ parted.all) in
    let within : at ≤ length (before ++ after) = subst (λ xs. at ≤ length xs) (sym all) le in
    let point = searched (subst (IsPartitionedBy (λ i. ltb i place)) all (parted_by place before after parted.below parted.above)) in
    let meets : at ≡ length before = meet_at place at before after parted.below parted.above within (subst (λ xs. IsPartitionPoint (λ i. ltb i place ≡ true) (λ i. ltb i place ≡ false) xs at) (sym all) point) (longer before after) in
    record {
      moved = ap (λ xs. take at xs ++ map suc (drop at xs)) parted.all ∙ ap (λ n. take n (before ++ after) ++ map suc (drop n (before ++ after))) meets
          ∙ ap (λ xs. xs ++ map suc (drop (length before) (before ++ after))) (take-append_seam before after) ∙ ap (λ xs. before ++ map suc xs) (drop-append_seam before after);
      put = λ k. ap (λ n. insert (before ++ map suc after) n k) meets
          ∙ ap (λ xs. xs ++ k ∷ drop (length before) (before ++ map suc after)) (take-append_seam before (map suc after)) ∙ ap (λ xs. before ++ k ∷ xs) (drop-append_seam before (map suc after));
    }
