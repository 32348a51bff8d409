-- What a log keeps when a note is added, and what a page reads.
use Rattle.std.proofs.Common.{◌≡◌, ℕ, ◌+◌, ◌-◌, ◌<◌, ◌≤◌, zero, suc, Bool, true, false, cond, Option, None, Some, List, [], ◌∷◌, ◌++◌, length, take, drop, inl, inr, refl, sym, ap, ◌∙◌, arith, length-append, length-drop, length-take}
use Rattle.std.specs.List.{slice_get}
use Rattle.std.specs.Option.{option_copied}
use Rattle.std.specs.Slice.{IsItemAt}
use Rattle.std.proofs.lemmas.Bool.{cases_lt}
use Rattle.std.proofs.lemmas.Option.{same_Some, slice_get_past, slice_get_read, slice_get_within}
use Rattle.std.proofs.lemmas.List.{drop-append-le}
use Rattle.al_notify.specs.Logs.{IsLog, LogView, logged, newest_notes, oldest_of}
use Rattle.al_notify.specs.declared.note.Note.{Note}

pub get_drop : {X : Type 0} (n k : ℕ) (xs : List X) → slice_get (drop n xs) k ≡ slice_get xs (n + k)
get_drop zero k xs = let e : zero + k ≡ k = omega arith in ap (slice_get xs) (sym e)
get_drop (suc n) k [] = refl
get_drop (suc n) k (x ∷ xs) = let e : suc n + k ≡ suc (n + k) = omega arith in get_drop n k xs ∙ ap (slice_get (x ∷ xs)) (sym e)

pub get_take : {X : Type 0} (n k : ℕ) (xs : List X) → k < n → slice_get (take n xs) k ≡ slice_get xs k
get_take zero k xs lt = absurd (omega arith)
get_take (suc n) k [] lt = refl
get_take (suc n) zero (x ∷ xs) lt = refl
get_take (suc n) (suc k) (x ∷ xs) lt = get_take n k xs (omega arith)

get_append : {X : Type 0} (xs ys : List X) (k : ℕ) → k < length xs → slice_get (xs ++ ys) k ≡ slice_get xs k
get_append [] ys k lt = absurd (omega arith)
get_append (x ∷ xs) ys zero lt = refl
get_append (x ∷ xs) ys (suc k) lt = get_append xs ys k (omega arith)

get_last : {X : Type 0} (xs : List X) (y : X) → slice_get (xs ++ y ∷ []) (length xs) ≡ Some y
get_last [] y = refl
get_last (x ∷ xs) y = get_last xs y

-- what a reference to an item reads
pub copied_item : {X : Type 0} (xs : List X) (i : ℕ) (r : Option _) → IsItemAt xs i r → option_copied r ≡ slice_get xs i
copied_item xs i None h = sym (slice_get_past xs i h.3)
copied_item xs i (Some x) h = sym (slice_get_read xs (length xs) i x.now refl h.3.0 (h.3.1 x.now))

-- a page reads as many notes as it may, from its first one on
pub page_reads : {X : Type 0} (xs : List X) (first i : ℕ) (r : Option _) → i < 256 → IsItemAt xs (first + i) r → option_copied r ≡ slice_get (take 256 (drop first xs)) i
page_reads xs first i r lt h = copied_item xs (first + i) r h ∙ sym (get_take 256 i (drop first xs) lt ∙ get_drop first i xs)

pub page_ends : {X : Type 0} (xs : List X) (i : ℕ) → 256 ≤ i → None ≡ slice_get (take 256 xs) i
page_ends xs i past = sym (slice_get_past (take 256 xs) i (omega (arith, length-take 256 xs)))

-- A log with one more note is a log.
pub keeps : (old : LogView) (note : Note) (items : List Note) → IsLog old → note.number ≡ old.sent + 1 → items ≡ drop (length old.notes + 1 - 4096) old.notes ++ note ∷ [] → IsLog (record { sent = note.number; notes = items })
keeps old note items log next are =
    let gone : ℕ = length old.notes + 1 - 4096 in
    let kept = log.kept in
    let count : length items ≡ length old.notes - gone + 1 =
    ap length are ∙ length-append (drop gone old.notes) (note ∷ []) ∙ ap (λ n. n + 1) (length-drop gone old.notes) in
    let at : (k : ℕ) (other : Note) → slice_get items k ≡ Some other → slice_get (drop gone old.notes ++ note ∷ []) k ≡ Some other =
    λ k other h. ap (λ xs. slice_get xs k) (sym are) ∙ h in
    let place : (k : ℕ) (other : Note) → slice_get items k ≡ Some other → k < length items = λ k other h. slice_get_within items k other h in
    let made : LogView = record { sent = note.number; notes = items } in
    let earlier : (k : ℕ) (other : Note) → slice_get items k ≡ Some other → k < length old.notes - gone → other.number ≡ oldest_of made + k =
    λ k other h lt.
    let was = log.numbered (gone + k) other
    (sym (get_drop gone k old.notes) ∙ sym (get_append (drop gone old.notes) (note ∷ []) k (omega (arith, length-drop gone old.notes))) ∙ at k other h) in
    omega (arith, kept, was) in
    let last : (k : ℕ) (other : Note) → slice_get items k ≡ Some other → length old.notes - gone ≤ k → other.number ≡ oldest_of made + k =
    λ k other h past.
    let within = place k other h in
    let k_is : k ≡ length (drop gone old.notes) = omega (arith, length-drop gone old.notes) in
    let is : note ≡ other = same_Some note other (sym (get_last (drop gone old.notes) note) ∙ ap (slice_get (drop gone old.notes ++ note ∷ [])) (sym k_is) ∙ at k other h) in
    let number : other.number ≡ old.sent + 1 = ap (λ n. n.number) (sym is) ∙ next in
    omega (arith, length-drop gone old.notes) in
    record {
      kept = omega (arith, kept);
      numbered = λ k other h.
          elim (cases_lt k (length old.notes - gone)) [ inl lt ↦ earlier k other h lt | inr past ↦ last k other h past ];
    }

-- what is put at the end where that succeeds
pub put_last : {X : Type 0} (put : Bool) (xs ys after : List X) (x : X) → after ≡ cond put (xs ++ x ∷ []) xs → put ≡ true → xs ≡ ys → after ≡ ys ++ x ∷ []
put_last true xs ys after x is ok same = is ∙ ap (λ zs. zs ++ x ∷ []) same
put_last false xs ys after x is ok same = absurd (cc)

-- the log with the next note is a log
pub logged_sound : (log : LogView) (note : Note) → IsLog log → note.number ≡ log.sent + 1 → IsLog (logged note log)
logged_sound log note sound next =
    let all : length (log.notes ++ note ∷ []) ≡ length log.notes + 1 = length-append log.notes (note ∷ []) in
    let within : length log.notes + 1 - 4096 ≤ length log.notes = omega arith in
    keeps log note (newest_notes (log.notes ++ note ∷ [])) sound next
    (ap (λ n. drop (n - 4096) (log.notes ++ note ∷ [])) all ∙ drop-append-le (length log.notes + 1 - 4096) log.notes (note ∷ []) within)
