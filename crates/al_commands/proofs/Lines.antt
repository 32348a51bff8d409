-- Lines, count by count.
use Rattle.std.proofs.Common.{◌≡◌, ℕ, ◌+◌, ◌<◌, ◌≤◌, min, Option, None, Some, Result, Ok, Err, List, [], ◌∷◌, ◌++◌, length, take, drop, get_or, flat_map, sym, ap, ◌∙◌, append_assoc, arith}
use Rattle.std.specs.Prelude.{OnErr, OnOk}
use Rattle.std.proofs.lemmas.Grind.{flat_map-append}
use Rattle.std.proofs.lemmas.List.{append-nil, take_more, take_min, take-append-drop, take-append-le}
use Rattle.std.proofs.Math.Seq.{take-length}
use Rattle.std.specs.Io.KnownBytes.{Appends}
use Rattle.al_http.proofs.FrontLaws.{appends_more, front_more}
use Rattle.al_http.specs.Fronts.{AppendsFront}
use Rattle.al_commands.specs.Lines.{counts_text, line_end, text_of_count}
use Rattle.al_commands.specs.declared.line.Count.{Count}

-- nothing was written
pub appends_same : (a : Option (List ℕ)) → Appends a a []
appends_same None = tt
appends_same (Some known) = sym (append-nil known)

-- a front of a text is one of a longer text
take_front : (n : ℕ) (xs ys : List ℕ) → take (min n (length xs)) (xs ++ ys) ≡ take n xs
take_front n xs ys =
    let most : min n (length xs) ≤ length xs = omega arith in
    take-append-le (min n (length xs)) xs ys most ∙ take_min n xs

pub front_longer : (a b : Option (List ℕ)) (xs ys : List ℕ) → AppendsFront a b xs → AppendsFront a b (xs ++ ys)
front_longer a b xs ys (count, front) = (min count (length xs), rw (take_front count xs ys) front)

-- a fault
pub on_fault : {T E : Type 0} (result : Result T E) (a b : Option (List ℕ)) (xs : List ℕ) → AppendsFront a b xs → OnErr result (AppendsFront a b xs)
on_fault (Ok value) a b xs front = tt
on_fault (Err fault) a b xs front = front

-- a fault in a last call, behind a whole text
pub then_front : {T E : Type 0} (result : Result T E) (a b c : Option (List ℕ)) (xs ys : List ℕ)
    → Appends a b xs → OnErr result (AppendsFront b c ys) → OnErr result (AppendsFront a c (xs ++ ys))
then_front (Ok value) a b c xs ys first second = tt
then_front (Err fault) a b c xs ys first second = front_more a b c xs ys first second

-- one more count
pub counts_more : (counts : List Count) (i : ℕ) (d : Count) → i < length counts → counts_text (take (i + 1) counts) ≡ counts_text (take i counts) ++ text_of_count (get_or counts i d)
counts_more counts i d within =
    ap (flat_map text_of_count) (take_more counts i d within) ∙ flat_map-append text_of_count (take i counts) (get_or counts i d ∷ [])
    ∙ ap (λ (zs : List ℕ). flat_map text_of_count (take i counts) ++ zs) (append-nil (text_of_count (get_or counts i d)))

pub counts_parts : (counts : List Count) (i : ℕ) → counts_text (take i counts) ++ counts_text (drop i counts) ≡ counts_text counts
counts_parts counts i =
    sym (flat_map-append text_of_count (take i counts) (drop i counts)) ∙ ap (flat_map text_of_count) (take-append-drop i counts)

-- a text behind a whole one
pub then_text : {T E : Type 0} (result : Result T E) (a b c : Option (List ℕ)) (xs ys : List ℕ)
    → Appends a b xs → OnOk result (Appends b c ys) → OnOk result (Appends a c (xs ++ ys))
then_text (Ok value) a b c xs ys first second = appends_more a b c xs ys first second
then_text (Err fault) a b c xs ys first second = tt

-- the whole, as what stands before a count, the count, and the rest
whole_is : (counts : List Count) (i : ℕ) (d : Count) → i < length counts
    → counts_text counts ++ line_end ≡ counts_text (take i counts) ++ (text_of_count (get_or counts i d) ++ (counts_text (drop (i + 1) counts) ++ line_end))
whole_is counts i d within =
    let before = counts_text (take i counts) in
    let one = text_of_count (get_or counts i d) in
    let behind = counts_text (drop (i + 1) counts) in
    let parts : counts_text counts ≡ (before ++ one) ++ behind = sym (counts_parts counts (i + 1)) ∙ ap (λ (zs : List ℕ). zs ++ behind) (counts_more counts i d within) in
    ap (λ (zs : List ℕ). zs ++ line_end) parts ∙ append_assoc (before ++ one) behind line_end ∙ append_assoc before one (behind ++ line_end)

-- a fault inside a count
pub counts_front : (a b c : Option (List ℕ)) (counts : List Count) (i : ℕ) (d : Count) → i < length counts
    → Appends a b (counts_text (take i counts)) → AppendsFront b c (text_of_count (get_or counts i d)) → AppendsFront a c (counts_text counts ++ line_end)
counts_front a b c counts i d within first second =
    rw (whole_is counts i d within)
    (front_more a b c (counts_text (take i counts)) (text_of_count (get_or counts i d) ++ (counts_text (drop (i + 1) counts) ++ line_end)) first
    (front_longer b c (text_of_count (get_or counts i d)) (counts_text (drop (i + 1) counts) ++ line_end) second))

-- all counts were written
pub all_written : (a b : Option (List ℕ)) (counts : List Count) (i : ℕ) → length counts ≤ i → i ≤ length counts → Appends a b (counts_text (take i counts)) → Appends a b (counts_text counts)
all_written a b counts i past within written =
    let all : take i counts ≡ counts = (let e : i ≡ length counts = omega (arith, past, within) in rw e (take-length counts)) in
    rw all at written

-- six texts and what follows them, grouped as lines are
pub six_counts : (a b c d e f z : List ℕ) → (a ++ (b ++ (c ++ (d ++ (e ++ (f ++ [])))))) ++ z ≡ (((((a ++ b) ++ c) ++ d) ++ e) ++ f) ++ z
six_counts a b c d e f z = ap (λ (xs : List ℕ). xs ++ z) (simp (append_assoc, append-nil))
