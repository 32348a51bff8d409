-- Texts of which a front is written, where the sink fails.
use Rattle.std.proofs.Common.{◌≡◌, ℕ, ◌≤◌, min, Option, None, Some, Result, Ok, Err, List, [], ◌++◌, length, take, sym, ◌∙◌, arith}
use Rattle.std.specs.Prelude.{OnErr}
use Rattle.std.proofs.lemmas.List.{append-nil, take_min, take-append-le}
use Rattle.std.specs.Io.KnownBytes.{Appends}
use Rattle.al_http.proofs.FrontLaws.{front_more}
use Rattle.al_http.specs.Fronts.{AppendsFront}

-- nothing was written
pub appends_same : (a : Option (List ℕ)) → Appends a a []
appends_same None = tt
appends_same (Some known) = sym (append-nil known)

-- a front of a text is one of a longer text
take_front : (n : ℕ) (xs ys : List ℕ) → take (min n (length xs)) (xs ++ ys) ≡ take n xs
take_front n xs ys =
    let most : min n (length xs) ≤ length xs = omega arith in
    take-append-le (min n (length xs)) xs ys most ∙ take_min n xs

pub front_longer : (a b : Option (List ℕ)) (xs ys : List ℕ) → AppendsFront a b xs → AppendsFront a b (xs ++ ys)
front_longer a b xs ys (count, front) = (min count (length xs), rw (take_front count xs ys) front)

-- a fault
pub on_fault : {T E : Type 0} (result : Result T E) (a b : Option (List ℕ)) (xs : List ℕ) → AppendsFront a b xs → OnErr result (AppendsFront a b xs)
on_fault (Ok value) a b xs front = tt
on_fault (Err fault) a b xs front = front

-- a fault in a last call, behind a whole text
pub then_front : {T E : Type 0} (result : Result T E) (a b c : Option (List ℕ)) (xs ys : List ℕ)
    → Appends a b xs → OnErr result (AppendsFront b c ys) → OnErr result (AppendsFront a c (xs ++ ys))
then_front (Ok value) a b c xs ys first second = tt
then_front (Err fault) a b c xs ys first second = front_more a b c xs ys first second
