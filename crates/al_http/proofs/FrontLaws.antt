-- Writes one after the other.
use Rattle.std.proofs.Common.{ℕ, ◌+◌, Option, None, Some, List, ◌++◌, length, take, ◌∙◌, ap, append_assoc}
use Rattle.std.proofs.Math.Seq.{take-append-add}
use Rattle.std.specs.Io.KnownBytes.{Appends}
use Rattle.al_http.specs.Fronts.{AppendsFront}

-- two texts, one after the other
pub appends_more : (a b c : Option (List ℕ)) (xs ys : List ℕ) → Appends a b xs → Appends b c ys → Appends a c (xs ++ ys)
appends_more None b c xs ys first second = tt
appends_more (Some old) None c xs ys first second = absurd first
appends_more (Some old) (Some mid) None xs ys first second = absurd second
appends_more (Some old) (Some mid) (Some new) xs ys first second =
    second ∙ ap (λ (zs : List ℕ). zs ++ ys) first ∙ append_assoc old xs ys

-- a whole text, and a front of the next
pub front_more : (a b c : Option (List ℕ)) (xs ys : List ℕ) → Appends a b xs → AppendsFront b c ys → AppendsFront a c (xs ++ ys)
front_more a b c xs ys first (count, second) =
    (length xs + count, rw (take-append-add xs ys count) (appends_more a b c xs (take count ys) first second))
