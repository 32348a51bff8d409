-- Writes one after the other, and what stands after a fault among them.
use Rattle.std.proofs.Common.{◌≡◌, ℕ, ◌≤◌, ◌-◌, min, Option, Some, None, Result, Ok, Err, OnOk, OnErr, List, [], ◌++◌, length, take, drop, sym, ◌∙◌, ap, append_assoc, arith}
use Rattle.std.proofs.lemmas.List.{append-nil, take-append-le, take_min, length-drop}
use Rattle.std.proofs.Math.Seq.{take-length}
use Rattle.std.specs.Io.KnownBytes.{Appends, Keeps}
use Rattle.al_http.specs.Fronts.{AppendsFront, Gathers}
use Rattle.al_http.proofs.FrontLaws.{appends_more, front_more}

pub appends_none : (a b : Option (List ℕ)) → Keeps a b → Appends a b []
appends_none None b same = tt
appends_none (Some old) None same = absurd same
appends_none (Some old) (Some new) same = same ∙ sym (append-nil old)

min_at_most : (n m : ℕ) → min n m ≤ m
min_at_most n m = omega arith

take_front : (n : ℕ) (xs ys : List ℕ) → take (min n (length xs)) (xs ++ ys) ≡ take n xs
take_front n xs ys =
    take-append-le (min n (length xs)) xs ys (min_at_most n (length xs)) ∙ take_min n xs

-- a front of a text is one of a longer text
pub front_longer : (a b : Option (List ℕ)) (xs ys : List ℕ) → AppendsFront a b xs → AppendsFront a b (xs ++ ys)
front_longer a b xs ys (count, front) = (min count (length xs), rw (take_front count xs ys) front)

-- what is left behind an index
pub rest_behind : (n : ℕ) (xs : List ℕ) → take (length xs - n) (drop n xs) ≡ drop n xs
rest_behind n xs = ap (λ (k : ℕ). take k (drop n xs)) (sym (length-drop n xs)) ∙ take-length (drop n xs)

pub gathers_same : (a : Option (List ℕ)) (waiting : List ℕ) → Gathers a a waiting waiting []
gathers_same None waiting = ([], tt, append-nil waiting)
gathers_same (Some known) waiting = ([], sym (append-nil known), append-nil waiting)

pub gathers_more : (a b c : Option (List ℕ)) (first second third xs ys : List ℕ)
    → Gathers a b first second xs → Gathers b c second third ys → Gathers a c first third (xs ++ ys)
gathers_more a b c first second third xs ys (sent, left, first_parts) (later, right, second_parts) = (
  sent ++ later,
  appends_more a b c sent later left right,
  sym (append_assoc first xs ys) ∙ ap (λ (zs : List ℕ). zs ++ ys) first_parts ∙ append_assoc sent second ys
      ∙ ap (λ (zs : List ℕ). sent ++ zs) second_parts ∙ sym (append_assoc sent later third),
)

pub gathers_push : (a b : Option (List ℕ)) (first second third xs ys : List ℕ)
    → Gathers a b first second xs → third ≡ second ++ ys → Gathers a b first third (xs ++ ys)
gathers_push a b first second third xs ys (sent, left, parts) pushed = (
  sent,
  left,
  sym (append_assoc first xs ys) ∙ ap (λ (zs : List ℕ). zs ++ ys) parts ∙ append_assoc sent second ys
      ∙ ap (λ (zs : List ℕ). sent ++ zs) (sym pushed),
)

-- what was sent and what waits, and a text behind it
behind : (sent first second xs ys : List ℕ) → first ++ xs ≡ sent ++ second → sent ++ (second ++ ys) ≡ first ++ (xs ++ ys)
behind sent first second xs ys same =
    sym (append_assoc sent second ys) ∙ ap (λ (zs : List ℕ). zs ++ ys) (sym same) ∙ append_assoc first xs ys

pub gathers_whole : (a b c : Option (List ℕ)) (first second xs ys : List ℕ)
    → Gathers a b first second xs → Appends b c (second ++ ys) → Appends a c (first ++ (xs ++ ys))
gathers_whole a b c first second xs ys (sent, left, parts) whole =
    rw (← behind sent first second xs ys parts) (appends_more a b c sent (second ++ ys) left whole)

pub gathers_front : (a b c : Option (List ℕ)) (first second xs ys : List ℕ)
    → Gathers a b first second xs → AppendsFront b c (second ++ ys) → AppendsFront a c (first ++ (xs ++ ys))
gathers_front a b c first second xs ys (sent, left, parts) front =
    rw (← behind sent first second xs ys parts) (front_more a b c sent (second ++ ys) left front)

pub gathers_behind : (a b : Option (List ℕ)) (first second third xs ys : List ℕ)
    → second ≡ first ++ xs → Gathers a b second third ys → Gathers a b first third (xs ++ ys)
gathers_behind a b first second third xs ys pushed (sent, left, parts) =
    (sent, left, sym (append_assoc first xs ys) ∙ ap (λ (zs : List ℕ). zs ++ ys) (sym pushed) ∙ parts)

-- the same with two texts behind
pub text_whole : (a b c : Option (List ℕ)) (first second xs ys zs : List ℕ)
    → Gathers a b first second xs → Appends b c ((second ++ ys) ++ zs) → Appends a c (((first ++ xs) ++ ys) ++ zs)
text_whole a b c first second xs ys zs gathered whole =
    rw (append_assoc (first ++ xs) ys zs, append_assoc first xs (ys ++ zs))
    (gathers_whole a b c first second xs (ys ++ zs) gathered (rw (append_assoc second ys zs) at whole))

pub text_front : (a b c : Option (List ℕ)) (first second xs ys zs : List ℕ)
    → Gathers a b first second xs → AppendsFront b c ((second ++ ys) ++ zs) → AppendsFront a c (((first ++ xs) ++ ys) ++ zs)
text_front a b c first second xs ys zs gathered front =
    rw (append_assoc (first ++ xs) ys zs, append_assoc first xs (ys ++ zs))
    (gathers_front a b c first second xs (ys ++ zs) gathered (rw (append_assoc second ys zs) at front))

-- the same of a last call's result
pub then_front : {T E : Type 0} (result : Result T E) (a b c : Option (List ℕ)) (xs ys : List ℕ)
    → Appends a b xs → OnErr result (AppendsFront b c ys) → OnErr result (AppendsFront a c (xs ++ ys))
then_front (Ok value) a b c xs ys first second = tt
then_front (Err fault) a b c xs ys first second = front_more a b c xs ys first second

pub then_whole : {T E : Type 0} (result : Result T E) (a b c : Option (List ℕ)) (first second xs ys zs : List ℕ)
    → Gathers a b first second xs → OnOk result (Appends b c ((second ++ ys) ++ zs)) → OnOk result (Appends a c (((first ++ xs) ++ ys) ++ zs))
then_whole (Ok value) a b c first second xs ys zs gathered whole = text_whole a b c first second xs ys zs gathered whole
then_whole (Err fault) a b c first second xs ys zs gathered whole = tt

pub then_text_front : {T E : Type 0} (result : Result T E) (a b c : Option (List ℕ)) (first second xs ys zs : List ℕ)
    → Gathers a b first second xs → OnErr result (AppendsFront b c ((second ++ ys) ++ zs)) → OnErr result (AppendsFront a c (((first ++ xs) ++ ys) ++ zs))
then_text_front (Ok value) a b c first second xs ys zs gathered front = tt
then_text_front (Err fault) a b c first second xs ys zs gathered front = text_front a b c first second xs ys zs gathered front

pub front_behind : (a b : Option (List ℕ)) (first second xs ys zs : List ℕ)
    → second ≡ first ++ xs → AppendsFront a b (second ++ ys) → AppendsFront a b (first ++ ((xs ++ ys) ++ zs))
front_behind a b first second xs ys zs pushed front =
    let longer = front_longer a b (second ++ ys) zs front in
    let same : (second ++ ys) ++ zs ≡ first ++ ((xs ++ ys) ++ zs) =
    ap (λ (text : List ℕ). (text ++ ys) ++ zs) pushed ∙ simp append_assoc in
    rw (← same) longer

pub on_fault : {T E : Type 0} (result : Result T E) (a b : Option (List ℕ)) (xs : List ℕ) → AppendsFront a b xs → OnErr result (AppendsFront a b xs)
on_fault (Ok value) a b xs front = tt
on_fault (Err fault) a b xs front = front
