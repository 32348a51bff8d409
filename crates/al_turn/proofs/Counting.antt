-- The entries of all origins up to a count, added up.
use Rattle.std.proofs.Common.{◌≡◌, ◌≢◌, ℕ, zero, suc, ◌+◌, ◌-◌, ◌≤◌, ◌<◌, Bool, cond, List, [], ◌∷◌, length, drop, refl, ap, ◌∙◌, arith, eq-eqb, ne_eqb, length-drop}
use mathlib.Core.Logic.{dite}
use native.Mathlib.Decide.{ℕ_discrete}
use Rattle.al_model.specs.declared.entry.Entry.{Entry}
use Rattle.al_turn.specs.Histories.{Numbered, counted_up_to, entries_by}

none_counted : (n : ℕ) → counted_up_to [] 0 n ≡ 0
none_counted zero = refl
none_counted (suc n) = let e = none_counted n in omega arith

-- an entry of a higher origin isn't counted
not_counted : (e : Entry) (es : List Entry) (n : ℕ) → n < e.origin → counted_up_to (e ∷ es) 0 n ≡ counted_up_to es 0 n
not_counted e es zero above = refl
not_counted e es (suc n) above =
    let ne : e.origin ≢ suc n = λ q. absurd (omega arith) in
    let rest = not_counted e es n (omega arith) in
    let here : length (entries_by (suc n) (e ∷ es)) ≡ length (entries_by (suc n) es) =
    ap (λ (b : Bool). length (cond b (e ∷ entries_by (suc n) es) (entries_by (suc n) es))) (ne_eqb e.origin (suc n) ne) in
    omega arith

-- an entry of an origin within is counted once
counted_once : (e : Entry) (es : List Entry) (n : ℕ) → 1 ≤ e.origin → e.origin ≤ n → counted_up_to (e ∷ es) 0 n ≡ suc (counted_up_to es 0 n)
counted_once e es zero low high = absurd (omega arith)
counted_once e es (suc n) low high =
    dite (ℕ_discrete e.origin (suc n))
    (λ q.
    let rest = not_counted e es n (omega arith) in
    let here : length (entries_by (suc n) (e ∷ es)) ≡ suc (length (entries_by (suc n) es)) =
    ap (λ (b : Bool). length (cond b (e ∷ entries_by (suc n) es) (entries_by (suc n) es))) (eq-eqb e.origin (suc n) q) in
    omega arith)
    (λ ne.
    let rest = counted_once e es n low (omega arith) in
    let here : length (entries_by (suc n) (e ∷ es)) ≡ length (entries_by (suc n) es) =
    ap (λ (b : Bool). length (cond b (e ∷ entries_by (suc n) es) (entries_by (suc n) es))) (ne_eqb e.origin (suc n) ne) in
    omega arith)

all_counted : (es : List Entry) (n : ℕ) → Numbered n es → counted_up_to es 0 n ≡ length es
all_counted [] n numbered = none_counted n
all_counted (e ∷ es) n numbered = let rest = all_counted es n numbered.1 in let once = counted_once e es n numbered.0.0 numbered.0.1 in omega arith

-- counting from a place on is counting what stands from there on
counted_from : (history : List Entry) (from n : ℕ) → counted_up_to history from n ≡ counted_up_to (drop from history) 0 n
counted_from history from zero = refl
counted_from history from (suc n) = ap (λ k. k + length (entries_by (suc n) (drop from history))) (counted_from history from n)

pub passes_make_all_entries : (history : List Entry) (from count : ℕ) → Numbered count (drop from history) → counted_up_to history from count ≡ length history - from
passes_make_all_entries history from count numbered = counted_from history from count ∙ all_counted (drop from history) count numbered ∙ length-drop from history
