-- What the owners of all passes have put, added up.
use Rattle.std.proofs.Common.{◌≡◌, ℕ, suc, ◌+◌, Some, List, [], ◌∷◌, length, refl, sym, ap, ◌∙◌, subst, arith, slice_get}
use Rattle.al_model.specs.declared.entry.Entry.{Entry}
use Rattle.al_model.specs.declared.kept.Mark.{Mark}
use Rattle.al_serve.specs.Laws.{AreNumberedFrom, PassesPutAllEntries, put_by_all}
use Rattle.al_serve.specs.Workers.{put_by}
use Rattle.al_turn.proofs.Counting.{passes_make_all_entries}
use Rattle.al_turn.specs.Histories.{counted_up_to, entries_of}
use Rattle.al_turn.specs.Passes.{Ended, PassState}

zero_more : (n : ℕ) → n + 0 ≡ n
zero_more n = omega arith

one_more : (n m : ℕ) → n + suc m ≡ suc n + m
one_more n m = omega arith

none_below : (n : ℕ) → 0 + n ≡ n
none_below n = omega arith

-- the passes behind those with lower numbers count what is still to be counted
all_put : (start last : Mark) (below : ℕ) (passes : List PassState) → ((k : ℕ) (p : PassState) → slice_get passes k ≡ Some p → Ended start p last) → AreNumberedFrom (length start.entries) (suc below) passes
    → counted_up_to last.entries (length start.entries) below + put_by_all passes ≡ counted_up_to last.entries (length start.entries) (below + length passes)
all_put start last below [] each numbered = let same = ap (counted_up_to last.entries (length start.entries)) (zero_more below) in omega (arith, same)
all_put start last below (pass ∷ passes) each numbered =
    let own = ap (λ (es : List Entry). length es) (each 0 pass refl).own in
    let number = numbered.0 in
    let base = numbered.1 in
    let here : length (entries_of last.entries (suc below) (length start.entries)) ≡ put_by pass =
    ap (λ (n : ℕ). length (entries_of last.entries n (length start.entries))) (sym number) ∙ own ∙ ap (λ (n : ℕ). length (entries_of pass.view.seen.entries pass.view.number n)) (sym base) in
    let next : suc below + 1 ≡ suc (suc below) = omega arith in
    let rest = all_put start last (suc below) passes (λ k p at. each (suc k) p at) (subst (λ (n : ℕ). AreNumberedFrom (length start.entries) n passes) next numbered.2) in
    let same = ap (counted_up_to last.entries (length start.entries)) (one_more below (length passes)) in
    omega (arith, here, rest, same)

pub passes_put_all_entries : PassesPutAllEntries
passes_put_all_entries start last passes closed numbered =
    let counted = all_put start last 0 passes (λ k p at. closed.each k p at) numbered in
    let same = ap (counted_up_to last.entries (length start.entries)) (none_below (length passes)) in
    let all = passes_make_all_entries last.entries (length start.entries) (length passes) closed.origins in
    omega (arith, counted, same, all)
