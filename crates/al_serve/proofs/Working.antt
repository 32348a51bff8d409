-- What a worker has done with its pass.
use Rattle.std.proofs.Common.{◌≡◌, ℕ, zero, suc, ◌+◌, ◌^◌, ◌≤◌, ◌<◌, List, length, drop, sym, ap, ◌∙◌, arith, length-append, length-drop}
use Rattle.al_model.specs.declared.entry.Entry.{Entry}
use Rattle.al_serve.proofs.Serving.{by_within}
use Rattle.al_serve.specs.Left.{IsCounted}
use Rattle.al_serve.specs.Workers.{put_by}
use Rattle.al_turn.proofs.Grows.{own_longer}
use Rattle.al_turn.specs.Histories.{GoesOn, entries_by, entries_of, further}
use Rattle.al_turn.specs.Identities.{Identity}
use Rattle.al_turn.specs.Passes.{IsSince, PassState, identity_of}

-- what a pass has put, after it has put more
pub put_grows : (first last : PassState) (origin added : ℕ) → identity_of last ≡ identity_of first → first.view.number ≡ origin → IsSince first.view → GoesOn first.view.seen last.view.seen
    → added ≡ length (entries_by origin (further last.view.seen.entries first.view.seen.entries)) → put_by last ≡ put_by first + added
put_grows first last origin added same number since goes_on is =
    let numbers = ap (λ (i : Identity). i.number) same in
    let bases = ap (λ (i : Identity). i.base) same in
    let longer = own_longer first.view.seen.entries last.view.seen.entries first.view.number first.view.base since goes_on.begins in
    let last_own : put_by last ≡ length (entries_of last.view.seen.entries first.view.number first.view.base) =
    ap (λ (n : ℕ). length (entries_of last.view.seen.entries n last.view.base)) numbers ∙ ap (λ (n : ℕ). length (entries_of last.view.seen.entries first.view.number n)) bases in
    let new : added ≡ length (entries_by first.view.number (further last.view.seen.entries first.view.seen.entries)) =
    is ∙ ap (λ (n : ℕ). length (entries_by n (further last.view.seen.entries first.view.seen.entries))) (sym number) in
    let parts = length-append (entries_of first.view.seen.entries first.view.number first.view.base) (entries_by first.view.number (further last.view.seen.entries first.view.seen.entries)) in
    let all = ap (λ (es : List Entry). length es) longer in
    omega (arith, last_own, new, parts, all)

-- a pass has put no more than there is
pub put_within : (pass : PassState) → put_by pass ≤ length pass.view.seen.entries
put_within pass =
    let own = by_within pass.view.number (drop pass.view.base pass.view.seen.entries) in
    omega (arith, own, length-drop pass.view.base pass.view.seen.entries)

fits_so : (before added put all most : ℕ) → before ≤ put → all ≡ put + added → all ≤ most → (0 < added → most < 2 ^ 64) → before < 2 ^ 64 → before + added < 2 ^ 64
fits_so before zero put all most least grown within counted fits = omega arith
fits_so before (suc added) put all most least grown within counted fits = let c = counted (omega arith) in omega arith

-- so the count of what it has put fits
pub put_fits : (first last : PassState) (before added : ℕ) → before ≤ put_by first → put_by last ≡ put_by first + added → (0 < added → IsCounted last.view.seen) → before < 2 ^ 64 → before + added < 2 ^ 64
put_fits first last before added least grown counted fits = fits_so before added (put_by first) (put_by last) (length last.view.seen.entries) least grown (put_within last) counted fits
