-- Each way out of a birth.
use Rattle.std.proofs.Common.{refl, subst}
use Rattle.std.proofs.lemmas.Result.{err_from_is_err_and}
use Rattle.al_disk.proofs.Going.{so_goes, stays, then_goes}
use Rattle.al_disk.specs.States.{DiskState}
use Rattle.al_journal.specs.Births.{IsFound}
use Rattle.al_journal.proofs.Bearing.{made_already, making_done, making_refused, not_allowed, not_begun, only_synced}
use Rattle.al_journal.proofs.making.birth.Goals as goal

pub returns-then-not-is_capacity-clause-bears : goal.returns-then-not-is_capacity-clause-bears
returns-then-not-is_capacity-clause-bears g c = stays _ _ _ refl (λ s is. not_allowed c.args.capacity s)

pub returns-in_err-sync-clause-bears : goal.returns-in_err-sync-clause-bears
returns-in_err-sync-clause-bears g c =
    let p = err_from_is_err_and c.from_residual.result c.from_residual.ensures.1 in
    rw (p.1, p.2) (so_goes _ _ _ _ c.in_err-sync.ensures.synced (λ s t is same. not_begun c.args.capacity s t same))

pub returns-in_err-found-clause-bears : goal.returns-in_err-found-clause-bears
returns-in_err-found-clause-bears g c =
    let p = err_from_is_err_and c.from_residual-in_err-found.result c.from_residual-in_err-found.ensures.1 in
    rw (p.1, p.2, c.look.ensures.same) (so_goes _ _ _ _ c.in_ok-sync.ensures.synced (λ s t is syncs. only_synced c.args.capacity s t (c.sync.ensures.as_it_read s is) syncs))

pub returns-then-is_made-clause-bears : goal.returns-then-is_made-clause-bears
returns-then-is_made-clause-bears g c =
    rw (c.look.ensures.same)
    (so_goes _ _ _ _ c.in_ok-sync.ensures.synced
    (λ s t is syncs. made_already c.args.capacity s c.in_ok-found.found (c.is_made.ensures.yes c.if-is_made.true) (let after = c.in_ok-sync.ensures.synced.goes s is in subst (λ (v : DiskState). IsFound c.in_ok-found.found v.content) after.2 (c.in_ok-found.ensures.found after.0 after.1)) t (c.sync.ensures.as_it_read s is) syncs))

pub returns-in_err-make-clause-bears : goal.returns-in_err-make-clause-bears
returns-in_err-make-clause-bears g c =
    let p = err_from_is_err_and c.from_residual-in_err-make.result c.from_residual-in_err-make.ensures.1 in
    let first = rw (← c.look.ensures.same) at c.in_ok-sync.ensures.synced in
    rw (p.1, p.2)
    (then_goes _ _ _ _ _ _ first c.in_err-make.ensures.made
    (λ s t u is syncs fills. making_refused c.args.capacity s c.in_ok-found.found (c.is_made.ensures.no c.if-is_made.false) (let after = c.in_ok-sync.ensures.synced.goes s is in subst (λ (v : DiskState). IsFound c.in_ok-found.found v.content) after.2 (c.in_ok-found.ensures.found after.0 after.1)) t u syncs c.in_err-make.field-0.0 fills))

pub returns-clause-bears : goal.returns-clause-bears
returns-clause-bears g c =
    let first = rw (← c.look.ensures.same) at c.in_ok-sync.ensures.synced in
    then_goes _ _ _ _ _ _ first c.in_ok-make.ensures.made
    (λ s t u is syncs fills. making_done c.args.capacity s c.in_ok-found.found (c.is_made.ensures.no c.if-is_made.false) (let after = c.in_ok-sync.ensures.synced.goes s is in subst (λ (v : DiskState). IsFound c.in_ok-found.found v.content) after.2 (c.in_ok-found.ensures.found after.0 after.1)) t u syncs tt c.in_ok-make.field-0 fills)
