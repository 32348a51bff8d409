use Rattle.std.proofs.lemmas.Result.{err_from_is_err_and}
use Rattle.al_disk.proofs.Going.{so_goes, then_goes}
use Rattle.al_journal.proofs.Bearing.{is_shut, only_shut, open_filled, open_refused, shut_filled}
use Rattle.al_journal.proofs.making.make.Goals as goal

pub returns-in_err-write_durably-clause-made : goal.returns-in_err-write_durably-clause-made
returns-in_err-write_durably-clause-made g c =
    let p = err_from_is_err_and c.from_residual.result c.from_residual.ensures.1 in
    rw (p.1) (so_goes _ _ _ _ c.in_err-write_durably.ensures.wrote (λ s t is may. open_refused c.args.capacity c.requires.allowed c.args.found (c.is_open.ensures.yes c.if-is_open.true) p.0 s t may))

pub returns-then-is_open-clause-made : goal.returns-then-is_open-clause-made
returns-then-is_open-clause-made g c =
    then_goes _ _ _ _ _ _ c.in_ok-write_durably.ensures.wrote c.fill.ensures.filled
    (λ s t u is done fills. open_filled c.args.capacity c.requires.allowed c.args.found (c.is_open.ensures.yes c.if-is_open.true) c.fill.result s t u done fills)

pub fill-requires-2-clause-shut : goal.fill-requires-2-clause-shut
fill-requires-2-clause-shut g c = λ s is. only_shut c.args.found s.content c.requires.unmade (c.is_open.ensures.no c.if-is_open.false) (c.requires.found s is)

pub returns-clause-made : goal.returns-clause-made
returns-clause-made g c = so_goes _ _ _ _ c.fill-2.ensures.filled (λ s t is fills. shut_filled c.args.capacity c.requires.allowed c.args.found (is_shut c.args.found c.requires.unmade (c.is_open.ensures.no c.if-is_open.false)) c.fill-2.result s t fills)
