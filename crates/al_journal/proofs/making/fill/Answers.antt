use Rattle.std.proofs.lemmas.Result.{err_from_is_err_and}
use Rattle.al_disk.proofs.Going.{so_goes, then_goes}
use Rattle.al_journal.proofs.Bearing.{first_written, rest_refused, starts_long}
use Rattle.al_journal.proofs.making.fill.Goals as goal

pub write_durably-requires : goal.write_durably-requires
write_durably-requires g c = λ s is. starts_long s.content (c.requires.shut s is)

pub returns-in_err-write_durably-clause-filled : goal.returns-in_err-write_durably-clause-filled
returns-in_err-write_durably-clause-filled g c =
    let p = err_from_is_err_and c.from_residual.result c.from_residual.ensures.1 in
    let refused = rw (c.rest_of_birth.ensures) at c.in_err-write_durably.ensures.wrote in
    rw (p.1) (so_goes _ _ _ _ refused (λ s t is may. rest_refused c.args.capacity c.requires.allowed p.0 s t may))

pub returns-clause-filled : goal.returns-clause-filled
returns-clause-filled g c =
    let rest = rw (c.rest_of_birth.ensures) at c.in_ok-write_durably.ensures.wrote in
    then_goes _ _ _ _ _ _ rest c.write_durably-2.ensures.wrote (λ s t u is done wrote. first_written c.args.capacity c.requires.allowed c.write_durably-2.result s t u done wrote)
