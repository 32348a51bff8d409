-- The gate is shut durably, or a part of that is left.
use Rattle.std.proofs.Common.{arith}
use Rattle.std.proofs.lemmas.Result.{err_from_is_err_and}
use Rattle.al_disk.proofs.Going.{so_goes}
use Rattle.al_journal.proofs.Committing.{doubt_reaches, gate_shut, shut_refused}
use Rattle.al_journal.proofs.journal.Journal.settle.Goals as goal

pub write_durably-requires : goal.write_durably-requires
write_durably-requires g c = λ s is.
    let doubted = rw (← c.self.view_is) at c.requires in
    let doubt = doubted c.if-not-self.false s is in
    omega (arith, doubt_reaches c.self.inside.capacity c.self.inside.gate doubt.0 doubt.1 s doubt.2)

pub returns-in_err-write_durably-clause-leaves : goal.returns-in_err-write_durably-clause-leaves
returns-in_err-write_durably-clause-leaves g c =
    let p = err_from_is_err_and c.from_residual.result c.from_residual.ensures.1 in
    rw (p.1, p.2, ← c.self.view_is, c.if-not-self.false)
    (λ doubted. so_goes _ _ _ _ c.in_err-write_durably.ensures.wrote (λ s t is may payloads payload doubt. shut_refused c.self.inside.capacity c.self.inside.gate payloads payload s t doubt may))

pub returns-clause-leaves : goal.returns-clause-leaves
returns-clause-leaves g c =
    rw (← c.self.view_is)
    (λ doubted. so_goes _ _ _ _ c.in_ok-write_durably.ensures.wrote (λ s t is done payloads payload doubt. gate_shut c.self.inside.capacity c.self.inside.gate payloads payload s t doubt tt done))
