-- What the journal shows is the history that was read.
use Rattle.std.proofs.Common.{arith, refl, sym, ◌∙◌, ap, subst}
use Rattle.al_disk.specs.States.{Goes}
use Rattle.al_journal.specs.Walks.{Opens}
use Rattle.al_office.specs.Journaled.{JournaledView}
use Rattle.al_office.proofs.Opening.{opened_holds, opened_office, opened_since, reading_refused}
use Rattle.al_office.proofs.journaled.Office.open.Goals as goal

pub invariant_of-result : goal.invariant_of-result
invariant_of-result g c =
    let j = c.read_history.new.journal in
    let h = c.in-Ok-read_history.ledger.entries in
    let opened = c.in-Ok.journal in
    let goes = subst (λ o. Goes (Opens opened.capacity opened.gate) (g.D.Disk.told c.args.disk) o) (sym c.in-Ok-read_history.ensures.same) c.in-Ok.ensures.opens in
    let place = c.in-Ok-read_history.ensures.place in
    rw (c.of-opened.ensures) (record {
      holds = opened_holds opened.capacity opened.gate (g.D.Disk.told c.args.disk) (g.D.Disk.told j.disk) goes h (λ s is. c.in-Ok-read_history.ensures.read s (sym c.in-Ok-read_history.ensures.same ∙ is)) j c.in-Ok-read_history.ensures.capacity place.0 place.1 (c.in-Ok-read_history.ensures.doubt ∙ c.in-Ok.ensures.start.2);
      capacity = refl;
      longer = omega arith;
      since = rw (c.in-Ok-read_history.ensures.capacity) (opened_since opened.capacity opened.gate (g.D.Disk.told c.args.disk) (g.D.Disk.told j.disk) goes h (λ s is. c.in-Ok-read_history.ensures.read s (sym c.in-Ok-read_history.ensures.same ∙ is)) j.gate place.0);
    })

pub returns-in-Ok-read_history-clause-opens : goal.returns-in-Ok-read_history-clause-opens
returns-in-Ok-read_history-clause-opens g c =
    let j = c.read_history.new.journal in
    let h = c.in-Ok-read_history.ledger.entries in
    let opened = c.in-Ok.journal in
    let goes = subst (λ o. Goes (Opens opened.capacity opened.gate) (g.D.Disk.told c.args.disk) o) (sym c.in-Ok-read_history.ensures.same) c.in-Ok.ensures.opens in
    let office : JournaledView g.row.D.Denot = record { entries = h; journal = j; fixed = c.of-opened.result } in
    opened_office opened.capacity opened.gate (g.D.Disk.told c.args.disk) (g.D.Disk.told j.disk) goes h (λ s is. c.in-Ok-read_history.ensures.read s (sym c.in-Ok-read_history.ensures.same ∙ is))
    office j.gate c.in-Ok-read_history.ensures.place.0 c.in-Ok-read_history.ensures.capacity refl (ap (λ v. v.since) c.of-opened.ensures)

pub returns-in-Err-read_history-clause-refuses : goal.returns-in-Err-read_history-clause-refuses
returns-in-Err-read_history-clause-refuses g c =
    let j = c.read_history.new.journal in
    let opened = c.in-Ok.journal in
    let goes = subst (λ o. Goes (Opens opened.capacity opened.gate) (g.D.Disk.told c.args.disk) o) (sym c.in-Err-read_history.ensures.same) c.in-Ok.ensures.opens in
    rw (c.into_disk.ensures)
    (reading_refused opened.capacity opened.gate (g.D.Disk.told c.args.disk) (g.D.Disk.told j.disk) goes c.in-Err-read_history.fault (λ s is. c.in-Err-read_history.ensures.read s (sym c.in-Err-read_history.ensures.same ∙ is)))
