-- What is written to the journal stands in the history too; what is refused stands in neither.
use Rattle.std.proofs.Common.{arith, sym, subst, refl}
use Rattle.al_disk.proofs.Going.{stays}
use Rattle.al_model.specs.History.{Fits, replay}
use Rattle.al_office.specs.Journaled.{JournaledView}
use Rattle.al_office.proofs.Adding.{kept_refused, kept_written}
use Rattle.al_office.proofs.Changing.{still_writes}
use Rattle.al_office.proofs.journaled.Office.add.Goals as goal

pub returns-in_err-record-clause-writes : goal.returns-in_err-record-clause-writes
returns-in_err-record-clause-writes g c =
    rw (← c.self.view_is)
    (stays _ _ _ refl (λ s is. still_writes _ c.self.inside.journal c.self.inside.ledger.entries c.args.entry c.self.invariant.holds s is))

pub invariant_of-self-in-Ok : goal.invariant_of-self-in-Ok
invariant_of-self-in-Ok g c =
    let h = c.self.inside.ledger.entries in
    let office : JournaledView g.row.D.Denot = record { entries = h; journal = c.self.inside.journal; fixed = c.self.inside.opened } in
    let fits = subst (λ o. Fits (replay o.entries) c.args.entry) (sym c.self.view_is) c.requires in
    let is_record = c.in_ok-record.ensures.ok.record_is in
    let holds = c.in-Ok.ensures.holds h c.args.entry c.self.invariant.holds fits is_record in
    let goes = c.in-Ok.ensures.writes h c.args.entry c.self.invariant.holds fits is_record in
    rw (c.add.ensures, c.in_ok-record.ensures.entries)
    (kept_written _ _ office c.args.entry c.self.invariant fits goes c.write.new.journal c.in-Ok.ensures.capacity holds)

pub invariant_of-self-in-Err-Full : goal.invariant_of-self-in-Err-Full
invariant_of-self-in-Err-Full g c =
    let h = c.self.inside.ledger.entries in
    let office : JournaledView g.row.D.Denot = record { entries = h; journal = c.self.inside.journal; fixed = c.self.inside.opened } in
    let fits = subst (λ o. Fits (replay o.entries) c.args.entry) (sym c.self.view_is) c.requires in
    let is_record = c.in_ok-record.ensures.ok.record_is in
    let holds = c.in-Err-Full.ensures.holds h c.args.entry c.self.invariant.holds fits is_record in
    let goes = c.in-Err-Full.ensures.writes h c.args.entry c.self.invariant.holds fits is_record in
    rw (c.in_ok-record.ensures.entries)
    (kept_refused _ _ office c.args.entry c.self.invariant fits goes c.write.new.journal c.in-Err-Full.ensures.capacity holds)

pub returns-in-Err-Full-clause-ended : goal.returns-in-Err-Full-clause-ended
returns-in-Err-Full-clause-ended g c =
    let is_record = c.in_ok-record.ensures.ok.record_is in
    let says = rw (c.in-Err-Full.field-0-is) at (c.in-Err-Full.ensures.room c.args.entry is_record) in
    let holds = c.self.invariant.holds in
    rw (← c.self.view_is) (record {
      entries = c.in_ok-record.ensures.entries;
      sure = c.in-Err-Full.ensures.sure (λ is. let full = c.in-Err-Full.field-0-is in cc);
      no_room = λ room. omega (arith, says, room, holds.used);
    })

pub invariant_of-self-in-Err-Disk : goal.invariant_of-self-in-Err-Disk
invariant_of-self-in-Err-Disk g c =
    let h = c.self.inside.ledger.entries in
    let office : JournaledView g.row.D.Denot = record { entries = h; journal = c.self.inside.journal; fixed = c.self.inside.opened } in
    let fits = subst (λ o. Fits (replay o.entries) c.args.entry) (sym c.self.view_is) c.requires in
    let is_record = c.in_ok-record.ensures.ok.record_is in
    let holds = c.in-Err-Disk.ensures.holds h c.args.entry c.self.invariant.holds fits is_record in
    let goes = c.in-Err-Disk.ensures.writes h c.args.entry c.self.invariant.holds fits is_record in
    rw (c.in_ok-record.ensures.entries)
    (kept_refused _ _ office c.args.entry c.self.invariant fits goes c.write.new.journal c.in-Err-Disk.ensures.capacity holds)

pub returns-in_err-record-clause-fixed : goal.returns-in_err-record-clause-fixed
returns-in_err-record-clause-fixed g c = rw (← c.self.view_is) refl

pub returns-in_err-record-clause-later : goal.returns-in_err-record-clause-later
returns-in_err-record-clause-later g c = rw (← c.self.view_is) (omega arith)

pub returns-in-Ok-clause-ended : goal.returns-in-Ok-clause-ended
returns-in-Ok-clause-ended g c =
    let holds = c.self.invariant.holds in
    let says = c.in-Ok.ensures.room c.args.entry c.in_ok-record.ensures.ok.record_is in
    rw (← c.self.view_is) (
      refl,
      record {
        entries = rw (c.add.ensures, c.in_ok-record.ensures.entries) refl;
        sure = c.in-Ok.ensures.sure (λ is. cc);
        room = omega (arith, says, holds.used);
      },
    )

pub returns-in-Ok-clause-writes : goal.returns-in-Ok-clause-writes
returns-in-Ok-clause-writes g c =
    let h = c.self.inside.ledger.entries in
    let fits = subst (λ o. Fits (replay o.entries) c.args.entry) (sym c.self.view_is) c.requires in
    rw (← c.self.view_is) (c.in-Ok.ensures.writes h c.args.entry c.self.invariant.holds fits c.in_ok-record.ensures.ok.record_is)

pub returns-in-Ok-clause-fixed : goal.returns-in-Ok-clause-fixed
returns-in-Ok-clause-fixed g c = rw (← c.self.view_is) refl

pub returns-in-Ok-clause-later : goal.returns-in-Ok-clause-later
returns-in-Ok-clause-later g c = rw (← c.self.view_is) c.in-Ok.ensures.later

pub returns-in-Ok-clause-cause : goal.returns-in-Ok-clause-cause
returns-in-Ok-clause-cause g c = λ is. absurd (let no = is in cc)

pub returns-in-Err-Full-clause-writes : goal.returns-in-Err-Full-clause-writes
returns-in-Err-Full-clause-writes g c =
    let h = c.self.inside.ledger.entries in
    let fits = subst (λ o. Fits (replay o.entries) c.args.entry) (sym c.self.view_is) c.requires in
    rw (← c.self.view_is) (c.in-Err-Full.ensures.writes h c.args.entry c.self.invariant.holds fits c.in_ok-record.ensures.ok.record_is)

pub returns-in-Err-Full-clause-fixed : goal.returns-in-Err-Full-clause-fixed
returns-in-Err-Full-clause-fixed g c = rw (← c.self.view_is) refl

pub returns-in-Err-Full-clause-later : goal.returns-in-Err-Full-clause-later
returns-in-Err-Full-clause-later g c = rw (← c.self.view_is) c.in-Err-Full.ensures.later

pub returns-in-Err-Full-clause-cause : goal.returns-in-Err-Full-clause-cause
returns-in-Err-Full-clause-cause g c = λ is. absurd (let no = is in cc)
