-- An office, opened from a journal whose frames were read.
use Rattle.std.proofs.Common.{◌≡◌, inl, inr, ℕ, ◌+◌, true, false, Option, List, length, Err, sym, ◌∙◌, ap, subst, arith}
use Rattle.al_disk.specs.Moments.{Since}
use Rattle.al_disk.specs.States.{DiskState, Goes, Told, synced}
use Rattle.al_disk.proofs.Going.{back}
use Rattle.al_journal.specs.Images.{Shows}
use Rattle.al_journal.specs.Views.{JournalView, Stands}
use Rattle.al_journal.specs.Walks.{Opens, Refuses}
use Rattle.al_journal.specs.declared.faults.OpenFault.{OpenFault}
use Rattle.al_journal.specs.declared.faults.OpenFault.TheVariants as opens
use Rattle.al_model.specs.declared.entry.Entry.{Entry}
use Rattle.al_office.specs.Faults.{office_fault}
use Rattle.al_office.specs.Images.{ShowsFront, ShowsHistory, frames_of, used_by}
use Rattle.al_office.specs.Journaled.{HoldsHistory, JournaledView, time_told}
use Rattle.al_office.specs.Opening.{IsWrongBehind, OpensOffice, RefusesOffice}
use Rattle.al_office.specs.Reading.{IsHistoryIn}
use Rattle.al_office.specs.declared.fault.OfficeFault.{OfficeFault}
use Rattle.al_office.specs.declared.fault.OfficeFault.TheVariants.{Disk, Invalid, Memory, NotAJournal}
use Rattle.al_office.proofs.Holding.{since_opened, used-gate}

-- why the journal wasn't opened
pub journal_refused : (fault : OpenFault) (s t : DiskState) → Refuses fault s t → RefusesOffice (office_fault fault) s t
journal_refused opens.NotAJournal s t refuses = refuses
journal_refused (opens.TornLength count) s t refuses = (refuses.0, inl refuses.1)
journal_refused opens.Disk s t refuses = refuses
journal_refused opens.Memory s t refuses = inl refuses

-- its frames were read up to a fault
frames_refused : (fault : OfficeFault) (s t : DiskState) (payloads : List (List ℕ)) → t ≡ synced s → IsHistoryIn payloads t.content (Err fault) → RefusesOffice fault s t
frames_refused (Invalid count) s t payloads syncs read = (syncs, inr (subst (λ (u : DiskState). IsWrongBehind count u.content) syncs read))
frames_refused Disk s t payloads syncs read = inr syncs
frames_refused Memory s t payloads syncs read = inr syncs
frames_refused NotAJournal s t payloads syncs read = absurd read

module _ (capacity gate : ℕ) (told between : Option DiskState) (goes : Goes (Opens capacity gate) told between) where
  pub reading_refused : (fault : OfficeFault) → Told between (λ s. (payloads : List (List ℕ)) → Shows capacity payloads s.content → IsHistoryIn payloads s.content (Err fault))
      → Goes (RefusesOffice fault) told between
  reading_refused fault read = record {
    silent = goes.silent;
    goes = λ s is.
        let after = goes.goes s is in
        let payloads = after.2.1.0 in
        (after.0, after.1, frames_refused fault s after.0 payloads after.2.0 (read after.0 after.1 payloads after.2.1.1.content));
  }

  module _ (h : List Entry) (read : Told between (λ s. (payloads : List (List ℕ)) → Shows capacity payloads s.content → payloads ≡ frames_of h)) where
    -- the disk holds the history
    stands : (last : ℕ) → last + 1 ≡ used_by h → Told between (Stands capacity last (frames_of h))
    stands last place t is =
        let before = back (Opens capacity gate) told between goes t is in
        let here = before.2.1.1 in
        let all = read t is before.2.1.0 here.content in
        record {
          content = subst (λ (l : List (List ℕ)). Shows capacity l t.content) all here.content;
          images = λ image left. subst (λ (l : List (List ℕ)). Shows capacity l image) all (here.images image left);
          gate_is = omega (arith, place, used-gate h);
        }

    pub opened_holds : {D : Type 0} (j : JournalView D) → j.capacity ≡ capacity → j.gate + 1 ≡ used_by h → j.next ≡ j.gate → j.doubt ≡ false → HoldsHistory between j h
    opened_holds j capacity_is place walked sure = record {
      used = place;
      walked = walked;
      sure = λ _. rw capacity_is (stands j.gate place);
      unsure = λ unsure. absurd (let no : false ≡ true = sym sure ∙ unsure in cc);
    }

    pub opened_since : (last : ℕ) → last + 1 ≡ used_by h → Told between (Since (ShowsFront capacity (length h) h) (time_told between))
    opened_since last place t is =
        rw is (since_opened capacity h t (stands last place t is).images)

    pub opened_office : {D : Type 0} (office : JournaledView D) (last : ℕ) → last + 1 ≡ used_by h → office.journal.capacity ≡ capacity → office.entries ≡ h → office.fixed.since ≡ time_told between
        → Goes (OpensOffice office) told between
    opened_office office last place capacity_is entries since = record {
      silent = goes.silent;
      goes = λ s is.
          let after = goes.goes s is in
          let shows = (stands last place after.0 after.1).content in (
            after.0,
            after.1,
            record {
              syncs = after.2.0;
              shows = rw (capacity_is, entries) (subst (λ (u : DiskState). ShowsHistory capacity h u.content) after.2.0 shows);
              since = since ∙ ap time_told after.1;
            },
          );
    }
