-- What the type of the office keeps when an entry was written, or refused.
use Rattle.std.proofs.Common.{◌≡◌, inl, inr, ℕ, ◌≤◌, true, false, Option, Some, List, [], ◌∷◌, ◌++◌, length, sym, ◌∙◌, arith, length-append}
use Rattle.std.proofs.lemmas.Bool.{cases_Bool}
use Rattle.al_disk.specs.Moments.{Since}
use Rattle.al_disk.specs.States.{DiskState, Goes, Told}
use Rattle.al_disk.proofs.Going.{back}
use Rattle.al_journal.specs.Views.{JournalView}
use Rattle.al_journal.proofs.Gates.{staged_shows}
use Rattle.al_frame.specs.Frames.{frame_of}
use Rattle.al_model.specs.History.{Fits, replay}
use Rattle.al_model.specs.declared.entry.Entry.{Entry}
use Rattle.al_office.specs.Changing.{Writes}
use Rattle.al_office.specs.Images.{ShowsFront, frames_of}
use Rattle.al_office.specs.Journaled.{HoldsHistory, IsKeptOn, JournaledView, LeavesHistory}
use Rattle.al_office.proofs.Holding.{near_is, since_near, since_push}

module _ {D : Type 0} (told : Option DiskState) (j : JournalView D) (h : List Entry) (e : Entry) (least since : ℕ) (holds : HoldsHistory told j h) (long : least ≤ length h) (fits : Fits (replay h) e)
    (s t : DiskState) (is : told ≡ Some s) (writes : Writes j h e s t) (before : Since (ShowsFront j.capacity least h) since s) where
  since_sure : j.doubt ≡ false → Since (ShowsFront j.capacity least h) since t
  since_sure sure = since_near j.capacity least since h e s t long fits before (writes.sure sure)

  since_unsure : j.doubt ≡ true → Since (ShowsFront j.capacity least h) since t
  since_unsure unsure =
      let there = holds.unsure unsure s is in
      elim (writes.unsure unsure there.0 there.1) [
        | inl near ↦ since_near j.capacity least since h there.0 s t long there.1.fits before near
        | inr steps ↦ since_near j.capacity least since h e steps.0 t long fits (since_near j.capacity least since h there.0 s steps.0 long there.1.fits before steps.1) steps.2
      ]

  pub since_writes : Since (ShowsFront j.capacity least h) since t
  since_writes = elim (cases_Bool j.doubt) [ inl unsure ↦ since_unsure unsure | inr sure ↦ since_sure sure ]

module _ {D : Type 0} (told new : Option DiskState) (office : JournaledView D) (e : Entry) (kept : IsKeptOn told office) (fits : Fits (replay office.entries) e)
    (goes : Goes (Writes office.journal office.entries e) told new) (journal : JournalView D) (capacity : journal.capacity ≡ office.journal.capacity) where
  since_then : Told new (Since (ShowsFront office.fixed.capacity office.fixed.length office.entries) office.fixed.since)
  since_then t is =
      let before = back (Writes office.journal office.entries e) told new goes t is in
      let front = kept.since before.0 before.1 in
      rw (kept.capacity)
      (since_writes told office.journal office.entries e office.fixed.length office.fixed.since kept.holds kept.longer fits before.0 t before.1 before.2 (rw (kept.capacity) at front))

  -- the entry was refused
  pub kept_refused : HoldsHistory new journal office.entries → IsKeptOn new (record office { journal = journal })
  kept_refused holds = record { holds = holds; capacity = kept.capacity ∙ sym capacity; longer = kept.longer; since = since_then }

  -- the entry was written
  pub kept_written : HoldsHistory new journal (office.entries ++ e ∷ []) → IsKeptOn new (record office { entries = office.entries ++ e ∷ []; journal = journal })
  kept_written holds = record {
    holds = holds;
    capacity = kept.capacity ∙ sym capacity;
    longer = omega (arith, kept.longer, length-append office.entries (e ∷ []));
    since = λ t is. since_push office.fixed.capacity office.fixed.length office.fixed.since office.entries e t (since_then t is);
  }

-- what a crash leaves of an office
pub leaves_history : {D : Type 0} (told : Option DiskState) (office : JournaledView D) → HoldsHistory told office.journal office.entries → Told told (LeavesHistory office)
leaves_history told office holds s is = record {
  sure = λ sure. (holds.sure sure s is).images;
  unsure = λ unsure.
      let there = holds.unsure unsure s is in (
        there.0,
        there.1.fits,
        λ image left. near_is office.journal.capacity office.entries there.0 image
            (staged_shows office.journal.capacity (frames_of office.entries) (frame_of there.0) image (there.1.staged.images image left)),
      );
}
