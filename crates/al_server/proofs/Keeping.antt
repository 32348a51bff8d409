-- What an office that was opened and has gone on leaves of its journal.
use Rattle.std.proofs.Common.{◌≡◌, inl, inr, ℕ, ◌≤◌, length, Bool, true, false, Option, [], ◌∷◌, refl, sym, ap, ◌∙◌, subst, arith}
use Rattle.al_disk.specs.Moments.{Since}
use Rattle.al_disk.specs.States.{DiskState, Goes, Told, synced, time}
use Rattle.al_journal.specs.Walks.{LeavesAsBefore}
use Rattle.al_model.specs.declared.kept.Fixed.{Fixed}
use Rattle.al_office.specs.Images.{ShowsFront, ShowsHistory}
use Rattle.al_office.specs.Journaled.{JournaledView, LeavesHistory, journaled_mark}
use Rattle.al_office.specs.Opening.{OpensOffice}
use Rattle.al_turn.specs.Histories.{GoesOn}
use Rattle.al_commands.specs.Sessions.{KeepsJournal, LeavesNow}

module _ {D : Type 0} (office : JournaledView D) where
  -- what the disk showed when the office was opened
  opened : (old new : Option DiskState) → office.fixed.capacity ≡ office.journal.capacity → Goes (OpensOffice office) old new
      → Told old (λ s. ShowsHistory office.fixed.capacity office.entries s.content × (office.fixed.since ≡ time (synced s)))
  opened old new capacity opens s is =
      let there = opens.goes s is in
      (rw capacity there.2.shows, there.2.since ∙ ap time there.2.syncs)

  by_doubt : (s : DiskState) (doubt : Bool) → office.journal.doubt ≡ doubt → LeavesHistory office s → LeavesNow office.journal.capacity office.entries s
  by_doubt s false sure leaves = inl (leaves.sure sure)
  by_doubt s true unsure leaves = inr (leaves.unsure unsure)

  -- what a crash now leaves
  leaves_now : (s : DiskState) → LeavesHistory office s → LeavesNow office.journal.capacity office.entries s
  leaves_now s leaves = by_doubt s office.journal.doubt refl leaves

-- a disk that no call was made on leaves what it left
pub leaves_same : (s : DiskState) → LeavesAsBefore s s
leaves_same s = record { moments = s.now ∷ []; are = refl; later = omega arith; each = (λ image may. may, tt) }

-- an office that was opened, and has gone on to another, keeps the journal
pub keeps_journal : {D : Type 0} (first last : JournaledView D) (old_disk opened_disk new_disk : Option DiskState) (old_faults first_faults last_faults : ℕ)
    → first.fixed.capacity ≡ first.journal.capacity → Goes (OpensOffice first) old_disk opened_disk → first.fixed.length ≡ length first.entries → old_faults ≤ first_faults
    → GoesOn (journaled_mark first_faults first) (journaled_mark last_faults last) → last.fixed.capacity ≡ last.journal.capacity → Told new_disk (LeavesHistory last)
    → Told new_disk (Since (ShowsFront last.fixed.capacity last.fixed.length last.entries) last.fixed.since)
    → KeepsJournal (journaled_mark first_faults first) (journaled_mark last_faults last) (record { old_disk = old_disk; new_disk = new_disk; old_faults = old_faults; new_faults = last_faults })
keeps_journal first last old_disk opened_disk new_disk old_faults first_faults last_faults capacity opens whole later goes last_capacity now since =
    let fixed = goes.same in
    record {
      opened = opened first old_disk opened_disk capacity opens;
      whole = whole;
      now = λ s is. subst (λ (n : ℕ). LeavesNow n last.entries s) (sym last_capacity ∙ ap (λ (f : Fixed). f.capacity) fixed) (leaves_now last s (now s is));
      since = λ s is. subst (λ (f : Fixed). Since (ShowsFront f.capacity f.length last.entries) f.since s) fixed (since s is);
      first_count = later;
      last_count = refl;
    }
