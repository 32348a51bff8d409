-- From the decision on a request to its answer over a journal.
use Rattle.std.proofs.Common.{◌≡◌, inl, ℕ, Option, Some, List, [], ◌∷◌, Result, Ok, Err, refl, sym, ◌∙◌, ap, subst, arith}
use Rattle.al_disk.specs.States.{DiskState, Goes}
use Rattle.al_disk.proofs.Going.{stays}
use Rattle.al_frame.specs.Frames.{frame_of}
use Rattle.al_journal.specs.Views.{JournalView}
use Rattle.al_journal.proofs.Gates.{staged_shows}
use Rattle.al_model.specs.Decision.{decision_of, entry_of}
use Rattle.al_model.specs.History.{replay}
use Rattle.al_model.specs.State.{State}
use Rattle.al_model.specs.declared.decision.Decision.{Decision}
use Rattle.al_model.specs.declared.decision.Decision.TheVariants.{Refuse, Same, Change}
use Rattle.al_model.specs.declared.decision.Refusal.{Refusal}
use Rattle.al_model.specs.declared.decision.Refusal.TheVariants as refusals
use Rattle.al_model.specs.declared.decision.Reply.{Reply}
use Rattle.al_model.specs.declared.entry.Entry.{Entry}
use Rattle.al_model.specs.declared.event.Event.{Event}
use Rattle.al_model.specs.declared.request.Request.{Request}
use Rattle.al_model.proofs.Refusing.{never_refuses}
use Rattle.al_office.specs.Changing.{Ended, IsDecided, IsWritten, Leaves, LeavesNear, Writes}
use Rattle.al_office.specs.Images.{frames_of}
use Rattle.al_office.specs.Journaled.{HoldsHistory, IsInDoubt, JournaledView}
use Rattle.al_office.specs.Ledger.{carried_out}
use Rattle.al_office.proofs.Holding.{near_is}
use Rattle.al_office.proofs.Settling.{stands_near}

-- ---- nothing was done

doubt_near : {D : Type 0} (j : JournalView D) (h : List Entry) (refused : Entry) (s : DiskState) → IsInDoubt j h refused s → LeavesNear j.capacity h refused s s
doubt_near j h refused s doubt = record {
  moments = s.now ∷ [];
  are = refl;
  later = omega arith;
  each = (λ image left. near_is j.capacity h refused image (staged_shows j.capacity (frames_of h) (frame_of refused) image (doubt.staged.images image left)), tt);
}

pub still_writes : {D : Type 0} (told : Option DiskState) (j : JournalView D) (h : List Entry) (e : Entry) → HoldsHistory told j h → (s : DiskState) → told ≡ Some s → Writes j h e s s
still_writes told j h e holds s is = record {
  sure = λ sure. stands_near j h e s (holds.sure sure s is);
  unsure = λ unsure refused doubt. inl (doubt_near j h refused s doubt);
}

-- a request that did nothing
pub nothing_left : {D : Type 0} (told new : Option DiskState) (office : JournaledView D) (origin now : ℕ) (d : Decision) → HoldsHistory told office.journal office.entries → new ≡ told → Goes (Leaves office origin now d) told new
nothing_left told new office origin now (Refuse refusal) holds same = stays (Leaves office origin now (Refuse refusal)) told new same (λ s is. refl)
nothing_left told new office origin now (Same reply) holds same = stays (Leaves office origin now (Same reply)) told new same (λ s is. refl)
nothing_left told new office origin now (Change event reply) holds same =
    stays (Leaves office origin now (Change event reply)) told new same
    (λ s is. still_writes told office.journal office.entries (entry_of (replay office.entries) origin event now) holds s is)

-- what is answered at once
pub told_at_once : {D : Type 0} (old new : JournaledView D) (origin now : ℕ) (d : Decision) (answer : Result Reply Refusal) → Err answer ≡ carried_out (replay old.entries) origin now d → new ≡ old → IsDecided old origin now d answer new
told_at_once old new origin now (Refuse refusal) answer is same = (let e : answer ≡ Err refusal = cc in e, same)
told_at_once old new origin now (Same reply) answer is same = (let e : answer ≡ Ok reply = cc in e, same)
told_at_once old new origin now (Change event reply) answer is same = absurd (let no : Err answer ≡ Ok (entry_of (replay old.entries) origin event now, reply) = is in cc)

-- no decision answers that the disk failed
disk_is : (s : State) (origin now : ℕ) (d : Decision) → Err (Err refusals.Disk) ≡ carried_out s origin now d → d ≡ Refuse refusals.Disk
disk_is s origin now (Refuse refusal) is = cc
disk_is s origin now (Same reply) is = cc
disk_is s origin now (Change event reply) is = cc

pub never_disk : (s : State) (origin : ℕ) (request : Request) (now : ℕ) (answer : Result Reply Refusal) → Err answer ≡ carried_out s origin now (decision_of s request now) → answer ≡ Err refusals.Disk → ⊥
never_disk s origin request now answer is disk =
    let refused = disk_is s origin now (decision_of s request now) (ap (λ (a : Result Reply Refusal). Err a) (sym disk) ∙ is) in
    (never_refuses s request now).1 refused

-- ---- a change

-- a decision that is carried out by this entry
pub record IsBy (s : State) (origin now : ℕ) (d : Decision) (entry : Entry) (reply : Reply) : Type 0 where
  pub event : Event
  pub change : d ≡ Change event reply
  pub entry_is : entry ≡ entry_of s origin event now

pub change_by : (s : State) (origin now : ℕ) (d : Decision) (entry : Entry) (reply : Reply) → Ok (entry, reply) ≡ carried_out s origin now d → IsBy s origin now d entry reply
change_by s origin now (Refuse refusal) entry reply is = absurd (let no : Ok (entry, reply) ≡ Err (Err refusal) = is in cc)
change_by s origin now (Same given) entry reply is = absurd (let no : Ok (entry, reply) ≡ Err (Ok given) = is in cc)
change_by s origin now (Change event given) entry reply is =
    let both : (entry, reply) ≡ (entry_of s origin event now, given) = cc in
    record {
      event = event;
      change = ap (λ r. Change event r) (sym (ap (λ (p : Entry × Reply). p.1) both));
      entry_is = ap (λ (p : Entry × Reply). p.0) both;
    }

-- a refusal is the same whatever the reply would have been
refused_for : {D : Type 0} (old new : JournaledView D) (entry : Entry) (reply : Reply) (refusal : Refusal) → Ended {A = Unit {0}} old entry tt (Err refusal) new → Ended old entry reply (Err refusal) new
refused_for old new entry reply refusals.Memory ended = ended
refused_for old new entry reply refusals.JournalFull ended = ended
refused_for old new entry reply refusals.Disk ended = ended
refused_for old new entry reply _ ended = ended

module _ {D : Type 0} (old new : JournaledView D) (origin now : ℕ) (d : Decision) (entry : Entry) (reply : Reply) (by : IsBy (replay old.entries) origin now d entry reply) where
  pub change_done : IsWritten old entry new → IsDecided old origin now d (Ok reply) new
  change_done written = rw (by.change) (refl, subst (λ e. IsWritten old e new) by.entry_is written)

  pub change_refused : (refusal : Refusal) → Ended {A = Unit {0}} old entry tt (Err refusal) new → IsDecided old origin now d (Err refusal) new
  change_refused refusal ended =
      rw (by.change) (subst (λ e. Ended old e reply (Err refusal) new) by.entry_is (refused_for old new entry reply refusal ended))

  pub change_left : (told told' : Option DiskState) → Goes (Writes old.journal old.entries entry) told told' → Goes (Leaves old origin now d) told told'
  change_left told told' goes =
      rw (by.change) (subst (λ e. Goes (Writes old.journal old.entries e) told told') by.entry_is goes)
