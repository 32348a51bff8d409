-- What settling and a commit leave of a journal that holds a history.
use Rattle.std.proofs.Common.{◌≡◌, inl, inr, ℕ, ◌+◌, Bool, true, false, Option, List, [], ◌∷◌, ◌++◌, length, Result, Ok, Err, OnErr, refl, sym, ◌∙◌, ap, subst, arith}
use Rattle.std.proofs.lemmas.Bool.{cases_Bool}
use Rattle.al_disk.specs.States.{DiskState, Goes}
use Rattle.al_disk.proofs.Going.{back, so_goes, stays}
use Rattle.al_frame.specs.Frames.{frame_of}
use Rattle.al_journal.specs.Calls.{Commits, Committed, Settles, Settled as EndedSettling}
use Rattle.al_journal.specs.Views.{InDoubt, JournalView, Stands}
use Rattle.al_journal.specs.declared.faults.CommitFault.{CommitFault}
use Rattle.al_journal.specs.declared.faults.CommitFault.TheVariants.{Disk, Full}
use Rattle.al_model.specs.History.{Fits, replay}
use Rattle.al_model.specs.declared.entry.Entry.{Entry}
use Rattle.al_office.specs.Changing.{LeavesNear, Writes}
use Rattle.al_office.specs.Images.{frames_of}
use Rattle.al_office.specs.Journaled.{HoldsHistory, IsInDoubt}
use Rattle.al_office.specs.Writing.{HoldsAfter}
use Rattle.al_office.proofs.Holding.{frames-push, near_between, used-push}

-- each image at a state that holds the history shows it
pub stands_near : {D : Type 0} (j : JournalView D) (h : List Entry) (e : Entry) (s : DiskState) → Stands j.capacity j.gate (frames_of h) s → LeavesNear j.capacity h e s s
stands_near j h e s stands = record {
  moments = s.now ∷ [];
  are = refl;
  later = omega arith;
  each = (λ image left. inl (stands.images image left), tt);
}

-- what a settled journal leaves: where there was no doubt, what was there; else the history, by moments near it
pub record Settled {D : Type 0} (j : JournalView D) (h : List Entry) (s t : DiskState) : Type 0 where
  pub stands : Stands j.capacity j.gate (frames_of h) t
  pub idle : j.doubt ≡ false → t ≡ s
  pub doubted : j.doubt ≡ true → (refused : Entry) → IsInDoubt j h refused s → LeavesNear j.capacity h refused s t

-- the call of settling, by its clause
abbrev pub Settling : {D : Type 0} → JournalView D → Result (Unit {0}) CommitFault → Bool → DiskState → DiskState → Type 0
Settling j result doubt s t =
    (payloads : List (List ℕ)) (payload : List ℕ) → InDoubt j.capacity j.gate payloads payload s → Settles j.capacity j.gate result doubt payloads payload s t

-- there was a doubt where it isn't that there was none
pub is_doubted : (doubt : Bool) → (doubt ≡ false → ⊥) → doubt ≡ true
is_doubted true never = refl
is_doubted false never = absurd (never refl)

not_sure : (doubt : Bool) → doubt ≡ true → doubt ≡ false → ⊥
not_sure doubt unsure sure = let no : false ≡ true = sym sure ∙ unsure in cc

still_staged : (capacity gate : ℕ) (fault : CommitFault) (doubt : Bool) (payloads : List (List ℕ)) (payload : List ℕ) (t : DiskState) → EndedSettling capacity gate (Err fault) doubt payloads payload t → InDoubt capacity gate payloads payload t
still_staged capacity gate Full doubt payloads payload t ended = absurd ended
still_staged capacity gate Disk doubt payloads payload t ended = ended.1

module _ {D : Type 0} (told between : Option DiskState) (j : JournalView D) (h : List Entry) (holds : HoldsHistory told j h) where
  idle_goes : j.doubt ≡ false → between ≡ told → Goes (Settled j h) told between
  idle_goes sure same = stays (Settled j h) told between same (λ s is. record {
    stands = holds.sure sure s is;
    idle = λ _. refl;
    doubted = λ unsure. absurd (not_sure j.doubt unsure sure);
  })

  doubt_goes : (doubt : Bool) → j.doubt ≡ true → Goes (Settling j (Ok tt) doubt) told between → Goes (Settled j h) told between
  doubt_goes doubt unsure goes = so_goes (Settling j (Ok tt) doubt) (Settled j h) told between goes (λ s t is settles.
      let there = holds.unsure unsure s is in
      let first = settles (frames_of h) (frame_of there.0) there.1.staged in
      record {
        stands = first.ended.1;
        idle = λ sure. absurd (not_sure j.doubt unsure sure);
        doubted = λ _ refused in_doubt. near_between j.capacity h refused s t (settles (frames_of h) (frame_of refused) in_doubt.staged).moments;
      })

  -- it was settled
  pub settled_goes : (doubt : Bool) → (j.doubt ≡ true → Goes (Settling j (Ok tt) doubt) told between) → (j.doubt ≡ false → between ≡ told) → Goes (Settled j h) told between
  settled_goes doubt goes same = elim (cases_Bool j.doubt) [
    | inl unsure ↦ doubt_goes doubt unsure (goes unsure)
    | inr sure ↦ idle_goes sure (same sure)
  ]

  module _ (k : JournalView D) (same : k ≡ record j { disk = k.disk; doubt = k.doubt }) where
    pub settled_holds : k.doubt ≡ false → Goes (Settled j h) told between → HoldsHistory between k h
    settled_holds sure goes =
        let holds_there : HoldsHistory between (record j { disk = k.disk; doubt = k.doubt }) h = record {
          used = holds.used;
          walked = holds.walked;
          sure = λ _ t is. (back (Settled j h) told between goes t is).2.stands;
          unsure = λ unsure. absurd (not_sure k.doubt unsure sure);
        } in
        subst (λ (v : JournalView D). HoldsHistory between v h) (sym same) holds_there

    -- the disk failed, and the journal is still in doubt
    pub unsettled_holds : (fault : CommitFault) → k.doubt ≡ j.doubt → j.doubt ≡ true → Goes (Settling j (Err fault) k.doubt) told between → HoldsHistory between k h
    unsettled_holds fault still unsure goes =
        let holds_there : HoldsHistory between (record j { disk = k.disk; doubt = k.doubt }) h = record {
          used = holds.used;
          walked = holds.walked;
          sure = λ sure. absurd (not_sure j.doubt unsure (sym still ∙ sure));
          unsure = λ _ t is.
              let before = back (Settling j (Err fault) k.doubt) told between goes t is in
              let there = holds.unsure unsure before.0 before.1 in
              let first = before.2 (frames_of h) (frame_of there.0) there.1.staged in
              (there.0, record { fits = there.1.fits; staged = still_staged j.capacity j.gate fault k.doubt (frames_of h) (frame_of there.0) t first.ended });
        } in
        subst (λ (v : JournalView D). HoldsHistory between v h) (sym same) holds_there

  pub unsettled_writes : (e : Entry) (fault : CommitFault) (doubt : Bool) → j.doubt ≡ true → Goes (Settling j (Err fault) doubt) told between → Goes (Writes j h e) told between
  unsettled_writes e fault doubt unsure goes = so_goes (Settling j (Err fault) doubt) (Writes j h e) told between goes (λ s t is settles. record {
    sure = λ sure. absurd (not_sure j.doubt unsure sure);
    unsure = λ _ refused in_doubt. inl (near_between j.capacity h refused s t (settles (frames_of h) (frame_of refused) in_doubt.staged).moments);
  })

-- nothing was written behind settling
pub full_writes : {D : Type 0} (j : JournalView D) (h : List Entry) (e : Entry) (s t : DiskState) → Settled j h s t → Writes j h e s t
full_writes j h e s t settled = record {
  sure = λ sure. subst (λ (u : DiskState). LeavesNear j.capacity h e u t) (settled.idle sure) (stands_near j h e t settled.stands);
  unsure = λ unsure refused in_doubt. inr (t, settled.doubted unsure refused in_doubt, stands_near j h e t settled.stands);
}

-- an entry was written behind settling, or a part of that was done
then_writes : {D : Type 0} (j : JournalView D) (h : List Entry) (e : Entry) (s t u : DiskState) → Settled j h s t → LeavesNear j.capacity h e t u → Writes j h e s u
then_writes j h e s t u settled near = record {
  sure = λ sure. subst (λ (v : DiskState). LeavesNear j.capacity h e v u) (settled.idle sure) near;
  unsure = λ unsure refused in_doubt. inr (t, settled.doubted unsure refused in_doubt, near);
}

-- the call of a commit, by its clause
abbrev pub Committing : ℕ → ℕ → List ℕ → Result (Unit {0}) CommitFault → Bool → DiskState → DiskState → Type 0
Committing capacity gate payload result doubt s t =
    (payloads : List (List ℕ)) → Stands capacity gate payloads s → Commits capacity gate payload result doubt payloads s t

-- a commit behind settling leaves the history, with the entry or without it
pub commit_writes : {D : Type 0} (j k : JournalView D) (h : List Entry) (e : Entry) (payload : List ℕ) (result : Result (Unit {0}) CommitFault) (doubt : Bool) (s t u : DiskState)
    → k ≡ record j { disk = k.disk; doubt = k.doubt } → payload ≡ frame_of e → Settled j h s t → Committing k.capacity k.gate payload result doubt t u → Writes j h e s u
commit_writes j k h e payload result doubt s t u same is settled commits =
    let capacity : k.capacity ≡ j.capacity = ap (λ v. v.capacity) same in
    let gate : k.gate ≡ j.gate = ap (λ v. v.gate) same in
    let here : Committing j.capacity j.gate (frame_of e) result doubt t u = rw (capacity, gate, is) at commits in
    then_writes j h e s t u settled (near_between j.capacity h e t u (here (frames_of h) settled.stands).moments)

module _ {D : Type 0} (told between : Option DiskState) (j k : JournalView D) (h : List Entry) (e : Entry) (holds : HoldsHistory told j h) (sure : j.doubt ≡ false)
    (walked : k.next ≡ k.gate) (capacity : k.capacity ≡ j.capacity) where
  written_holds : (done : Unit {0}) → k.gate ≡ j.gate + 5 + length (frame_of e) → k.doubt ≡ false → Goes (Committing j.capacity j.gate (frame_of e) (Ok done) k.doubt) told between → HoldsHistory between k (h ++ e ∷ [])
  written_holds done gate settled goes = record {
    used = omega (arith, gate, holds.used, used-push h e);
    walked = walked;
    sure = λ _ t is.
        let before = back (Committing j.capacity j.gate (frame_of e) (Ok done) k.doubt) told between goes t is in
        let commits = before.2 (frames_of h) (holds.sure sure before.0 before.1) in
        rw (capacity, gate, frames-push h e) commits.ended.1;
    unsure = λ unsure. absurd (not_sure k.doubt unsure settled);
  }

  refused_holds : k.gate ≡ j.gate → Fits (replay h) e → Goes (Committing j.capacity j.gate (frame_of e) (Err Disk) k.doubt) told between → HoldsHistory between k h
  refused_holds gate fits goes = record {
    used = omega (arith, gate, holds.used);
    walked = walked;
    sure = λ doubt t is.
        let before = back (Committing j.capacity j.gate (frame_of e) (Err Disk) k.doubt) told between goes t is in
        let commits = before.2 (frames_of h) (holds.sure sure before.0 before.1) in
        let here : Stands j.capacity j.gate (frames_of h) t =
        subst (λ (b : Bool). Committed j.capacity j.gate (frame_of e) (Err Disk) b (frames_of h) before.0 t) doubt commits.ended in
        rw (capacity, gate) here;
    unsure = λ doubt t is.
        let before = back (Committing j.capacity j.gate (frame_of e) (Err Disk) k.doubt) told between goes t is in
        let commits = before.2 (frames_of h) (holds.sure sure before.0 before.1) in
        let here : InDoubt j.capacity j.gate (frames_of h) (frame_of e) t =
        subst (λ (b : Bool). Committed j.capacity j.gate (frame_of e) (Err Disk) b (frames_of h) before.0 t) doubt commits.ended in
        (e, record { fits = fits; staged = rw (capacity, gate) here });
  }

  -- how a commit left the journal
  pub commit_holds : (result : Result (Unit {0}) CommitFault) (payload : List ℕ) → payload ≡ frame_of e → Fits (replay h) e → Goes (Committing j.capacity j.gate payload result k.doubt) told between
      → (result ≡ Ok tt → (k.gate ≡ j.gate + 5 + length payload) × (k.doubt ≡ false)) → OnErr result (k.gate ≡ j.gate)
      → (result ≡ Err Full → k ≡ j) → (k ≡ j → between ≡ told) → HoldsAfter between k h e result
  commit_holds (Ok done) payload is fits goes ok refused full same =
      let ended = ok refl in
      written_holds done (rw is at ended.0) ended.1 (rw is at goes)
  commit_holds (Err Disk) payload is fits goes ok refused full same = refused_holds refused fits (rw is at goes)
  commit_holds (Err Full) payload is fits goes ok refused full same =
      let there = full refl in
      subst (λ (v : JournalView D). HoldsHistory between v h) (sym there) (subst (λ (o : Option DiskState). HoldsHistory o j h) (sym (same there)) holds)
