-- What a session leaves of its journal.
use Rattle.std.proofs.Common.{◌≡◌, inl, inr, ℕ, ◌≤◌, length, Bool, true, false, Option, List, [], ◌∷◌, refl, sym, ap, ◌∙◌, subst, arith}
use Rattle.std.specs.List.{AllByRecursion}
use Rattle.al_disk.specs.Moments.{Since}
use Rattle.al_disk.specs.States.{DiskState, Goes, Told, synced, time}
use Rattle.al_http.specs.Services.{Adds, Answers}
use Rattle.al_journal.specs.Walks.{LeavesAsBefore}
use Rattle.al_model.specs.History.{IsLegal}
use Rattle.al_model.specs.declared.kept.Fixed.{Fixed}
use Rattle.al_model.specs.declared.kept.Mark.{Mark}
use Rattle.al_office.specs.Images.{ShowsFront, ShowsHistory}
use Rattle.al_office.specs.Journaled.{JournaledView, LeavesHistory, journaled_mark}
use Rattle.al_office.specs.Opening.{OpensOffice}
use Rattle.al_restconf.specs.Machine.{IsAnswer}
use Rattle.al_serve.proofs.OneHistory.{one_history}
use Rattle.al_serve.specs.Conversations.{IsConversation, Outside}
use Rattle.al_serve.specs.Exchanges.{IsTurn, Turn}
use Rattle.al_serve.specs.declared.conversation.Ending.{Ending}
use Rattle.al_turn.specs.Histories.{GoesOn}
use Rattle.al_commands.specs.Sessions.{HasConversed, KeepsJournal, LeavesNow, session_origin}
use Rattle.al_commands.specs.Statuses.{status_of}

each_adds : (answers : Answers) (origin : ℕ) (turns : List Turn) → AllByRecursion (IsTurn answers origin) turns → AllByRecursion (λ (turn : Turn). Adds origin turn.before turn.after) turns
each_adds answers origin [] all = tt
each_adds answers origin (turn ∷ turns) all = (all.0.adds, each_adds answers origin turns all.1)

-- what a conversation leaves goes on from what it began with
conversation_goes_on : (answers : Answers) (origins : ℕ → Bool) (origin : ℕ) (before after : Mark) (input : Option (List ℕ)) (outside : Outside) (ending : Ending)
    → IsConversation answers origins origin before after input outside ending → GoesOn before after
conversation_goes_on answers origins origin before after input outside ending talk =
    (one_history origins origin before talk.turns after (each_adds answers origin talk.turns talk.exchange.each) talk.exchange.through).goes_on

-- the same conversation, between marks that are equal to these
conversed_at : (answers : Answers) (origins : ℕ → Bool) (origin : ℕ) (seen_before before seen_after after : Mark) (input : Option (List ℕ)) (outside : Outside) (ending : Ending)
    → seen_before ≡ before → after ≡ seen_after → IsConversation answers origins origin seen_before seen_after input outside ending → IsConversation answers origins origin before after input outside ending
conversed_at answers origins origin seen_before before seen_after after input outside ending first last talk =
    subst (λ (m : Mark). IsConversation answers origins origin before m input outside ending) (sym last)
    (subst (λ (m : Mark). IsConversation answers origins origin m seen_after input outside ending) first talk)

module _ {D : Type 0} (office : JournaledView D) where
  -- what the disk showed when the office was opened
  opened : (old new : Option DiskState) → office.fixed.capacity ≡ office.journal.capacity → Goes (OpensOffice office) old new
      → Told old (λ s. ShowsHistory office.fixed.capacity office.entries s.content × (office.fixed.since ≡ time (synced s)))
  opened old new capacity opens s is =
      let there = opens.goes s is in
      (rw capacity there.2.shows, there.2.since ∙ ap time there.2.syncs)

  by_doubt : (s : DiskState) (doubt : Bool) → office.journal.doubt ≡ doubt → LeavesHistory office s → LeavesNow office.journal.capacity office.entries s
  by_doubt s false sure leaves = inl (leaves.sure sure)
  by_doubt s true unsure leaves = inr (leaves.unsure unsure)

  -- what a crash now leaves
  leaves_now : (s : DiskState) → LeavesHistory office s → LeavesNow office.journal.capacity office.entries s
  leaves_now s leaves = by_doubt s office.journal.doubt refl leaves

-- a disk that no call was made on leaves what it left
pub leaves_same : (s : DiskState) → LeavesAsBefore s s
leaves_same s = record { moments = s.now ∷ []; are = refl; later = omega arith; each = (λ image may. may, tt) }

-- What is known of an office behind a conversation.
pub record IsKeptSo {D : Type 0} (told : Option DiskState) (office : JournaledView D) : Type 0 where
  pub legal : IsLegal office.entries
  pub capacity : office.fixed.capacity ≡ office.journal.capacity
  pub now : Told told (LeavesHistory office)
  pub since : Told told (Since (ShowsFront office.fixed.capacity office.fixed.length office.entries) office.fixed.since)

-- What is known of an office that was opened.
pub record IsOpenedSo {D : Type 0} (told opened_told : Option DiskState) (faults opened_faults : ℕ) (office : JournaledView D) : Type 0 where
  pub legal : IsLegal office.entries
  pub capacity : office.fixed.capacity ≡ office.journal.capacity
  pub opens : Goes (OpensOffice office) told opened_told
  pub whole : office.fixed.length ≡ length office.entries
  pub later : faults ≤ opened_faults

module _ {D : Type 0} (first last : JournaledView D) (old_disk opened_disk new_disk : Option DiskState) (old_faults first_faults last_faults : ℕ) where
  -- a session from one office to another keeps the journal
  keeps_journal : IsOpenedSo old_disk opened_disk old_faults first_faults first → GoesOn (journaled_mark first_faults first) (journaled_mark last_faults last) → IsKeptSo new_disk last
      → KeepsJournal (journaled_mark first_faults first) (journaled_mark last_faults last) (record { old_disk = old_disk; new_disk = new_disk; old_faults = old_faults; new_faults = last_faults })
  keeps_journal start goes kept =
      let fixed = goes.same in
      record {
        opened = opened first old_disk opened_disk start.capacity start.opens;
        whole = start.whole;
        now = λ s is. subst (λ (n : ℕ). LeavesNow n last.entries s) (sym kept.capacity ∙ ap (λ (f : Fixed). f.capacity) fixed) (leaves_now last s (kept.now s is));
        since = λ s is. subst (λ (f : Fixed). Since (ShowsFront f.capacity f.length last.entries) f.since s) fixed (kept.since s is);
        first_count = start.later;
        last_count = refl;
      }

  -- and is a conversation over it
  pub has_conversed : (first_seen last_seen : Mark) (input : Option (List ℕ)) (outside : Outside) (ending : Ending) (status : ℕ) → status ≡ status_of ending.cause
      → IsOpenedSo old_disk opened_disk old_faults first_faults first → first_seen ≡ journaled_mark first_faults first → IsConversation IsAnswer (λ _. true) session_origin first_seen last_seen input outside ending
      → journaled_mark last_faults last ≡ last_seen → IsKeptSo new_disk last
      → HasConversed input outside (record { old_disk = old_disk; new_disk = new_disk; old_faults = old_faults; new_faults = last_faults }) status
  has_conversed first_seen last_seen input outside ending status is start seen talk left kept =
      let before = journaled_mark first_faults first in
      let after = journaled_mark last_faults last in
      let same = conversed_at IsAnswer (λ _. true) session_origin first_seen before last_seen after input outside ending seen left talk in
      let goes = conversation_goes_on IsAnswer (λ _. true) session_origin before after input outside ending same in
      record {
        ending = ending;
        status_is = is;
        before = before;
        after = after;
        legal_before = start.legal;
        legal_after = kept.legal;
        fixed = goes.same;
        conversation = same;
        journal = keeps_journal start goes kept;
      }

-- no count falls in a conversation
pub conversation_counts : {D : Type 0} (first last : JournaledView D) (first_faults last_faults : ℕ) (first_seen last_seen : Mark) (input : Option (List ℕ)) (outside : Outside) (ending : Ending)
    → first_seen ≡ journaled_mark first_faults first → IsConversation IsAnswer (λ _. true) session_origin first_seen last_seen input outside ending → journaled_mark last_faults last ≡ last_seen → first_faults ≤ last_faults
conversation_counts first last first_faults last_faults first_seen last_seen input outside ending seen talk left =
    let goes = conversation_goes_on IsAnswer (λ _. true) session_origin first_seen last_seen input outside ending talk in
    omega (arith, goes.counts, ap (λ (m : Mark). m.faults) seen, ap (λ (m : Mark). m.faults) left)
