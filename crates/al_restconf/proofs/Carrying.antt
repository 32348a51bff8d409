-- From what the office did with a request to what the machine says of it.
use Rattle.std.proofs.Common.{◌≡◌, ◌⊎◌, inl, inr, ℕ, ◌+◌, ◌≤◌, Bool, true, false, Result, Ok, Err, List, [], ◌∷◌, length, refl, sym, ap, ◌∙◌, arith}
use Rattle.std.specs.Prelude.{All, nat_le}
use Rattle.std.proofs.lemmas.Bool.{le-leb, leb-true}
use Rattle.std.proofs.lemmas.List.{append-nil}
use Rattle.std.proofs.lemmas.List.Elements.{All-from_recursion}
use Rattle.al_base.specs.Outside.{Rose}
use Rattle.al_frame.specs.Frames.{frame_of}
use Rattle.al_http.specs.Requests.{RequestMessage}
use Rattle.al_http.specs.Services.{Adds}
use Rattle.al_http.specs.declared.response.Response.{Response}
use Rattle.al_model.specs.Decision.{decision_of, entry_of}
use Rattle.al_model.specs.History.{replay}
use Rattle.al_model.specs.declared.decision.Decision.{Decision}
use Rattle.al_model.specs.declared.decision.Decision.TheVariants.{Refuse, Same, Change}
use Rattle.al_model.specs.declared.decision.Refusal.{Refusal}
use Rattle.al_model.specs.declared.decision.Refusal.TheVariants as refusals
use Rattle.al_model.specs.declared.decision.Reply.{Reply}
use Rattle.al_model.specs.declared.entry.Entry.{Entry}
use Rattle.al_model.specs.declared.event.Event.{Event}
use Rattle.al_model.specs.declared.kept.Mark.{Mark}
use Rattle.al_model.specs.declared.request.Request.{Request}
use Rattle.al_office.specs.Changing.{Ended, HasRoom, IsAnswer as IsOfficeAnswer, IsDecided}
use Rattle.al_office.specs.Images.{used_by}
use Rattle.al_office.specs.Journaled.{JournaledView, journaled_mark}
use Rattle.al_base.specs.Answers.{AnswersBy, and_then}
use Rattle.al_uri.specs.declared.target.Target.{Target}
use Rattle.al_restconf.specs.Changes.{Answer, Verdict, Tell, Carries, HasDiskFailed, IsCarriedOut, IsRefused, changed, decided, in_journal, journaled, success}
use Rattle.al_restconf.specs.Faults.{IsDue, refused, told}
use Rattle.al_restconf.specs.Machine.{IsAnswer, answer_of, barely, is_head, only_read, verdict_of}
use Rattle.al_restconf.specs.declared.fault.Fault.{Fault}
use Rattle.al_restconf.specs.declared.fault.Fault.TheVariants.{Memory}

-- ---- faults

-- a fault is due where it is said
pub due_self : (A : Type 0) (fault : Fault) → IsDue {A = A} (Err fault) fault
due_self A Memory = tt
due_self A fault = refl

-- the fault of the first reading is that of both
pub due_then : {A B : Type 0} (said : Result A Fault) (read : A → Result B Fault) (fault : Fault) → IsDue said fault → IsDue (and_then said read) fault
due_then said read Memory due = tt
due_then said read fault due = ap (λ s. and_then s read) due

-- a fault that is due and isn't want of memory is said
pub due_said : {A : Type 0} (said : Result A Fault) (fault : Fault) → ¬ (fault ≡ Memory) → IsDue said fault → said ≡ Err fault
due_said said Memory other due = absurd (other refl)
due_said said fault other due = due

-- a fault that is due is so over a journal
pub due_journaled : (before : Mark) (said : Result Verdict Fault) (fault : Fault) → IsDue said fault → IsDue (journaled before said) fault
due_journaled before said fault due = due_then said (in_journal before.fixed.capacity before.entries) fault due

-- ---- entries

none_own : (origin : ℕ) → All (λ (entry : Entry). entry.origin ≡ origin) []
none_own origin = All-from_recursion (λ (entry : Entry). entry.origin ≡ origin) [] tt

one_own : (origin : ℕ) (entry : Entry) → entry.origin ≡ origin → All (λ (entry : Entry). entry.origin ≡ origin) (entry ∷ [])
one_own origin entry own = All-from_recursion (λ (entry : Entry). entry.origin ≡ origin) (entry ∷ []) (own, tt)

-- ---- the journal

by_room : (a b : ℕ) (test : Bool) → nat_le a b ≡ test → (a ≤ b → ⊥) → test ≡ false
by_room a b true is full = absurd (full (leb-true a b is))
by_room a b false is full = refl

has_room : (capacity : ℕ) (before : List Entry) (entry : Entry) → HasRoom capacity before entry → nat_le (used_by before + 5 + length (frame_of entry)) capacity ≡ true
has_room capacity before entry room = le-leb (used_by before + 5 + length (frame_of entry)) capacity room

has_no_room : (capacity : ℕ) (before : List Entry) (entry : Entry) → (HasRoom capacity before entry → ⊥) → nat_le (used_by before + 5 + length (frame_of entry)) capacity ≡ false
has_no_room capacity before entry none = by_room (used_by before + 5 + length (frame_of entry)) capacity _ refl none

-- ---- changes

module _ {D : Type 0} (old new : JournaledView D) (faults counted : ℕ) (origin now : ℕ) (target : Target) (request : Request) where
  -- what is known before and after
  abbrev before : Mark
  before = journaled_mark faults old

  abbrev after : Mark
  after = journaled_mark counted new

  abbrev told_by : Reply → Response
  told_by reply = success (length old.entries) target request reply

  -- the decision, as the machine says it
  abbrev said : Decision → Result Verdict Fault
  said d = decided old.entries origin now target request d

  -- ---- a decision that was carried out

  changed_by : (event : Event) (answer reply : Reply) → old.fixed.capacity ≡ old.journal.capacity → Ended old (entry_of (replay old.entries) origin event now) answer (Ok reply) new → IsCarriedOut before after origin (said (Change event answer)) (told_by reply)
  changed_by event answer reply capacity ended =
      let entry : Entry = entry_of (replay old.entries) origin event now in
      let room : nat_le (used_by old.entries + 5 + length (frame_of entry)) old.fixed.capacity ≡ true = rw capacity (has_room old.journal.capacity old.entries entry ended.1.room) in
      record {
        entries = entry ∷ [];
        is = rw (room, ended.0) refl;
        grown = ended.1.entries;
        own = one_own origin entry refl;
        few = omega arith;
      }

  done_by : (d : Decision) (reply : Reply) → old.fixed.capacity ≡ old.journal.capacity → IsDecided old origin now d (Ok reply) new → IsCarriedOut before after origin (said d) (told_by reply)
  done_by (Refuse refusal) reply capacity decided = absurd (let no = decided.0 in cc)
  done_by (Same same) reply capacity decided =
      let e : same ≡ reply = (let is = decided.0 in cc) in
      record {
        entries = [];
        is = rw e refl;
        grown = ap (λ (o : JournaledView D). o.entries) decided.1 ∙ sym (append-nil old.entries);
        own = none_own origin;
        few = omega arith;
      }
  done_by (Change event answer) reply capacity decided = changed_by event answer reply capacity decided

  pub carries_done : (reply : Reply) (response : Response) → old.fixed.capacity ≡ old.journal.capacity → IsOfficeAnswer old origin request now (Ok reply) new → response ≡ told_by reply → Carries before after origin (changed old.entries origin now target request) (Ok response)
  unfolding changed
  carries_done reply response capacity answer told = rw told (done_by (decision_of (replay old.entries) request now) reply capacity answer)

  -- ---- a decision that refuses, or a change that was refused

  unchanged_by : (event : Event) (answer : Reply) (refusal : Refusal) → old.fixed.capacity ≡ old.journal.capacity → (refusal ≡ refusals.Disk → Rose faults counted) → Ended old (entry_of (replay old.entries) origin event now) answer (Err refusal) new → IsRefused before after (said (Change event answer)) (refused refusal)
  unchanged_by event answer refusals.Memory capacity rose ended =
      record { is = inl tt; same = ap (λ (o : JournaledView D). o.entries) ended }
  unchanged_by event answer refusals.JournalFull capacity rose ended =
      let entry : Entry = entry_of (replay old.entries) origin event now in
      let full : nat_le (used_by old.entries + 5 + length (frame_of entry)) old.fixed.capacity ≡ false = rw capacity (has_no_room old.journal.capacity old.entries entry ended.no_room) in
      record { is = inl (rw full refl); same = ended.entries }
  unchanged_by event answer refusals.Disk capacity rose ended =
      record {
        is = inr (record { fault_is = refl; adding = (entry_of (replay old.entries) origin event now, told_by answer, refl); rose = rose refl });
        same = ended;
      }
  unchanged_by event answer refusal capacity rose ended = absurd ended

  refused_by : (d : Decision) (refusal : Refusal) → old.fixed.capacity ≡ old.journal.capacity → (refusal ≡ refusals.Disk → Rose faults counted) → IsDecided old origin now d (Err refusal) new → IsRefused before after (said d) (refused refusal)
  refused_by (Refuse other) refusal capacity rose decided =
      let e : other ≡ refusal = (let is = decided.0 in cc) in
      record { is = inl (rw e (due_self Answer (refused refusal))); same = ap (λ (o : JournaledView D). o.entries) decided.1 }
  refused_by (Same same) refusal capacity rose decided = absurd (let no = decided.0 in cc)
  refused_by (Change event answer) refusal capacity rose decided = unchanged_by event answer refusal capacity rose decided

  pub carries_refused : (refusal : Refusal) → old.fixed.capacity ≡ old.journal.capacity → (refusal ≡ refusals.Disk → Rose faults counted) → IsOfficeAnswer old origin request now (Err refusal) new → Carries before after origin (changed old.entries origin now target request) (Err (refused refusal))
  unfolding changed
  carries_refused refusal capacity rose answer = refused_by (decision_of (replay old.entries) request now) refusal capacity rose answer

-- ---- what is not carried out

-- a fault that is due before anything is done
pub carries_fault : (before : Mark) (origin : ℕ) (said : Result Verdict Fault) (fault : Fault) → IsDue said fault → IsRefused before before said fault
carries_fault before origin said fault due = record { is = inl (due_journaled before said fault due); same = refl }

-- a read adds nothing
pub carries_read : (before : Mark) (origin : ℕ) (said : Result Response Fault) (result : Result Response Fault) → AnswersBy IsDue said result → Carries before before origin (only_read said) result
carries_read before origin said (Ok response) is =
    record { entries = []; is = rw is refl; grown = sym (append-nil before.entries); own = none_own origin; few = omega arith }
carries_read before origin said (Err fault) due =
    record { is = inl (due_journaled before (only_read said) fault (due_then said (λ response. Ok (Tell response)) fault due)); same = refl }

-- ---- the whole answer

module _ (before after : Mark) (origin : ℕ) (request : RequestMessage) (reading : ℕ) where
  pub answers_done : (response : Response) → IsCarriedOut before after origin (verdict_of before.entries origin reading request) response → IsAnswer before origin request reading (barely (is_head request) response) after
  unfolding answer_of
  answers_done response done = inl (record { response_is = rw done.is refl; grown = rw done.is done.grown })

  by_fault : (fault : Fault) → ¬ (fault ≡ Memory) → after.entries ≡ before.entries
      → IsDue (journaled before (verdict_of before.entries origin reading request)) fault ⊎ HasDiskFailed before after (verdict_of before.entries origin reading request) fault
      → IsAnswer before origin request reading (barely (is_head request) (told (length before.entries) fault)) after
  unfolding answer_of
  by_fault fault other same (inl due) =
      let said : journaled before (verdict_of before.entries origin reading request) ≡ Err fault = due_said _ fault other due in
      inl (record { response_is = rw said refl; grown = rw said (same ∙ sym (append-nil before.entries)) })
  by_fault fault other same (inr failed) =
      inr (record { response_is = rw failed.fault_is refl; adding = failed.adding; rose = failed.rose; same = same })

  pub answers_told : (fault : Fault) → ¬ (fault ≡ Memory) → IsRefused before after (verdict_of before.entries origin reading request) fault → IsAnswer before origin request reading (barely (is_head request) (told (length before.entries) fault)) after
  answers_told fault other refused = by_fault fault other refused.same refused.is

-- one entry at most is added
pub adds_one : (before after : Mark) (origin : ℕ) (said : Result Verdict Fault) (result : Result Response Fault) → before.faults ≤ after.faults → after.fixed ≡ before.fixed → Carries before after origin said result → Adds origin before after
adds_one before after origin said (Ok response) counts fixed done =
    record { entries = done.entries; grown = done.grown; own = done.own; few = done.few; counts = counts; same = fixed }
adds_one before after origin said (Err fault) counts fixed refused =
    record { entries = []; grown = refused.same ∙ sym (append-nil before.entries); own = none_own origin; few = omega arith; counts = counts; same = fixed }
