-- What a change is answered, and the entry that it adds.
use Rattle.std.specs.Prelude.{◌≡◌, ◌⊎◌, ℕ, ◌+◌, ◌≤◌, nat_le, if◌then◌else◌, ◌++◌, false, Option, None, Some, Result, Ok, Err, List, [], ◌∷◌, All, length}
use Rattle.std.specs.Option.{option_map}
use Rattle.al_base.specs.Outside.{Rose}
use Rattle.al_fields.specs.Texts.{text_of}
use Rattle.al_frame.specs.Frames.{frame_of}
use Rattle.al_http.specs.Responses.{bodiless}
use Rattle.al_http.specs.declared.response.Content.TheVariants.{Empty, Tree}
use Rattle.al_http.specs.declared.response.Response.{Response}
use Rattle.al_json.specs.Outputs.{counted_by, output_of}
use Rattle.al_model.specs.Decision.{decision_of, entry_of}
use Rattle.al_model.specs.History.{replay}
use Rattle.al_model.specs.declared.decision.Decision.{Decision}
use Rattle.al_model.specs.declared.decision.Decision.TheVariants.{Refuse, Same, Change}
use Rattle.al_model.specs.declared.decision.Refusal.TheVariants.{JournalFull, Disk}
use Rattle.al_model.specs.declared.decision.Reply.{Reply}
use Rattle.al_model.specs.declared.decision.Reply.TheVariants.{Made, Count}
use Rattle.al_model.specs.declared.entry.Entry.{Entry}
use Rattle.al_model.specs.declared.kept.Mark.{Mark}
use Rattle.al_model.specs.declared.request.Request.{Request}
use Rattle.al_model.specs.declared.request.Request.TheVariants as requests
use Rattle.al_office.specs.Images.{used_by}
use Rattle.al_office.specs.Journaled.{JournaledView, journaled_mark}
use Rattle.al_base.specs.Answers.{and_then}
use Rattle.al_uri.specs.declared.target.Target.{Target}
use Rattle.al_uri.specs.declared.target.Target.TheVariants as targets
use Rattle.al_restconf.specs.Faults.{IsDue, refused}
use Rattle.al_restconf.specs.Reads.{shown}
use Rattle.al_restconf.specs.declared.fault.Fault.{Fault}
use Rattle.al_restconf.specs.declared.fault.Fault.TheVariants.{Refused}

-- what is seen of an office, over the count of its disk's faults
abbrev pub mark_of : {D : Type 0} → (D → ℕ) → JournaledView D → Mark
mark_of faults office = journaled_mark (faults office.journal.disk) office

-- What a request comes to that isn't refused: a response alone, or an entry that is added first.
pub data Verdict : Type 0 where
  Tell : (response : Response) → Verdict
  Add : (entry : Entry) (response : Response) → Verdict

-- a response, and the entries that its request adds: none or one
pub record Answer : Type 0 where
  pub response : Response
  pub entries : List Entry

-- done, with nothing to tell
abbrev pub done : ℕ → Response
done place = bodiless 204 (Some place)

-- made
abbrev pub made : ℕ → Response
made place = bodiless 201 (Some place)

-- made, and where: the shelf of this name
abbrev pub made_at : ℕ → Option (List ℕ) → Response
made_at place name =
    record { status = 201; place = Some place; allow = 0; location = name; content = Empty; bare = false }

-- the name of the shelf that a request creates
abbrev pub created : Request → Option (List ℕ)
created (requests.CreateShelf shelf spot) = Some shelf.name
created other = None

-- made or replaced
abbrev pub put : ℕ → Reply → Response
put place Made = made place
put place other = done place

-- how many alarms were taken, as the output of the action
abbrev pub counted : ℕ → Target → Reply → Response
counted place target (Count count) = shown place (Tree (text_of (option_map (λ name. output_of name count) (counted_by target))))
counted place target other = done place

-- what is answered where the request was carried out
abbrev pub success : ℕ → Target → Request → Reply → Response
success place (targets.Shelving spot) request reply = made_at place (created request)
success place (targets.OneShelf name spot) request reply = put place reply
success place targets.PurgeAlarms request reply = counted place targets.PurgeAlarms reply
success place targets.CompressAlarms request reply = counted place targets.CompressAlarms reply
success place targets.PurgeShelved request reply = counted place targets.PurgeShelved reply
success place targets.CompressShelved request reply = counted place targets.CompressShelved reply
success place targets.Inventory request reply = made place
success place other request reply = done place

-- what a decision comes to: a change adds its entry, and a repeat is answered alike
abbrev pub decided : List Entry → ℕ → ℕ → Target → Request → Decision → Result Verdict Fault
decided before origin reading target request (Refuse refusal) = Err (refused refusal)
decided before origin reading target request (Same reply) = Ok (Tell (success (length before) target request reply))
decided before origin reading target request (Change event reply) =
    Ok (Add (entry_of (replay before) origin event reading) (success (length before) target request reply))

-- The request is decided on over the history, at a reading of the clock.
unfoldable pub changed : List Entry → ℕ → ℕ → Target → Request → Result Verdict Fault
changed before origin reading target request =
    decided before origin reading target request (decision_of (replay before) request reading)

-- ---- the journal, which has the last word but for the disk

-- an entry is added where its record has room in a journal of this capacity, behind the history
abbrev pub in_journal : ℕ → List Entry → Verdict → Result Answer Fault
in_journal capacity before (Tell response) = Ok (record { response = response; entries = [] })
in_journal capacity before (Add entry response) =
    if nat_le (used_by before + 5 + length (frame_of entry)) capacity then Ok (record { response = response; entries = entry ∷ [] }) else Err (Refused JournalFull)

abbrev pub journaled : Mark → Result Verdict Fault → Result Answer Fault
journaled before said = and_then said (in_journal before.fixed.capacity before.entries)

-- an entry was to be added
abbrev pub IsAdding : Result Verdict Fault → Type 0
IsAdding said = (entry : Entry) × (response : Response) × (said ≡ Ok (Add entry response))

-- The answer is the one that is said, and just its entries were added, one at most and of this origin.
pub record IsCarriedOut (before after : Mark) (origin : ℕ) (said : Result Verdict Fault) (response : Response) : Type 0 where
  pub entries : List Entry
  pub is : journaled before said ≡ Ok (record { response = response; entries = entries })
  pub grown : after.entries ≡ before.entries ++ entries
  pub own : All (λ entry. entry.origin ≡ origin) entries
  pub few : length entries ≤ 1

-- The disk failed when an entry was to be added.
pub record HasDiskFailed (before after : Mark) (said : Result Verdict Fault) (fault : Fault) : Type 0 where
  pub fault_is : fault ≡ Refused Disk
  pub adding : IsAdding said
  pub rose : Rose before.faults after.faults

-- The fault is the one that is said, or want of memory, or the disk's; and nothing was added.
pub record IsRefused (before after : Mark) (said : Result Verdict Fault) (fault : Fault) : Type 0 where
  pub is : IsDue (journaled before said) fault ⊎ HasDiskFailed before after said fault
  pub same : after.entries ≡ before.entries

-- what is said, over a history that may grow
abbrev pub Carries : Mark → Mark → ℕ → Result Verdict Fault → Result Response Fault → Type 0
Carries before after origin said (Ok response) = IsCarriedOut before after origin said response
Carries before after origin said (Err fault) = IsRefused before after said fault
