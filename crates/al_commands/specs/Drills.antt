-- The drill: a number gives requests, as text, and what the machine answers to them gives the lines.
use Rattle.std.specs.Prelude.{◌≡◌, ◌⊎◌, ℕ, ◌+◌, ◌/◌, ◌==◌, Bool, if◌then◌else◌, Option, Some, List, [], ◌∷◌, ◌++◌, codes, length}
use Rattle.al_http.specs.Requests.{RequestMessage}
use Rattle.al_http.specs.Streams.{IsWhole}
use Rattle.al_http.specs.Streams as endings
use Rattle.al_model.specs.History.{replay}
use Rattle.al_model.specs.State.{listed, shelved}
use Rattle.al_model.specs.declared.entry.Entry.{Entry}
use Rattle.al_office.specs.Images.{used_by}
use Rattle.al_restconf.specs.Machine.{answer_of}
use Rattle.al_commands.specs.Draws.{drill_texts}
use Rattle.al_commands.specs.Lines.{Tells, count_text, line_end}
use Rattle.al_commands.specs.Statuses.{status_done, status_out_of_memory}
use Rattle.al_commands.specs.Told.{status_told}

-- ---- the answers

-- the capacity of the drill's journal
abbrev pub drill_capacity : ℕ
drill_capacity = 16777216

-- The history so far, and how many answers were of success and how many not.
pub record Tally : Type 0 where
  pub entries : List Entry
  pub ok : ℕ
  pub refused : ℕ

abbrev pub tally_of : List Entry → ℕ → ℕ → Tally
tally_of entries ok refused = record { entries = entries; ok = ok; refused = refused }

abbrev pub no_tally : Tally
no_tally = tally_of [] 0 0

-- an answer of success has a status of 200 and more below 300
abbrev pub is_success : ℕ → Bool
is_success status = status / 100 == 2

-- the machine's answer at reading 0, of origin 0
abbrev pub answered : Tally → RequestMessage → Tally
answered tally request =
    let answer = answer_of drill_capacity tally.entries 0 request 0 in
    record {
      entries = tally.entries ++ answer.entries;
      ok = if is_success answer.response.status then tally.ok + 1 else tally.ok;
      refused = if is_success answer.response.status then tally.refused else tally.refused + 1;
    }

abbrev pub all_answered : Tally → List RequestMessage → Tally
all_answered tally [] = tally
all_answered tally (request ∷ requests) = all_answered (answered tally request) requests

-- The text is so many whole requests, and these were answered.
pub record Sends (text : List ℕ) (before after : Tally) : Type 0 where
  pub requests : List RequestMessage
  pub whole : IsWhole (Some text) requests endings.Ended
  pub counts : after ≡ all_answered before requests

-- The text is one whole request, which was answered over the one history, and left the other; of the answer's status this is told.
pub record SendsOne (text : List ℕ) (before after : List Entry) (status : ℕ) : Type 0 where
  pub request : RequestMessage
  pub whole : IsWhole (Some text) (request ∷ []) endings.Ended
  pub grown : after ≡ before ++ (answer_of drill_capacity before 0 request 0).entries
  pub status_is : status ≡ status_told (answer_of drill_capacity before 0 request 0).response.status

-- the texts were sent one after the other
abbrev pub SendsAll : List (List ℕ) → Tally → Tally → Type 0
SendsAll [] before after = after ≡ before
SendsAll (text ∷ texts) before after = (mid : Tally) × Sends text before mid × SendsAll texts mid after

-- ---- the lines

abbrev pub drill_lines : ℕ → Tally → List ℕ
drill_lines count tally =
    count_text (codes "requests ") (count + 1)
    ++ count_text (codes "\nok ") tally.ok
    ++ count_text (codes "\nrefused ") tally.refused
    ++ count_text (codes "\nentries ") (length tally.entries)
    ++ count_text (codes "\nalarms ") (length (listed (replay tally.entries)))
    ++ count_text (codes "\nshelved ") (length (shelved (replay tally.entries)))
    ++ count_text (codes "\nnotes ") (replay tally.entries).log.sent
    ++ count_text (codes "\nbytes ") (used_by tally.entries)
    ++ line_end

-- The drill was done and its lines told.
pub record HasDrilled (seed count : ℕ) (old_output new_output : Option (List ℕ)) (status : ℕ) : Type 0 where
  pub tally : Tally
  pub sent : SendsAll (drill_texts seed count) no_tally tally
  pub told : Tells (drill_lines count tally) status_done old_output new_output status

-- a drill, for which there may be no memory, and then nothing is told
abbrev pub Drills : ℕ → ℕ → Option (List ℕ) → Option (List ℕ) → ℕ → Type 0
Drills seed count old_output new_output status =
    HasDrilled seed count old_output new_output status ⊎ ((status ≡ status_out_of_memory) × (new_output ≡ old_output))
