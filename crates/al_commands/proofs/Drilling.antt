-- What one sending of a drill leaves.
use Rattle.std.proofs.Common.{◌≡◌, inl, inr, ℕ, Bool, true, Option, Some, List, [], ◌∷◌, ◌++◌, length, refl, subst, sym, ap, ◌∙◌, append_assoc, arith}
use Rattle.std.specs.Prelude.{◌==◌, ◌||◌, codes, decimal}
use Rattle.std.specs.List.{AllByRecursion}
use Rattle.std.proofs.lemmas.List.{append-nil}
use Rattle.al_base.specs.Readings.{Readings}
use Rattle.al_disk.specs.States.{DiskState}
use Rattle.al_http.specs.ErrorRows.{error_rows}
use Rattle.al_http.specs.Requests.{is_last}
use Rattle.al_http.specs.Responses.{allow_field, connection_field, crlf, fields_text, length_field, location_field, place_field, response_text, status_line, type_field}
use Rattle.al_http.specs.Phrases.{phrase_of}
use Rattle.al_http.specs.Streams.{request_limit}
use Rattle.al_http.specs.declared.response.Response.{Response}
use Rattle.al_model.specs.declared.entry.Entry.{Entry}
use Rattle.al_model.specs.declared.kept.Fixed.{Fixed}
use Rattle.al_model.specs.declared.kept.Mark.{Mark}
use Rattle.al_journal.specs.Images.{Shows}
use Rattle.al_journal.specs.Laws.{ShowsOnce}
use Rattle.al_office.specs.Images.{ShowsHistory, frames_of}
use Rattle.al_restconf.specs.Machine.{Answers, IsAnswer, answer_of}
use Rattle.al_serve.specs.Conversations.{EndsBy, GaveKnown, IsConversation, Outside, readings_of}
use Rattle.al_serve.specs.Exchanges.{GoesOnByOthers, GoThrough, IsExchange, IsOutcome, IsTurn, Outcome, OutOfMemory, Plain, Turn}
use Rattle.al_serve.specs.declared.conversation.Cause.{Cause}
use Rattle.al_serve.specs.declared.conversation.Cause.TheVariants.{Ended}
use Rattle.al_serve.specs.declared.conversation.Ending.{Ending}
use Rattle.al_turn.specs.Histories.{MadeByOthers, further}
use Rattle.al_commands.specs.Drills.{SendsOne, drill_capacity}
use Rattle.al_commands.specs.Told.{status_told}

-- a text in eleven parts, told from its front
from_front : (h d p e a b c f g i j : List ℕ)
    → (((((((((((h ++ d) ++ (32 ∷ [])) ++ p) ++ e) ++ a) ++ b) ++ c) ++ f) ++ g) ++ i) ++ e) ++ j ≡ h ++ d ++ 32 ∷ (p ++ (e ++ (a ++ (b ++ (c ++ (f ++ (g ++ (i ++ (e ++ j)))))))))
from_front h d p e a b c f g i j = simp append_assoc

-- the text of a response begins with its status
text_begins : (response : Response) (last : Bool) → (rest : List ℕ) × (response_text response last ≡ codes "HTTP/1.1 " ++ decimal response.status ++ 32 ∷ rest)
unfolding response_text fields_text status_line
text_begins response last = (
  _,
  from_front (codes "HTTP/1.1 ") (decimal response.status) (phrase_of response.status) crlf (place_field response.place) (allow_field response.status response.allow)
      (connection_field last) (length_field response.status response.content) (type_field response.content) (location_field response.location) _,
)

-- others add nothing to what all origins may add to
no_others : (entries : List Entry) → MadeByOthers (λ _. true) entries → entries ≡ []
no_others [] made = refl
no_others (e ∷ entries) made = let no = made.0 in absurd (cc)

module _ (before : Mark) (turn : Turn) (found : GoesOnByOthers (λ _. true) before turn.before) where
  found_entries : turn.before.entries ≡ before.entries
  found_entries =
      found.goes_on.begins ∙ ap (λ (es : List Entry). before.entries ++ es) (no_others (further turn.before.entries before.entries) found.others) ∙ append-nil before.entries

-- neither a fault of the disk nor want of memory is answered with another status
plain : (turn : Turn) (outcome : Outcome) → IsOutcome IsAnswer 0 turn outcome → (turn.response.status ≡ 500 → ⊥) → (turn.response.status ≡ 503 → ⊥)
    → Answers turn.before turn.after 0 turn.request turn.reading turn.response
unfolding error_rows
plain turn Plain is no_fault memory =
    elim is [ inl answers ↦ answers | inr failed ↦ absurd (no_fault (ap (λ (r : Response). r.status) failed.response_is)) ]
plain turn OutOfMemory is no_fault memory = absurd (memory (ap (λ (r : Response). r.status) is.0))

-- a function of three, at others that are equal
at_three : {A B C X : Type 0} (f : A → B → C → X) (a a2 : A) (b b2 : B) (c c2 : C) → a ≡ a2 → b ≡ b2 → c ≡ c2 → f a b c ≡ f a2 b2 c2
at_three f a a2 b b2 c c2 p q r = ap (λ x. f x b c) p ∙ ap (λ x. f a2 x c) q ∙ ap (λ x. f a2 b2 x) r

-- turns leave the fixed part
turns_fixed : (before : Mark) (turns : List Turn) (after : Mark) → AllByRecursion (IsTurn IsAnswer 0) turns → GoThrough (λ _. true) before turns after → after.fixed ≡ before.fixed
turns_fixed before [] after each through = ap (λ (m : Mark). m.fixed) through
turns_fixed before (turn ∷ turns) after each through =
    turns_fixed turn.after turns after each.1 through.1 ∙ each.0.adds.same ∙ through.0.goes_on.same

-- and so does a conversation
pub conversation_fixed : (before after : Mark) (input : Option (List ℕ)) (outside : Outside) (ending : Ending) → IsConversation IsAnswer (λ _. true) 0 before after input outside ending → after.fixed ≡ before.fixed
conversation_fixed before after input outside ending is = turns_fixed before is.turns after is.exchange.each is.exchange.through

-- what the one turn of a conversation leaves
sends_one : (text held : List ℕ) (before after : Mark) (clock : Readings) (turns : List Turn) (status : ℕ) → before.fixed.capacity ≡ drill_capacity
    → 1 ≡ length turns → IsExchange IsAnswer (λ _. true) 0 before turns after → EndsBy Ended (Some text) (Some []) (Some held) turns
    → GaveKnown (Some (record { ahead = []; last = 0 })) (readings_of turns) (Some clock)
    → ((s : ℕ) (rest : List ℕ) → held ≡ codes "HTTP/1.1 " ++ decimal s ++ 32 ∷ rest → status ≡ status_told s)
    → (status ≡ 500 → ⊥) → (status ≡ 503 → ⊥) → SendsOne text before.entries after.entries status
sends_one text held before after clock [] status capacity one exchange ends readings told no_fault memory = absurd (omega arith)
sends_one text held before after clock (turn ∷ other ∷ turns) status capacity one exchange ends readings told no_fault memory = absurd (omega arith)
sends_one text held before after clock (turn ∷ []) status capacity one exchange ends readings told no_fault memory =
    let taken = exchange.each.0 in
    let found = exchange.through.0 in
    let left : after ≡ turn.after = exchange.through.1 in
    let begins = text_begins turn.response (is_last turn.request || 1 == request_limit) in
    let status_is : status ≡ status_told turn.response.status = told turn.response.status begins.0 (ends.1 ∙ append-nil _ ∙ begins.1) in
    let answers = plain turn turn.outcome taken.came_by (λ is. no_fault (status_is ∙ ap status_told is)) (λ is. memory (status_is ∙ ap status_told is)) in
    let same = found_entries before turn found in
    let cap : turn.before.fixed.capacity ≡ drill_capacity = ap (λ (f : Fixed). f.capacity) found.goes_on.same ∙ capacity in
    record {
      request = turn.request;
      whole = ends.0;
      grown = ap (λ (m : Mark). m.entries) left ∙ answers.grown
          ∙ at_three (λ (n : ℕ) (es : List Entry) (r : ℕ). es ++ (answer_of n es 0 turn.request r).entries) turn.before.fixed.capacity drill_capacity turn.before.entries before.entries turn.reading 0 cap same readings.0;
      status_is = status_is ∙ ap (λ (r : Response). status_told r.status) answers.response_is
          ∙ at_three (λ (n : ℕ) (es : List Entry) (r : ℕ). status_told (answer_of n es 0 turn.request r).response.status) turn.before.fixed.capacity drill_capacity turn.before.entries before.entries turn.reading 0 cap same readings.0;
    }

-- what a conversation over one request leaves
pub conversation_sends : (text left old held : List ℕ) (before after : Mark) (now clock : Readings) (ending : Ending) (status : ℕ)
    → IsConversation IsAnswer (λ _. true) 0 before after (Some left) (record { old_output = Some old; new_output = Some held; old_clock = Some now; new_clock = Some clock }) ending
    → left ≡ text → old ≡ [] → now ≡ record { ahead = []; last = 0 } → ending.cause ≡ Ended → ending.requests ≡ 1 → before.fixed.capacity ≡ drill_capacity
    → ((s : ℕ) (rest : List ℕ) → held ≡ codes "HTTP/1.1 " ++ decimal s ++ 32 ∷ rest → status ≡ status_told s)
    → (status ≡ 500 → ⊥) → (status ≡ 503 → ⊥) → SendsOne text before.entries after.entries status
conversation_sends text left old held before after now clock ending status talk left_is old_is now_is cause_is one capacity told no_fault memory =
    let by_cause = subst (λ (cause : Cause). EndsBy cause (Some left) (Some old) (Some held) talk.turns) cause_is talk.ends in
    let by_input = subst (λ (input : List ℕ). EndsBy Ended (Some input) (Some old) (Some held) talk.turns) left_is by_cause in
    let ends = subst (λ (output : List ℕ). EndsBy Ended (Some text) (Some output) (Some held) talk.turns) old_is by_input in
    let readings = subst (λ (r : Readings). GaveKnown (Some r) (readings_of talk.turns) (Some clock)) now_is talk.readings in
    sends_one text held before after clock talk.turns status capacity (sym one ∙ talk.requests) talk.exchange ends readings told no_fault memory

-- no frames are those of no entries
no_frames : (entries : List Entry) → [] ≡ frames_of entries → entries ≡ []
no_frames [] is = refl
no_frames (e ∷ entries) is = absurd (cc)

-- an office over bytes that show no payload has no entries
pub is_empty : ShowsOnce → (capacity other : ℕ) (entries : List Entry) (s t : DiskState) → Some s ≡ Some t → Shows capacity [] t.content → ShowsHistory other entries s.content
    → (capacity ≡ other) × (entries ≡ [])
is_empty once capacity other entries s t same none shows =
    let state : s ≡ t = cc in
    let both = once t.content capacity other [] (frames_of entries) none (subst (λ (d : DiskState). ShowsHistory other entries d.content) state shows) in
    (both.0, no_frames entries both.1)

-- eight counts and the end of a line, joined from the left
pub eight_counts : (a b c d e f g h i : List ℕ) → (a ++ (b ++ (c ++ (d ++ (e ++ (f ++ (g ++ (h ++ [])))))))) ++ i ≡ a ++ b ++ c ++ d ++ e ++ f ++ g ++ h ++ i
eight_counts a b c d e f g h i = simp (append_assoc, append-nil)
