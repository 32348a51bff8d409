-- Turns one after the other: what they were asked, what they wrote, and when.
use Rattle.std.proofs.lemmas.List.{append-nil, length-append, length-map, map-append}
use Rattle.std.proofs.Common.{◌≡◌, ℕ, ◌+◌, Bool, true, false, Option, None, Some, Ok, Err, List, [], ◌∷◌, ◌++◌, length, take, refl, sym, ap, ◌∙◌, append_assoc, add-zero, suc, ◌<◌, inl, inr, arith}
use Rattle.std.specs.Io.KnownBytes.{Appends}
use Rattle.al_base.specs.Readings.{Readings, after_reading}
use Rattle.al_base.specs.declared.outside.WriteFault.{WriteFault}
use Rattle.al_http.proofs.FrontLaws.{appends_more}
use Rattle.al_http.proofs.StreamLaws.{given_more, go_on_more, ends_ended, ends_at, ends_closed, ends_limit}
use Rattle.al_http.specs.Fronts.{AppendsFront}
use Rattle.al_http.specs.Moves.{Moves}
use Rattle.al_http.specs.Shown.{message_of}
use Rattle.al_http.specs.Told.{ending_at}
use Rattle.al_http.specs.declared.framer.Stop.{Stop}
use Rattle.al_http.specs.declared.framer.Stop.TheVariants as stops
use Rattle.al_http.specs.declared.rejection.Rejection.{Rejection}
use Rattle.al_http.specs.declared.rejection.Rejection.TheVariants.{Bad, HeadTooBig, BodyTooBig, Unimplemented}
use Rattle.al_http.specs.declared.request.HttpRequest.{HttpRequest}
use Rattle.al_serve.specs.declared.conversation.Cause.{Cause}
use Rattle.al_serve.specs.declared.conversation.Cause.TheVariants as causes
use Rattle.al_http.specs.Requests.{RequestMessage, is_last}
use Rattle.al_http.specs.Streams.{HasGiven, IsWhole, request_limit}
use Rattle.al_http.specs.Streams as endings
use Rattle.al_http.specs.Services.{Answers}
use Rattle.al_model.specs.declared.kept.Mark.{Mark}
use Rattle.al_serve.proofs.OneHistory.{through_more, each_more, added_more}
use Rattle.al_serve.specs.Exchanges.{GoesOnByOthers, Turn, IsTurn, IsExchange, added_by, all_added}
use Rattle.al_serve.specs.declared.conversation.Ending.{Ending}
use Rattle.al_serve.specs.Conversations.{Outside, requests_of, readings_of, text_of, texts_from, texts_of, rejection_text, Gave, GaveKnown, BeginsWith, TurnsGoOn, AppendsInto, IsConversation, TakesTurn, TellsRejection, EndsAtStop}

-- readings, and then one more
gave_more : (old : Readings) (readings : List ℕ) (mid : Readings) (reading : ℕ) (new : Readings) → Gave old readings mid → Gave mid (reading ∷ []) new → Gave old (readings ++ reading ∷ []) new
gave_more old [] mid reading new so_far one = rw (← so_far) one
gave_more old (first ∷ readings) mid reading new so_far one = (so_far.0, gave_more (after_reading old) readings mid reading new so_far.1 one)

pub gave_known_more : (old : Option Readings) (readings : List ℕ) (mid : Option Readings) (reading : ℕ) (new : Option Readings) → GaveKnown old readings mid → GaveKnown mid (reading ∷ []) new → GaveKnown old (readings ++ reading ∷ []) new
gave_known_more None readings mid reading new so_far one = tt
gave_known_more (Some old) readings None reading new so_far one = absurd so_far
gave_known_more (Some old) readings (Some mid) reading None so_far one = absurd one
gave_known_more (Some old) readings (Some mid) reading (Some new) so_far one = gave_more old readings mid reading new so_far one

-- an exchange, and then one more turn
exchange_more : (answers : Answers) (origins : ℕ → Bool) (origin : ℕ) (before : Mark) (turns : List Turn) (mid : Mark) (turn : Turn) (after : Mark)
    → IsExchange answers origins origin before turns mid → GoesOnByOthers origins mid turn.before → IsTurn answers origin turn → after ≡ turn.after → IsExchange answers origins origin before (turns ++ turn ∷ []) after
exchange_more answers origins origin before turns mid turn after so_far found taken left =
    record { each = each_more (IsTurn answers origin) turns turn so_far.each taken; through = through_more origins before turns mid turn after so_far.through found left }

-- the texts of turns, and then of one more
texts_more : (number : ℕ) (turns : List Turn) (turn : Turn) → texts_from number (turns ++ turn ∷ []) ≡ texts_from number turns ++ text_of (number + length turns) turn
texts_more number [] turn = rw (append-nil, add-zero) refl
texts_more number (first ∷ turns) turn =
    let next : number + suc (length turns) ≡ number + 1 + length turns = omega arith in
    rw (next, texts_more (number + 1) turns turn) (sym (append_assoc (text_of number first) (texts_from (number + 1) turns) (text_of (number + 1 + length turns) turn)))

-- A conversation so far: what has come of it since it began, and what is left of its input.
pub record SoFar (answers : Answers) (origins : ℕ → Bool) (origin : ℕ) (before after : Mark) (input left : Option (List ℕ)) (outside : Outside) (count entries : ℕ) : Type 0 where
  pub turns : List Turn
  pub exchange : IsExchange answers origins origin before turns after
  pub requests : HasGiven input (requests_of turns) left
  pub go_on : TurnsGoOn turns
  pub responses : Appends outside.old_output outside.new_output (texts_of turns)
  pub readings : GaveKnown outside.old_clock (readings_of turns) outside.new_clock
  pub counted : length turns ≡ count
  pub added : entries ≡ length (all_added turns)

-- the outside of two stretches of work, one after the other
abbrev pub both : Outside → Outside → Outside
both first second =
    record { old_output = first.old_output; new_output = second.new_output; old_clock = first.old_clock; new_clock = second.new_clock }

-- the second stretch begins where the first ends
pub record Follows (first second : Outside) : Type 0 where
  pub output : first.new_output ≡ second.old_output
  pub clock : first.new_clock ≡ second.old_clock

-- the requests, and then of one more turn
given_turn : (input left new_left : Option (List ℕ)) (turns : List Turn) (turn : Turn) (request : HttpRequest) → HasGiven input (requests_of turns) left → Moves left new_left (Ok (Some request)) → turn.request ≡ message_of request → HasGiven input (requests_of (turns ++ turn ∷ [])) new_left
given_turn input left new_left turns turn request given moves is =
    rw (map-append (λ (t : Turn). t.request) turns (turn ∷ []), is) (given_more input left new_left (requests_of turns) request given moves)

gave_turn : (k m n : Option Readings) (turns : List Turn) (turn : Turn) → GaveKnown k (readings_of turns) m → GaveKnown m (turn.reading ∷ []) n → GaveKnown k (readings_of (turns ++ turn ∷ [])) n
gave_turn k m n turns turn gave one =
    rw (map-append (λ (t : Turn). t.reading) turns (turn ∷ [])) (gave_known_more k (readings_of turns) m turn.reading n gave one)

-- the number of the next request
text_is : (turns : List Turn) (turn : Turn) (count : ℕ) → length turns ≡ count → texts_of (turns ++ turn ∷ []) ≡ texts_of turns ++ text_of (count + 1) turn
text_is turns turn count counted =
    let number : 1 + length turns ≡ count + 1 = omega (arith, counted) in
    texts_more 1 turns turn ∙ ap (λ n. texts_of turns ++ text_of n turn) number

-- the counts of turns and of entries
counted_more : (turns : List Turn) (turn : Turn) (count : ℕ) → length turns ≡ count → length (turns ++ turn ∷ []) ≡ count + 1
counted_more turns turn count counted = omega (arith, length-append turns (turn ∷ []), counted)

added_counted : (turns : List Turn) (turn : Turn) (entries added : ℕ) → entries ≡ length (all_added turns) → added ≡ length (added_by turn) → entries + added ≡ length (all_added (turns ++ turn ∷ []))
added_counted turns turn entries added before now =
    let more = ap length (added_more turns turn) in omega (arith, length-append (all_added turns) (added_by turn), more, before, now)

abbrev pub ended : Cause → ℕ → ℕ → Ending
ended cause requests entries = record { cause = cause; requests = requests; entries = entries }

-- a turn whose response was written
pub so_far_more : (answers : Answers) (origins : ℕ → Bool) (origin : ℕ) (before mid after : Mark) (input left new_left : Option (List ℕ)) (first second : Outside) (count entries added : ℕ) (request : HttpRequest) → Follows first second
    → SoFar answers origins origin before mid input left first count entries → Moves left new_left (Ok (Some request)) → is_last (message_of request) ≡ false → TakesTurn answers origins origin mid after (message_of request) second (count + 1) added {E = WriteFault} (Ok false)
    → SoFar answers origins origin before after input new_left (both first second) (count + 1) (entries + added)
so_far_more answers origins origin before mid after input left new_left first second count entries added request follows s moves other t =
    record {
      turns = s.turns ++ t.turn ∷ [];
      exchange = exchange_more answers origins origin before s.turns mid t.turn after s.exchange t.found t.taken t.left;
      requests = given_turn input left new_left s.turns t.turn request s.requests moves t.request_is;
      go_on = rw (map-append (λ (u : Turn). u.request) s.turns (t.turn ∷ [])) (go_on_more (requests_of s.turns) t.turn.request s.go_on (rw t.request_is other));
      responses = rw (text_is s.turns t.turn count s.counted) (appends_more first.old_output first.new_output second.new_output (texts_of s.turns) (text_of (count + 1) t.turn) s.responses (rw follows.output t.response));
      readings = gave_turn first.old_clock first.new_clock second.new_clock s.turns t.turn s.readings (rw follows.clock t.reading);
      counted = counted_more s.turns t.turn count s.counted;
      added = added_counted s.turns t.turn entries added s.added t.added_is;
    }

-- what was given of the input is how it begins
begins_with : (input left : Option (List ℕ)) (requests : List RequestMessage) → HasGiven input requests left → BeginsWith input requests
begins_with None left requests given = tt
begins_with (Some bytes) None requests given = absurd given
begins_with (Some bytes) (Some rest) requests given = (rest, given)

-- a whole text, and then a front of another
into : (a b c : Option (List ℕ)) (first second : List ℕ) → Appends a b first → AppendsFront b c second → AppendsInto a c first second
into a b c first second whole (count, front) = (count, appends_more a b c first (take count second) whole front)

-- a turn whose response the sink didn't take whole
pub ends_by_write_fault : (answers : Answers) (origins : ℕ → Bool) (origin : ℕ) (before mid after : Mark) (input left new_left : Option (List ℕ)) (first second : Outside) (count entries added : ℕ) (request : HttpRequest) (fault : WriteFault) → Follows first second
    → SoFar answers origins origin before mid input left first count entries → Moves left new_left (Ok (Some request)) → TakesTurn answers origins origin mid after (message_of request) second (count + 1) added {E = WriteFault} (Err fault)
    → IsConversation answers origins origin before after input (both first second) (ended causes.WriteFault (count + 1) (entries + added))
ends_by_write_fault answers origins origin before mid after input left new_left first second count entries added request fault follows s moves t =
    let number : length (s.turns ++ t.turn ∷ []) ≡ count + 1 = omega (arith, length-append s.turns (t.turn ∷ []), s.counted) in
    record {
      turns = s.turns ++ t.turn ∷ [];
      exchange = exchange_more answers origins origin before s.turns mid t.turn after s.exchange t.found t.taken t.left;
      ends = inl (record {
        earlier = s.turns;
        last = t.turn;
        parts = refl;
        go_on = s.go_on;
        requests = begins_with input new_left (requests_of (s.turns ++ t.turn ∷ [])) (given_turn input left new_left s.turns t.turn request s.requests moves t.request_is);
        written = rw number (into first.old_output first.new_output second.new_output (texts_of s.turns) (text_of (count + 1) t.turn) s.responses (rw follows.output t.response));
      });
      readings = gave_turn first.old_clock first.new_clock second.new_clock s.turns t.turn s.readings (rw follows.clock t.reading);
      requests = sym (counted_more s.turns t.turn count s.counted);
      entries = added_counted s.turns t.turn entries added s.added t.added_is;
    }

few_requests : (turns : List Turn) (count : ℕ) → length turns ≡ count → count < request_limit → length (requests_of turns) < request_limit
few_requests turns count counted few = rw (length-map turns (λ (t : Turn). t.request), counted) few

-- a read failed
pub ends_by_read_fault : (answers : Answers) (origins : ℕ → Bool) (origin : ℕ) (before after : Mark) (input left : Option (List ℕ)) (outside : Outside) (count entries : ℕ) → SoFar answers origins origin before after input left outside count entries
    → IsConversation answers origins origin before after input outside (ended causes.ReadFault count entries)
ends_by_read_fault answers origins origin before after input left outside count entries s =
    record { turns = s.turns; exchange = s.exchange; ends = (begins_with input left (requests_of s.turns) s.requests, s.go_on, s.responses); readings = s.readings; requests = sym s.counted; entries = s.added }

-- the last request was answered
pub ends_by_limit : (answers : Answers) (origins : ℕ → Bool) (origin : ℕ) (before after : Mark) (input left : Option (List ℕ)) (outside : Outside) (count entries : ℕ) → SoFar answers origins origin before after input left outside count entries → count ≡ request_limit
    → IsConversation answers origins origin before after input outside (ended causes.Limit request_limit entries)
ends_by_limit answers origins origin before after input left outside count entries s full =
    record { turns = s.turns; exchange = s.exchange; ends = (ends_limit input left (requests_of s.turns) s.requests s.go_on (length-map s.turns (λ (t : Turn). t.request) ∙ s.counted ∙ full), s.responses); readings = s.readings; requests = sym (s.counted ∙ full); entries = s.added }

module _ (answers : Answers) (origins : ℕ → Bool) (origin : ℕ) (before after : Mark) (input left new_left : Option (List ℕ)) (outside : Outside) (count entries : ℕ) where
  -- the input ends
  pub ends_by_end : SoFar answers origins origin before after input left outside count entries → count < request_limit → Moves left new_left (Ok None) → IsConversation answers origins origin before after input outside (ended causes.Ended count entries)
  ends_by_end s few moves =
      record { turns = s.turns; exchange = s.exchange; ends = (ends_ended input left new_left (requests_of s.turns) s.requests s.go_on (few_requests s.turns count s.counted few) moves, s.responses); readings = s.readings; requests = sym s.counted; entries = s.added }

  -- the framer stops, below the limit
  at_stop : (stop : Stop) (ending : endings.Ending) (s : SoFar answers origins origin before after input left outside count entries) → count < request_limit → Moves left new_left (Err stop) → ending_at stop ≡ Some ending → IsWhole input (requests_of s.turns) ending
  at_stop stop ending s few moves is =
      ends_at input left new_left (requests_of s.turns) stop ending s.requests s.go_on (few_requests s.turns count s.counted few) moves is

  -- the input ends inside a request
  ends_by_cut : SoFar answers origins origin before after input left outside count entries → count < request_limit → Moves left new_left (Err stops.Cut) → IsConversation answers origins origin before after input outside (ended causes.Cut count entries)
  ends_by_cut s few moves =
      record { turns = s.turns; exchange = s.exchange; ends = (at_stop stops.Cut endings.Cut s few moves refl, s.responses); readings = s.readings; requests = sym s.counted; entries = s.added }

module _ (answers : Answers) (origins : ℕ → Bool) (origin : ℕ) (before after : Mark) (input left new_left : Option (List ℕ)) (outside : Outside) (count entries : ℕ) (output : Option (List ℕ)) where
  -- the outside, with what was told at the end
  abbrev pub told_outside : Outside
  told_outside =
      record { old_output = outside.old_output; new_output = output; old_clock = outside.old_clock; new_clock = outside.new_clock }

  -- the input is rejected, and that was told, or the sink failed
  ends_by_rejection : (stop : Stop) (rejection : Rejection) (cause : Cause) → ending_at stop ≡ Some (endings.Rejected rejection) → SoFar answers origins origin before after input left outside count entries → count < request_limit → Moves left new_left (Err stop)
      → TellsRejection rejection outside.new_output output cause → IsConversation answers origins origin before after input told_outside (ended cause count entries)
  ends_by_rejection stop rejection cause at s few moves (inl (is, told)) =
      let whole = at_stop answers origins origin before after input left new_left outside count entries stop (endings.Rejected rejection) s few moves at in
      rw is record { turns = s.turns; exchange = s.exchange; ends = record { rejection = rejection; requests = whole; written = appends_more outside.old_output outside.new_output output (texts_of s.turns) (rejection_text rejection) s.responses told }; readings = s.readings; requests = sym s.counted; entries = s.added }
  ends_by_rejection stop rejection cause at s few moves (inr (is, fault)) =
      let whole = at_stop answers origins origin before after input left new_left outside count entries stop (endings.Rejected rejection) s few moves at in
      rw is record { turns = s.turns; exchange = s.exchange; ends = inr (record { rejection = rejection; requests = whole; written = into outside.old_output outside.new_output output (texts_of s.turns) (rejection_text rejection) s.responses fault }); readings = s.readings; requests = sym s.counted; entries = s.added }

  -- the framer stops
  pub ends_by_stop : (stop : Stop) (cause : Cause) → SoFar answers origins origin before after input left outside count entries → count < request_limit → Moves left new_left (Err stop) → EndsAtStop stop outside.new_output output cause
      → IsConversation answers origins origin before after input told_outside (ended cause count entries)
  ends_by_stop stops.ReadFault cause s few moves (is, same) =
      rw (is, same) (ends_by_read_fault answers origins origin before after input left outside count entries s)
  ends_by_stop stops.Cut cause s few moves (is, same) =
      rw (is, same) (ends_by_cut answers origins origin before after input left new_left outside count entries s few moves)
  ends_by_stop stops.Bad cause s few moves told = ends_by_rejection stops.Bad Bad cause refl s few moves told
  ends_by_stop stops.HeadTooBig cause s few moves told = ends_by_rejection stops.HeadTooBig HeadTooBig cause refl s few moves told
  ends_by_stop stops.BodyTooBig cause s few moves told = ends_by_rejection stops.BodyTooBig BodyTooBig cause refl s few moves told
  ends_by_stop stops.Unimplemented cause s few moves told = ends_by_rejection stops.Unimplemented Unimplemented cause refl s few moves told

-- a request that is last was answered
pub ends_by_close : (answers : Answers) (origins : ℕ → Bool) (origin : ℕ) (before mid after : Mark) (input left new_left : Option (List ℕ)) (first second : Outside) (count entries added : ℕ) (request : HttpRequest) → Follows first second
    → SoFar answers origins origin before mid input left first count entries → count < request_limit → Moves left new_left (Ok (Some request)) → is_last (message_of request) ≡ true → TakesTurn answers origins origin mid after (message_of request) second (count + 1) added {E = WriteFault} (Ok true)
    → IsConversation answers origins origin before after input (both first second) (ended causes.Closed (count + 1) (entries + added))
ends_by_close answers origins origin before mid after input left new_left first second count entries added request follows s few moves last t =
    let given = given_turn input left new_left s.turns t.turn request s.requests moves t.request_is in
    let more = map-append (λ (u : Turn). u.request) s.turns (t.turn ∷ []) in
    let whole = ends_closed input new_left (requests_of s.turns) t.turn.request (rw more at given) s.go_on (rw t.request_is last) (few_requests s.turns count s.counted few) in
    record {
      turns = s.turns ++ t.turn ∷ [];
      exchange = exchange_more answers origins origin before s.turns mid t.turn after s.exchange t.found t.taken t.left;
      ends = (rw more whole, rw (text_is s.turns t.turn count s.counted) (appends_more first.old_output first.new_output second.new_output (texts_of s.turns) (text_of (count + 1) t.turn) s.responses (rw follows.output t.response)));
      readings = gave_turn first.old_clock first.new_clock second.new_clock s.turns t.turn s.readings (rw follows.clock t.reading);
      requests = sym (counted_more s.turns t.turn count s.counted);
      entries = added_counted s.turns t.turn entries added s.added t.added_is;
    }
