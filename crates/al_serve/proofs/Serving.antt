-- Connections one after the other: who served them, how the door handed them out, and which entries were added.
use Rattle.std.proofs.Common.{◌≡◌, ◌==◌, ℕ, zero, suc, ◌+◌, ◌^◌, ◌≤◌, ◌<◌, inl, Bool, true, false, cond, Option, None, Some, List, [], ◌∷◌, ◌++◌, length, refl, sym, ap, ◌∙◌, subst, arith, append_assoc, append-nil, length-append, length-drop}
use Rattle.std.specs.List.{AllByRecursion}
use Rattle.std.specs.Option.{option_map}
use Rattle.std.proofs.lemmas.Bool.{false≢true}
use Rattle.std.proofs.lemmas.List.{map-append}
use Rattle.al_base.specs.Outside.{Rose}
use Rattle.al_base.specs.Readings.{Readings}
use Rattle.al_http.specs.Services.{Adds, Answers}
use Rattle.al_model.specs.declared.entry.Entry.{Entry}
use Rattle.al_model.specs.declared.kept.Mark.{Mark}
use Rattle.al_serve.proofs.OneHistory.{by_twice, nothing_further, one_history}
use Rattle.al_serve.specs.Conversations.{IsConversation, Outside}
use Rattle.al_serve.specs.Doors.{Connection, DoorState, Gives, TakesBack}
use Rattle.al_serve.specs.Exchanges.{GoThrough, IsOfOneHistory, IsTurn, Turn, all_added}
use Rattle.al_serve.specs.Left.{IsCounted}
use Rattle.al_serve.specs.Workers.{AreServed, HandsOut, IsServed, Round, Serves, given_of, left_of}
use Rattle.al_serve.specs.declared.conversation.Cause.TheVariants.{ReadFault, WriteFault}
use Rattle.al_serve.specs.declared.conversation.Ending.{Ending}
use Rattle.al_turn.proofs.Grows.{goes_further, goes_on_itself}
use Rattle.al_turn.specs.Histories.{GoesOn, entries_by, further}

each_adds : (answers : Answers) (origin : ℕ) (turns : List Turn) → AllByRecursion (IsTurn answers origin) turns → AllByRecursion (λ (turn : Turn). Adds origin turn.before turn.after) turns
each_adds answers origin [] all = tt
each_adds answers origin (turn ∷ turns) all = (all.0.adds, each_adds answers origin turns all.1)

-- what a conversation leaves is one history with what it began with
pub conversation_is_of_one_history : (answers : Answers) (origins : ℕ → Bool) (origin : ℕ) (before after : Mark) (input : Option (List ℕ)) (outside : Outside) (ending : Ending)
    (c : IsConversation answers origins origin before after input outside ending) → IsOfOneHistory origins origin before c.turns after
conversation_is_of_one_history answers origins origin before after input outside ending c =
    one_history origins origin before c.turns after (each_adds answers origin c.turns c.exchange.each) c.exchange.through

kept_or_not : (b : Bool) (e : Entry) (es kept : List Entry) → length kept ≤ length es → length (cond b (e ∷ kept) kept) ≤ length (e ∷ es)
kept_or_not true e es kept le = omega arith
kept_or_not false e es kept le = omega arith

-- no more entries are of an origin than there are
pub by_within : (origin : ℕ) (es : List Entry) → length (entries_by origin es) ≤ length es
by_within origin [] = omega arith
by_within origin (e ∷ es) = kept_or_not (e.origin == origin) e es (entries_by origin es) (by_within origin es)

pub further_within : (origin : ℕ) (history front : List Entry) → length (entries_by origin (further history front)) ≤ length history
further_within origin history front =
    let some = by_within origin (further history front) in let rest = length-drop (length front) history in omega arith

-- the doors of connections, and one more
coming_more : (cs : List Connection) (c : Connection) (a b d : Option (List Connection)) → a ≡ option_map (λ rest. cs ++ rest) b → b ≡ option_map (λ rest. c ∷ rest) d → a ≡ option_map (λ rest. (cs ++ c ∷ []) ++ rest) d
coming_more cs c a b None e f = e ∙ ap (option_map (λ rest. cs ++ rest)) f
coming_more cs c a b (Some rest) e f = e ∙ ap (option_map (λ more. cs ++ more)) f ∙ ap Some (sym (append_assoc cs (c ∷ []) rest))

finished_more : (cs : List Connection) (c : Connection) (a b d : Option (List Connection)) → b ≡ option_map (λ earlier. earlier ++ cs) a → d ≡ option_map (λ earlier. earlier ++ c ∷ []) b → d ≡ option_map (λ earlier. earlier ++ (cs ++ c ∷ [])) a
finished_more cs c None b d e f = f ∙ ap (option_map (λ earlier. earlier ++ c ∷ [])) e
finished_more cs c (Some earlier) b d e f = f ∙ ap (option_map (λ more. more ++ c ∷ [])) e ∙ ap Some (append_assoc earlier cs (c ∷ []))

nothing_coming : (a : Option (List Connection)) → a ≡ option_map (λ rest. [] ++ rest) a
nothing_coming None = refl
nothing_coming (Some rest) = refl

nothing_finished : (a : Option (List Connection)) → a ≡ option_map (λ earlier. earlier ++ []) a
nothing_finished None = refl
nothing_finished (Some earlier) = ap Some (sym (append-nil earlier))

pub hands_none : (door : DoorState) → HandsOut door [] door
hands_none door = record { coming = nothing_coming door.coming; finished = nothing_finished door.finished; out = refl; later = omega arith }

pub hands_more : (start door given now : DoorState) (rounds : List Round) (round : Round) → HandsOut start rounds door → Gives door round.given given → door.faults ≤ given.faults → TakesBack given round.left now → given.faults ≤ now.faults → HandsOut start (rounds ++ round ∷ []) now
hands_more start door given now rounds round h gives later takes later_still =
    record {
      coming = coming_more (given_of rounds) round.given start.coming door.coming now.coming h.coming (gives.coming ∙ ap (option_map (λ rest. round.given ∷ rest)) (sym takes.coming))
          ∙ ap (λ (cs : List Connection). option_map (λ rest. cs ++ rest) now.coming) (sym (map-append (λ (r : Round). r.given) rounds (round ∷ [])));
      finished = finished_more (left_of rounds) round.left start.finished door.finished now.finished h.finished (takes.finished ∙ ap (option_map (λ earlier. earlier ++ round.left ∷ [])) gives.finished)
          ∙ ap (λ (cs : List Connection). option_map (λ earlier. earlier ++ cs) start.finished) (sym (map-append (λ (r : Round). r.left) rounds (round ∷ [])));
      out = let a = takes.out in let b = gives.out in let c = h.out in omega arith;
      later = let a = h.later in omega arith;
    }

-- served connections, and one more
served_more : (answers : Answers) (origins : ℕ → Bool) (origin : ℕ) (before : Mark) (old : Option Readings) (rounds : List Round) (mid : Mark) (clock : Option Readings) (round : Round)
    → AreServed answers origins origin before old rounds mid clock → IsServed answers origins origin mid round.after round.given round.left clock round.clock → AreServed answers origins origin before old (rounds ++ round ∷ []) round.after round.clock
served_more answers origins origin before old [] mid clock round so_far one = (
  subst (λ (m : Mark). IsServed answers origins origin m round.after round.given round.left old round.clock) so_far.0
      (subst (λ (c : Option Readings). IsServed answers origins origin mid round.after round.given round.left c round.clock) so_far.1 one),
  (refl, refl),
)
served_more answers origins origin before old (first ∷ rounds) mid clock round so_far one =
    (so_far.0, served_more answers origins origin first.after first.clock rounds mid clock round so_far.1 one)

module _ (answers : Answers) (origins : ℕ → Bool) (origin : ℕ) where
  -- nothing was served yet
  pub serves_none : (before : Mark) (door : DoorState) (clock : Option Readings) → Serves answers origins origin before before door door clock clock 0 0 0 false
  serves_none before door clock =
      record {
        rounds = [];
        are_served = (refl, refl);
        door = hands_none door;
        counted = refl;
        goes_on = goes_on_itself before;
        added_is = ap (λ (x : List Entry). length (entries_by origin x)) (sym (nothing_further before.entries));
        ends = inl refl;
        within = omega arith;
        faulted_is = λ q. absurd (false≢true q);
      }

  -- a conversation adds to what was added
  grown : (start mid after : Mark) (input : Option (List ℕ)) (outside : Outside) (ending : Ending) (added : ℕ) → origins origin ≡ true → GoesOn start mid → added ≡ length (entries_by origin (further mid.entries start.entries))
      → IsConversation answers origins origin mid after input outside ending → GoesOn start after × (added + ending.entries ≡ length (entries_by origin (further after.entries start.entries)))
  grown start mid after input outside ending added own goes_on is c =
      let one = conversation_is_of_one_history answers origins origin mid after input outside ending c in
      let twice = ap (λ (x : List Entry). length x) (by_twice origin start.entries mid.entries after.entries goes_on.begins one.goes_on.begins) in
      let parts = length-append (entries_by origin (further mid.entries start.entries)) (entries_by origin (further after.entries mid.entries)) in
      let new = ap (λ (x : List Entry). length x) (one.own own) in
      let counted = c.entries in
      (goes_further start mid after goes_on one.goes_on, omega (arith, twice, parts, new, counted, is))

  -- one more connection was served
  pub serves_more : (start mid after : Mark) (old_door door given now : DoorState) (old_clock clock new_clock : Option Readings) (served added : ℕ) (came left : Connection) (ending : Ending)
      → origins origin ≡ true → Serves answers origins origin start mid old_door door old_clock clock served served added false
      → Gives door came given → door.faults ≤ given.faults → TakesBack given left now → given.faults ≤ now.faults
      → IsConversation answers origins origin mid after came.input (record { old_output = came.output; new_output = left.output; old_clock = clock; new_clock = new_clock }) ending
      → (ending.cause ≡ ReadFault → Rose came.input_faults left.input_faults) → (ending.cause ≡ WriteFault → Rose came.output_faults left.output_faults) → came.input_faults ≤ left.input_faults → came.output_faults ≤ left.output_faults
      → Serves answers origins origin start after old_door now old_clock new_clock (served + 1) (served + 1) (added + ending.entries) false
  serves_more start mid after old_door door given now old_clock clock new_clock served added came left ending own so_far gives later takes later_still c read_fault write_fault later_input later_output =
      let round : Round = record { given = came; left = left; after = after; clock = new_clock } in
      let s : IsServed answers origins origin mid after came left clock new_clock = record { ending = ending; conversation = c; read_fault = read_fault; write_fault = write_fault; later_input = later_input; later_output = later_output } in
      let more = grown start mid after came.input (record { old_output = came.output; new_output = left.output; old_clock = clock; new_clock = new_clock }) ending added own so_far.goes_on so_far.added_is c in
      record {
        rounds = so_far.rounds ++ round ∷ [];
        are_served = served_more answers origins origin start old_clock so_far.rounds mid clock round so_far.are_served s;
        door = hands_more old_door door given now so_far.rounds round so_far.door gives later takes later_still;
        counted = let c = so_far.counted in omega (arith, length-append so_far.rounds (round ∷ []), c);
        goes_on = more.0;
        added_is = more.1;
        ends = inl refl;
        within = omega arith;
        faulted_is = λ q. absurd (false≢true q);
      }

-- no turn adds no entry
no_turns : (turns : List Turn) (requests entries : ℕ) → requests ≡ length turns → entries ≡ length (all_added turns) → requests ≡ 0 → entries ≡ 0
no_turns [] requests entries r e none = e
no_turns (turn ∷ turns) requests entries r e none = absurd (omega (arith, r, none))

few_or_counted : (requests entries added most : ℕ) → added < 2 ^ 64 → (requests ≡ 0 → entries ≡ 0) → added + entries ≤ most → (0 < requests → most < 2 ^ 64) → added + entries < 2 ^ 64
few_or_counted zero entries added most fits none within counted = let e = none refl in omega arith
few_or_counted (suc requests) entries added most fits none within counted = let c = counted (omega arith) in omega arith

-- the sum of what was added fits
pub added_fits : (answers : Answers) (origins : ℕ → Bool) (origin : ℕ) (start mid after : Mark) (input : Option (List ℕ)) (outside : Outside) (ending : Ending) (added : ℕ)
    → origins origin ≡ true → GoesOn start mid → added ≡ length (entries_by origin (further mid.entries start.entries)) → added < 2 ^ 64
    → IsConversation answers origins origin mid after input outside ending → (0 < ending.requests → IsCounted after) → added + ending.entries < 2 ^ 64
added_fits answers origins origin start mid after input outside ending added own goes_on is fits c counted =
    let more = grown answers origins origin start mid after input outside ending added own goes_on is c in
    let within = further_within origin after.entries start.entries in
    let total = more.1 in
    few_or_counted ending.requests ending.entries added (length after.entries) fits (no_turns c.turns ending.requests ending.entries c.requests c.entries) (omega (arith, total, within)) counted

-- what was seen can be counted, where an entry was added
pub counted_after : (origins : ℕ → Bool) (mid : Mark) (turns : List Turn) (after : Mark) (requests entries added : ℕ) → GoThrough origins mid turns after → requests ≡ length turns → entries ≡ length (all_added turns)
    → (0 < added → IsCounted mid) → (0 < requests → IsCounted after) → 0 < added + entries → IsCounted after
counted_after origins mid [] after requests entries added through r e before now some = subst IsCounted (sym through) (before (omega (arith, e, some)))
counted_after origins mid (turn ∷ turns) after requests entries added through r e before now some = now (omega (arith, r))
