-- Where a path stops, and that whatever leads so far leads on to some path.
use Rattle.std.proofs.Common.{◌≡◌, ◌⊎◌, inl, inr, ℕ, ◌+◌, ◌<◌, ◌≤◌, Bool, true, false, cond, ◌&&◌, Option, Some, None, List, [], ◌∷◌, ◌++◌, length, refl, ap, subst, arith}
use Rattle.std.specs.Prelude.{◌==◌, ◌||◌, nat_le, nat_lt}
use Rattle.std.specs.List.{list_all}
use Rattle.std.specs.Option.{option_and_then, option_map_or}
use Rattle.std.specs.Str.{IsAscii}
use Rattle.std.proofs.lemmas.Bool.{cases_Bool, eqb-true, or_cases, false≢true}
use Rattle.std.proofs.lemmas.Bool.Decides.{nat_tests}
use Rattle.std.proofs.lemmas.Str.Ascii.{IsAscii-nil, IsAscii-cons}
use Rattle.al_base.specs.Identifiers.{begins_identifier, continues_identifier}
use Rattle.al_ids.specs.PathReading.{when, after_step, after_name, next_state, may_end, leads_to_end, stop_from}
use Rattle.al_ids.specs.declared.path.Part.{Part}
use Rattle.al_ids.specs.declared.path.Part.TheVariants as part
use Rattle.al_ids.specs.declared.path.State.{State}
use Rattle.al_ids.specs.declared.path.State.TheVariants.{Start, Begin, Root, Module, Slash, Open, Word, Colon, Name, Dot, Equals, Value, Quoted, Closed}

and_left : (a b : Bool) → (a && b) ≡ true → a ≡ true
and_left true b h = refl
and_left false b h = h

and_right : (a b : Bool) → (a && b) ≡ true → b ≡ true
and_right true b h = h
and_right false b h = cc

-- ---- states that are reached

abbrev pub run : List ℕ → State → Option State
run [] state = Some state
run (byte ∷ rest) state = option_and_then (run rest) (next_state state byte)

-- the answer for a text by the state behind its front
leads_next : (next : Option State) (front rest : List ℕ) → ((state : State) → leads_to_end (front ++ rest) state ≡ option_map_or (leads_to_end rest) (run front state) false)
    → option_map_or (leads_to_end (front ++ rest)) next false ≡ option_map_or (leads_to_end rest) (option_and_then (run front) next) false
leads_next None front rest later = refl
leads_next (Some state) front rest later = later state

pub leads_behind : (front rest : List ℕ) (from : State) → leads_to_end (front ++ rest) from ≡ option_map_or (leads_to_end rest) (run front from) false
leads_behind [] rest from = refl
leads_behind (byte ∷ front) rest from = leads_next (next_state from byte) front rest (leads_behind front rest)

-- ---- the stop

abbrev pub Ends : List ℕ → State → Type 0
Ends [] state = may_end state ≡ false
Ends (byte ∷ rest) state = next_state state byte ≡ None

pub record Stopped (text : List ℕ) (from : State) (place stop : ℕ) : Type 0 where
  pub front : List ℕ
  pub rest : List ℕ
  pub state : State
  pub spelled : text ≡ front ++ rest
  pub at : stop ≡ place + length front
  pub reached : run front from ≡ Some state
  pub ends : Ends rest state

stopped_later : (byte : ℕ) (rest : List ℕ) (from next : State) (place stop : ℕ) → next_state from byte ≡ Some next → Stopped rest next (place + 1) stop → Stopped (byte ∷ rest) from place stop
stopped_later byte rest from next place stop is later = record {
  front = byte ∷ later.front;
  rest = later.rest;
  state = later.state;
  spelled = ap (λ l. byte ∷ l) later.spelled;
  at = omega (arith, later.at);
  reached = rw is later.reached;
  ends = later.ends;
}

stopped_next : (next : Option State) (byte : ℕ) (rest : List ℕ) (from : State) (place stop : ℕ) → next_state from byte ≡ next → Some stop ≡ option_map_or (stop_from (place + 1) rest) next (Some place)
    → ((state : State) → Some stop ≡ stop_from (place + 1) rest state → Stopped rest state (place + 1) stop) → Stopped (byte ∷ rest) from place stop
stopped_next None byte rest from place stop is e later = record { front = []; rest = byte ∷ rest; state = from; spelled = refl; at = let same : stop ≡ place = cc in omega arith; reached = refl; ends = is }
stopped_next (Some state) byte rest from place stop is e later = stopped_later byte rest from state place stop is (later state e)

pub stopped : (text : List ℕ) (from : State) (place stop : ℕ) → Some stop ≡ stop_from place text from → Stopped text from place stop
stopped [] from place stop e = elim (cases_Bool (may_end from)) [
  | inl ends ↦ absurd (let no : Some stop ≡ None = rw ends at e in cc)
  | inr goes ↦ let is : Some stop ≡ Some place = rw goes at e in
      record { front = []; rest = []; state = from; spelled = refl; at = let same : stop ≡ place = cc in omega arith; reached = refl; ends = goes }
]
stopped (byte ∷ rest) from place stop e = stopped_next (next_state from byte) byte rest from place stop refl e (λ state e'. stopped rest state (place + 1) stop e')

not_stopped_next : (next : Option State) (rest : List ℕ) (place : ℕ) → None ≡ option_map_or (stop_from (place + 1) rest) next (Some place) → ((state : State) → None ≡ stop_from (place + 1) rest state → leads_to_end rest state ≡ true) → option_map_or (leads_to_end rest) next false ≡ true
not_stopped_next None rest place e later = absurd (cc)
not_stopped_next (Some state) rest place e later = later state e

pub not_stopped : (text : List ℕ) (from : State) (place : ℕ) → None ≡ stop_from place text from → leads_to_end text from ≡ true
not_stopped [] from place e = elim (cases_Bool (may_end from)) [
  | inl ends ↦ ends
  | inr goes ↦ absurd (let no : None ≡ Some place = rw goes at e in cc)
]
not_stopped (byte ∷ rest) from place e = not_stopped_next (next_state from byte) rest place e (λ state e'. not_stopped rest state (place + 1) e')

-- ---- quotes

-- inside quotes the quote is one of the two
abbrev pub IsQuoted : State → Type 0
IsQuoted (Value quote) = (quote ≡ 39) ⊎ (quote ≡ 34)
IsQuoted state = Unit {0}

when_quoted : (test : Bool) (to next : State) → when test to ≡ Some next → IsQuoted to → IsQuoted next
when_quoted true to next e is = let same : to ≡ next = cc in subst IsQuoted same is
when_quoted false to next e is = absurd (cc)

to_quoted : (to next : State) → Some to ≡ Some next → IsQuoted to → IsQuoted next
to_quoted to next e is = let same : to ≡ next = cc in subst IsQuoted same is

either_quoted : (test : Bool) (to : State) (other : Option State) (next : State) → cond test (Some to) other ≡ Some next → IsQuoted to → (other ≡ Some next → IsQuoted next) → IsQuoted next
either_quoted true to other next e is otherwise = to_quoted to next e is
either_quoted false to other next e is otherwise = otherwise e

after_step_quoted : (byte : ℕ) (next : State) → after_step byte ≡ Some next → IsQuoted next
after_step_quoted byte next e = either_quoted (byte == 47) Slash (when (byte == 91) Open) next e tt (λ e'. when_quoted (byte == 91) Open next e' tt)

after_name_quoted : (p : Part) (byte : ℕ) (next : State) → after_name p byte ≡ Some next → IsQuoted next
after_name_quoted part.Step byte next e = after_step_quoted byte next e
after_name_quoted part.Predicate byte next e = when_quoted (byte == 61) Equals next e tt

one_quote : (b : ℕ) → ((b == 39) || (b == 34)) ≡ true → (b ≡ 39) ⊎ (b ≡ 34)
one_quote b h = elim (or_cases (b == 39) (b == 34) h) [ inl single ↦ inl (eqb-true _ _ single) | inr double ↦ inr (eqb-true _ _ double) ]

quote_tested : (byte : ℕ) (test : Bool) (next : State) → ((byte == 39) || (byte == 34)) ≡ test → when test (Value byte) ≡ Some next → IsQuoted next
quote_tested byte true next is e = to_quoted (Value byte) next e (one_quote byte is)
quote_tested byte false next is e = absurd (cc)

quote_is : (byte : ℕ) (next : State) → when ((byte == 39) || (byte == 34)) (Value byte) ≡ Some next → IsQuoted next
quote_is byte next e = quote_tested byte ((byte == 39) || (byte == 34)) next refl e

next_quoted : (state next : State) (byte : ℕ) → next_state state byte ≡ Some next → IsQuoted state → IsQuoted next
next_quoted Start next byte e is = when_quoted (byte == 47) Root next e tt
next_quoted Begin next byte e is = when_quoted (byte == 47) Slash next e tt
next_quoted Root next byte e is = when_quoted (begins_identifier byte) Module next e tt
next_quoted Module next byte e is = either_quoted (byte == 58) (Colon part.Step) (when (continues_identifier byte) Module) next e tt (λ e'. when_quoted (continues_identifier byte) Module next e' tt)
next_quoted Slash next byte e is = when_quoted (begins_identifier byte) (Word part.Step) next e tt
next_quoted Open next byte e is = either_quoted (byte == 46) Dot (when (begins_identifier byte) (Word part.Predicate)) next e tt (λ e'. when_quoted (begins_identifier byte) (Word part.Predicate) next e' tt)
next_quoted (Word p) next byte e is =
    either_quoted (continues_identifier byte) (Word p) (cond (byte == 58) (Some (Colon p)) (after_name p byte)) next e tt
    (λ e'. either_quoted (byte == 58) (Colon p) (after_name p byte) next e' tt (after_name_quoted p byte next))
next_quoted (Colon p) next byte e is = when_quoted (begins_identifier byte) (Name p) next e tt
next_quoted (Name p) next byte e is = either_quoted (continues_identifier byte) (Name p) (after_name p byte) next e tt (after_name_quoted p byte next)
next_quoted Dot next byte e is = when_quoted (byte == 61) Equals next e tt
next_quoted Equals next byte e is = quote_is byte next e
next_quoted (Value quote) next byte e is = either_quoted (byte == quote) Quoted (Some (Value quote)) next e tt (λ e'. to_quoted (Value quote) next e' is)
next_quoted Quoted next byte e is = when_quoted (byte == 93) Closed next e tt
next_quoted Closed next byte e is = after_step_quoted byte next e

run_quoted_next : (next : Option State) (byte : ℕ) (front : List ℕ) (from state : State) → next_state from byte ≡ next → option_and_then (run front) next ≡ Some state → IsQuoted from → ((next : State) → run front next ≡ Some state → IsQuoted next → IsQuoted state) → IsQuoted state
run_quoted_next None byte front from state n e is later = absurd (cc)
run_quoted_next (Some next) byte front from state n e is later = later next e (next_quoted from next byte n is)

pub run_quoted : (front : List ℕ) (from state : State) → run front from ≡ Some state → IsQuoted from → IsQuoted state
run_quoted [] from state e is = to_quoted from state e is
run_quoted (byte ∷ front) from state e is = run_quoted_next (next_state from byte) byte front from state refl e is (λ next e' q. run_quoted front next state e' q)

-- ---- what leads on

-- bytes that make a path from a state on
abbrev pub end_of : State → List ℕ
end_of Start = 47 ∷ 97 ∷ 58 ∷ 97 ∷ []
end_of Begin = 47 ∷ 97 ∷ []
end_of Root = 97 ∷ 58 ∷ 97 ∷ []
end_of Module = 58 ∷ 97 ∷ []
end_of Slash = 97 ∷ []
end_of Open = 97 ∷ 61 ∷ 39 ∷ 39 ∷ 93 ∷ []
end_of (Word part.Step) = []
end_of (Word part.Predicate) = 61 ∷ 39 ∷ 39 ∷ 93 ∷ []
end_of (Colon part.Step) = 97 ∷ []
end_of (Colon part.Predicate) = 97 ∷ 61 ∷ 39 ∷ 39 ∷ 93 ∷ []
end_of (Name part.Step) = []
end_of (Name part.Predicate) = 61 ∷ 39 ∷ 39 ∷ 93 ∷ []
end_of Dot = 61 ∷ 39 ∷ 39 ∷ 93 ∷ []
end_of Equals = 39 ∷ 39 ∷ 93 ∷ []
end_of (Value quote) = quote ∷ 93 ∷ []
end_of Quoted = 93 ∷ []
end_of Closed = []

same_byte : (byte : ℕ) → (byte == byte) ≡ true
same_byte byte = grind (arith, nat_tests)

pub end_leads : (state : State) → leads_to_end (end_of state) state ≡ true
end_leads Start = refl
end_leads Begin = refl
end_leads Root = refl
end_leads Module = refl
end_leads Slash = refl
end_leads Open = refl
end_leads (Word part.Step) = refl
end_leads (Word part.Predicate) = refl
end_leads (Colon part.Step) = refl
end_leads (Colon part.Predicate) = refl
end_leads (Name part.Step) = refl
end_leads (Name part.Predicate) = refl
end_leads Dot = refl
end_leads Equals = refl
end_leads (Value quote) = rw (same_byte quote) refl
end_leads Quoted = refl
end_leads Closed = refl

ascii : (bytes : List ℕ) → list_all (λ byte. nat_lt byte 128) bytes ≡ true → IsAscii bytes
ascii [] all = IsAscii-nil
ascii (byte ∷ rest) all =
    IsAscii-cons byte rest (let low = and_left (nat_lt byte 128) (list_all (λ b. nat_lt b 128) rest) all in grind (arith, nat_tests)) (ascii rest (and_right (nat_lt byte 128) (list_all (λ b. nat_lt b 128) rest) all))

quote_low : (quote : ℕ) → (quote ≡ 39) ⊎ (quote ≡ 34) → list_all (λ byte. nat_lt byte 128) (quote ∷ 93 ∷ []) ≡ true
quote_low quote (inl single) = rw single refl
quote_low quote (inr double) = rw double refl

pub end_ascii : (state : State) → IsQuoted state → IsAscii (end_of state)
end_ascii Start is = ascii (end_of Start) refl
end_ascii Begin is = ascii (end_of Begin) refl
end_ascii Root is = ascii (end_of Root) refl
end_ascii Module is = ascii (end_of Module) refl
end_ascii Slash is = ascii (end_of Slash) refl
end_ascii Open is = ascii (end_of Open) refl
end_ascii (Word part.Step) is = IsAscii-nil
end_ascii (Word part.Predicate) is = ascii (end_of (Word part.Predicate)) refl
end_ascii (Colon part.Step) is = ascii (end_of (Colon part.Step)) refl
end_ascii (Colon part.Predicate) is = ascii (end_of (Colon part.Predicate)) refl
end_ascii (Name part.Step) is = IsAscii-nil
end_ascii (Name part.Predicate) is = ascii (end_of (Name part.Predicate)) refl
end_ascii Dot is = ascii (end_of Dot) refl
end_ascii Equals is = ascii (end_of Equals) refl
end_ascii (Value quote) is = ascii (end_of (Value quote)) (quote_low quote is)
end_ascii Quoted is = ascii (end_of Quoted) refl
end_ascii Closed is = IsAscii-nil

-- bytes that go on a character, which stand only inside quotes
abbrev pub goes_on : ℕ → Bool
goes_on byte = nat_le 128 byte && nat_lt byte 192

no_quote : (quote byte : ℕ) → (quote ≡ 39) ⊎ (quote ≡ 34) → goes_on byte ≡ true → (byte == quote) ≡ false
no_quote quote byte (inl single) on = rw single (grind (arith, nat_tests))
no_quote quote byte (inr double) on = rw double (grind (arith, nat_tests))

pub value_on : (quote : ℕ) (bytes rest : List ℕ) → (quote ≡ 39) ⊎ (quote ≡ 34) → list_all goes_on bytes ≡ true → leads_to_end (bytes ++ rest) (Value quote) ≡ leads_to_end rest (Value quote)
value_on quote [] rest is all = refl
value_on quote (byte ∷ bytes) rest is all =
    rw (no_quote quote byte is (and_left (goes_on byte) (list_all goes_on bytes) all)) (value_on quote bytes rest is (and_right (goes_on byte) (list_all goes_on bytes) all))

-- a value is being read
abbrev pub InValue : State → Type 0
InValue (Value quote) = Unit {0}
InValue state = ⊥

abbrev InValueIf : Option State → Type 0
InValueIf None = Unit {0}
InValueIf (Some state) = InValue state

high_begins : (byte : ℕ) → 128 ≤ byte → begins_identifier byte ≡ false
high_begins byte high = grind (arith, nat_tests)

high_continues : (byte : ℕ) → 128 ≤ byte → continues_identifier byte ≡ false
high_continues byte high = grind (arith, nat_tests)

high_other : (byte other : ℕ) → 128 ≤ byte → other < 128 → (byte == other) ≡ false
high_other byte other high low = grind (arith, nat_tests)

high_quotes : (byte : ℕ) → 128 ≤ byte → ((byte == 39) || (byte == 34)) ≡ false
high_quotes byte high = grind (arith, nat_tests)

after_step_high : (byte : ℕ) → 128 ≤ byte → after_step byte ≡ None
after_step_high byte high = rw (high_other byte 47 high (omega arith), high_other byte 91 high (omega arith)) refl

after_name_high : (p : Part) (byte : ℕ) → 128 ≤ byte → after_name p byte ≡ None
after_name_high part.Step byte high = after_step_high byte high
after_name_high part.Predicate byte high = rw (high_other byte 61 high (omega arith)) refl

quote_high : (quote byte : ℕ) → (quote ≡ 39) ⊎ (quote ≡ 34) → 128 ≤ byte → (byte == quote) ≡ false
quote_high quote byte (inl single) high = rw single (high_other byte 39 high (omega arith))
quote_high quote byte (inr double) high = rw double (high_other byte 34 high (omega arith))

next_high : (state : State) (byte : ℕ) → 128 ≤ byte → IsQuoted state → InValueIf (next_state state byte)
next_high Start byte high is = rw (high_other byte 47 high (omega arith)) tt
next_high Begin byte high is = rw (high_other byte 47 high (omega arith)) tt
next_high Root byte high is = rw (high_begins byte high) tt
next_high Module byte high is = rw (high_other byte 58 high (omega arith), high_continues byte high) tt
next_high Slash byte high is = rw (high_begins byte high) tt
next_high Open byte high is = rw (high_other byte 46 high (omega arith), high_begins byte high) tt
next_high (Word p) byte high is = rw (high_continues byte high, high_other byte 58 high (omega arith), after_name_high p byte high) tt
next_high (Colon p) byte high is = rw (high_begins byte high) tt
next_high (Name p) byte high is = rw (high_continues byte high, after_name_high p byte high) tt
next_high Dot byte high is = rw (high_other byte 61 high (omega arith)) tt
next_high Equals byte high is = rw (high_quotes byte high) tt
next_high (Value quote) byte high is = rw (quote_high quote byte is high) tt
next_high Quoted byte high is = rw (high_other byte 93 high (omega arith)) tt
next_high Closed byte high is = rw (after_step_high byte high) tt

-- whether the last byte is beyond ASCII
abbrev pub ends_high : List ℕ → Bool
ends_high [] = false
ends_high (byte ∷ []) = nat_le 128 byte
ends_high (byte ∷ next ∷ rest) = ends_high (next ∷ rest)

value_last : (next : Option State) (state : State) → InValueIf next → option_and_then (run []) next ≡ Some state → InValue state
value_last None state is e = absurd (cc)
value_last (Some next) state is e = let same : next ≡ state = cc in subst InValue same is

high_byte : (byte : ℕ) → nat_le 128 byte ≡ true → 128 ≤ byte
high_byte byte h = grind (arith, nat_tests)

ends_in_value_next : (next : Option State) (byte : ℕ) (front : List ℕ) (from state : State) → next_state from byte ≡ next → option_and_then (run front) next ≡ Some state → IsQuoted from
    → ((next : State) → run front next ≡ Some state → IsQuoted next → InValue state) → InValue state
ends_in_value_next None byte front from state n e is later = absurd (cc)
ends_in_value_next (Some next) byte front from state n e is later = later next e (next_quoted from next byte n is)

pub ends_in_value : (front : List ℕ) (from state : State) → run front from ≡ Some state → IsQuoted from → ends_high front ≡ true → InValue state
ends_in_value [] from state e is high = absurd (false≢true high)
ends_in_value (byte ∷ []) from state e is high = value_last (next_state from byte) state (next_high from byte (high_byte byte high) is) e
ends_in_value (byte ∷ more ∷ front) from state e is high =
    ends_in_value_next (next_state from byte) byte (more ∷ front) from state refl e is (λ next e' q. ends_in_value (more ∷ front) next state e' q high)
