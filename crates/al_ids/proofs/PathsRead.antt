-- The reader of paths comes to an end exactly on paths.
use Rattle.std.proofs.Common.{◌≡◌, ◌≢◌, ◌↔◌, ◌⊎◌, IsTrue, inl, inr, ℕ, Bool, true, false, not, ◌&&◌, cond, Option, Some, None, IsSome, List, [], ◌∷◌, ◌++◌, refl, sym, ap, ◌∙◌, append_assoc}
use Rattle.std.specs.Prelude.{◌==◌, ◌||◌}
use Rattle.std.specs.List.{AllByRecursion, flat_map, list_all}
use Rattle.std.specs.Option.{option_map_or}
use Rattle.std.proofs.Common.{arith}
use Rattle.std.proofs.lemmas.Bool.Decides.{nat_tests}
use Rattle.std.proofs.lemmas.Bool.{eqb-true, or_cases}
use Rattle.al_base.specs.Identifiers.{begins_identifier, continues_identifier, is_identifier}
use Rattle.al_ids.specs.Paths.{Predicate, Step, qualified, predicate_text, path_text, AreNames, IsPredicate, IsStep, BeginsInModule, IsPath}
use Rattle.al_ids.specs.PathReading.{when, after_step, after_name, next_state, may_end, leads_to_end}
use Rattle.al_ids.specs.declared.path.Part.{Part}
use Rattle.al_ids.specs.declared.path.Part.TheVariants as part
use Rattle.al_ids.specs.declared.path.State.{State}
use Rattle.al_ids.specs.declared.path.State.TheVariants.{Start, Begin, Root, Module, Slash, Open, Word, Colon, Name, Dot, Equals, Value, Quoted, Closed}

and_left : (a b : Bool) → (a && b) ≡ true → a ≡ true
and_left true b h = refl
and_left false b h = h

and_right : (a b : Bool) → (a && b) ≡ true → b ≡ true
and_right true b h = h
and_right false b h = cc

no_colon : (byte : ℕ) → continues_identifier byte ≡ true → (byte == 58) ≡ false
no_colon byte h = grind (arith, nat_tests)

-- what may stand behind a step's name, or behind a predicate
record Tail (bytes : List ℕ) : Type 0 where
  predicates : List Predicate
  steps : List Step
  each_predicate : AllByRecursion IsPredicate predicates
  each_step : AllByRecursion IsStep steps
  spelling : bytes ≡ flat_map predicate_text predicates ++ path_text steps

-- what may stand behind a quote
record Ended (bytes : List ℕ) : Type 0 where
  rest : List ℕ
  tail : Tail rest
  spelling : bytes ≡ 93 ∷ rest

record Quote (quote : ℕ) (bytes : List ℕ) : Type 0 where
  value : List ℕ
  rest : List ℕ
  inside : list_all (λ byte. not (byte == quote)) value ≡ true
  tail : Tail rest
  spelling : bytes ≡ value ++ (quote ∷ 93 ∷ rest)

record Quotation (bytes : List ℕ) : Type 0 where
  quote : ℕ
  behind : List ℕ
  quotes : (quote ≡ 39) ⊎ (quote ≡ 34)
  value : Quote quote behind
  spelling : bytes ≡ quote ∷ behind

record Test (bytes : List ℕ) : Type 0 where
  behind : List ℕ
  value : Quotation behind
  spelling : bytes ≡ 61 ∷ behind

abbrev Follows : Part → List ℕ → Type 0
Follows part.Step bytes = Tail bytes
Follows part.Predicate bytes = Test bytes

-- the rest of a name, and what follows it
record NameRest (p : Part) (bytes : List ℕ) : Type 0 where
  name : List ℕ
  rest : List ℕ
  goes_on : list_all continues_identifier name ≡ true
  follows : Follows p rest
  spelling : bytes ≡ name ++ rest

-- a whole name, and what follows it
record NameWhole (p : Part) (bytes : List ℕ) : Type 0 where
  name : List ℕ
  rest : List ℕ
  named : is_identifier name ≡ true
  follows : Follows p rest
  spelling : bytes ≡ name ++ rest

-- the rest of a module, and a name
record ModuleRest (p : Part) (bytes : List ℕ) : Type 0 where
  owner : List ℕ
  behind : List ℕ
  goes_on : list_all continues_identifier owner ≡ true
  name : NameWhole p behind
  spelling : bytes ≡ owner ++ (58 ∷ behind)

-- a module and a name
record ModuleWhole (bytes : List ℕ) : Type 0 where
  owner : List ℕ
  behind : List ℕ
  named : is_identifier owner ≡ true
  name : NameWhole part.Step behind
  spelling : bytes ≡ owner ++ (58 ∷ behind)

-- a name with or without a module
record Names (p : Part) (bytes : List ℕ) : Type 0 where
  owner : Option (List ℕ)
  name : List ℕ
  rest : List ℕ
  names : AreNames owner name
  follows : Follows p rest
  spelling : bytes ≡ qualified owner name ++ rest

-- a predicate behind its bracket
record Opened (bytes : List ℕ) : Type 0 where
  owner : Option (List ℕ)
  name : List ℕ
  rest : List ℕ
  names : AreNames owner name ⊎ ((owner ≡ None) × (name ≡ 46 ∷ []))
  test : Test rest
  spelling : bytes ≡ qualified owner name ++ rest

-- a path whose steps need not say their modules
pub record IsPathText (text : List ℕ) : Type 0 where
  pub steps : List Step
  pub each : AllByRecursion IsStep steps
  pub some : steps ≢ []
  pub spelling : text ≡ path_text steps

-- what leads from a state to the end of a path
abbrev Leads : State → List ℕ → Type 0
Leads Start bytes = IsPath bytes
Leads Begin bytes = IsPathText bytes
Leads Root bytes = ModuleWhole bytes
Leads Module bytes = ModuleRest part.Step bytes
Leads Slash bytes = Names part.Step bytes
Leads Open bytes = Opened bytes
Leads (Word p) bytes = NameRest p bytes ⊎ ModuleRest p bytes
Leads (Colon p) bytes = NameWhole p bytes
Leads (Name p) bytes = NameRest p bytes
Leads Dot bytes = Test bytes
Leads Equals bytes = Quotation bytes
Leads (Value quote) bytes = Quote quote bytes
Leads Quoted bytes = Ended bytes
Leads Closed bytes = Tail bytes

abbrev Later : List ℕ → Type 0
Later rest = (state : State) → leads_to_end rest state ≡ true → Leads state rest

-- which way the reader went
chosen : (test : Bool) (state : State) (rest : List ℕ) → option_map_or (leads_to_end rest) (when test state) false ≡ true → (test ≡ true) × (leads_to_end rest state ≡ true)
chosen true state rest h = (refl, h)
chosen false state rest h = cc

either : (test : Bool) (state : State) (other : Option State) (rest : List ℕ) → option_map_or (leads_to_end rest) (cond test (Some state) other) false ≡ true → ((test ≡ true) × (leads_to_end rest state ≡ true)) ⊎ ((test ≡ false) × (option_map_or (leads_to_end rest) other false ≡ true))
either true state other rest h = inl (refl, h)
either false state other rest h = inr (refl, h)

no_tail : Tail []
no_tail = record { predicates = []; steps = []; each_predicate = tt; each_step = tt; spelling = refl }

step_spelled : (byte : ℕ) (rest names behind predicates steps : List ℕ) → byte ≡ 47 → rest ≡ names ++ behind → behind ≡ predicates ++ steps → byte ∷ rest ≡ (47 ∷ (names ++ predicates)) ++ steps
step_spelled byte rest names behind predicates steps slash r b = rw (slash, r, b) (simp append_assoc)

predicate_spelled : (byte : ℕ) (rest names behind test : List ℕ) (quote : ℕ) (quotation value tail predicates steps : List ℕ) → byte ≡ 91 → rest ≡ names ++ behind → behind ≡ 61 ∷ test → test ≡ quote ∷ quotation → quotation ≡ value ++ (quote ∷ 93 ∷ tail) → tail ≡ predicates ++ steps
    → byte ∷ rest ≡ ((91 ∷ (names ++ (61 ∷ quote ∷ (value ++ (quote ∷ 93 ∷ []))))) ++ predicates) ++ steps
predicate_spelled byte rest names behind test quote quotation value tail predicates steps bracket r b t q v = rw (bracket, r, b, t, q, v) (simp append_assoc)

one_more_step : (byte : ℕ) (rest : List ℕ) → byte ≡ 47 → Names part.Step rest → Tail (byte ∷ rest)
one_more_step byte rest slash names =
    let tail : Tail names.rest = names.follows in
    record {
      predicates = [];
      steps = (record { defined_in = names.owner; name = names.name; predicates = tail.predicates }) ∷ tail.steps;
      each_predicate = tt;
      each_step = (record { names = names.names; each = tail.each_predicate }, tail.each_step);
      spelling = step_spelled byte rest (qualified names.owner names.name) names.rest (flat_map predicate_text tail.predicates) (path_text tail.steps) slash names.spelling tail.spelling;
    }

one_more_predicate : (byte : ℕ) (rest : List ℕ) → byte ≡ 91 → Opened rest → Tail (byte ∷ rest)
one_more_predicate byte rest bracket opened =
    let test = opened.test in
    let quotation = test.value in
    let value = quotation.value in
    let tail = value.tail in
    record {
      predicates = (record { defined_in = opened.owner; name = opened.name; quote = quotation.quote; value = value.value }) ∷ tail.predicates;
      steps = tail.steps;
      each_predicate = (record { names = opened.names; quotes = quotation.quotes; inside = value.inside }, tail.each_predicate);
      each_step = tail.each_step;
      spelling = predicate_spelled byte rest (qualified opened.owner opened.name) opened.rest test.behind quotation.quote quotation.behind value.value value.rest (flat_map predicate_text tail.predicates) (path_text tail.steps) bracket opened.spelling test.spelling quotation.spelling value.spelling tail.spelling;
    }

longer_name : (p : Part) (byte : ℕ) (rest : List ℕ) → continues_identifier byte ≡ true → NameRest p rest → NameRest p (byte ∷ rest)
longer_name p byte rest on more = record { name = byte ∷ more.name; rest = more.rest; goes_on = rw on more.goes_on; follows = more.follows; spelling = ap (λ l. byte ∷ l) more.spelling }

whole_name : (p : Part) (byte : ℕ) (rest : List ℕ) → begins_identifier byte ≡ true → NameRest p rest → NameWhole p (byte ∷ rest)
whole_name p byte rest begins more = record { name = byte ∷ more.name; rest = more.rest; named = rw begins more.goes_on; follows = more.follows; spelling = ap (λ l. byte ∷ l) more.spelling }

longer_module : (p : Part) (byte : ℕ) (rest : List ℕ) → continues_identifier byte ≡ true → ModuleRest p rest → ModuleRest p (byte ∷ rest)
longer_module p byte rest on more = record { owner = byte ∷ more.owner; behind = more.behind; goes_on = rw on more.goes_on; name = more.name; spelling = ap (λ l. byte ∷ l) more.spelling }

no_more_module : (p : Part) (byte : ℕ) (rest : List ℕ) → byte ≡ 58 → NameWhole p rest → ModuleRest p (byte ∷ rest)
no_more_module p byte rest colon name = record { owner = []; behind = rest; goes_on = refl; name = name; spelling = ap (λ b. b ∷ rest) colon }

read_after_step : (byte : ℕ) (rest : List ℕ) → Later rest → option_map_or (leads_to_end rest) (after_step byte) false ≡ true → Tail (byte ∷ rest)
read_after_step byte rest later h =
    elim (either (byte == 47) Slash (when (byte == 91) Open) rest h) [
      | inl slash ↦ one_more_step byte rest (eqb-true _ _ slash.0) (later Slash slash.1)
      | inr other ↦ let bracket = chosen (byte == 91) Open rest other.1 in one_more_predicate byte rest (eqb-true _ _ bracket.0) (later Open bracket.1)
    ]

read_after_name : (p : Part) (byte : ℕ) (rest : List ℕ) → Later rest → option_map_or (leads_to_end rest) (after_name p byte) false ≡ true → Follows p (byte ∷ rest)
read_after_name part.Step byte rest later h = read_after_step byte rest later h
read_after_name part.Predicate byte rest later h =
    let equals = chosen (byte == 61) Equals rest h in
    record { behind = rest; value = later Equals equals.1; spelling = ap (λ b. b ∷ rest) (eqb-true _ _ equals.0) }

read_in_name : (p : Part) (byte : ℕ) (rest : List ℕ) → Later rest → leads_to_end (byte ∷ rest) (Name p) ≡ true → NameRest p (byte ∷ rest)
read_in_name p byte rest later h =
    elim (either (continues_identifier byte) (Name p) (after_name p byte) rest h) [
      | inl on ↦ let more : NameRest p rest = later (Name p) on.1 in longer_name p byte rest on.0 more
      | inr behind ↦ record { name = []; rest = byte ∷ rest; goes_on = refl; follows = read_after_name p byte rest later behind.1; spelling = refl }
    ]

read_in_module : (byte : ℕ) (rest : List ℕ) → Later rest → leads_to_end (byte ∷ rest) Module ≡ true → ModuleRest part.Step (byte ∷ rest)
read_in_module byte rest later h =
    elim (either (byte == 58) (Colon part.Step) (when (continues_identifier byte) Module) rest h) [
      | inl colon ↦ no_more_module part.Step byte rest (eqb-true _ _ colon.0) (later (Colon part.Step) colon.1)
      | inr other ↦ let on = chosen (continues_identifier byte) Module rest other.1 in longer_module part.Step byte rest on.0 (later Module on.1)
    ]

read_in_word : (p : Part) (byte : ℕ) (rest : List ℕ) → Later rest → leads_to_end (byte ∷ rest) (Word p) ≡ true → NameRest p (byte ∷ rest) ⊎ ModuleRest p (byte ∷ rest)
read_in_word p byte rest later h =
    elim (either (continues_identifier byte) (Word p) (cond (byte == 58) (Some (Colon p)) (after_name p byte)) rest h) [
      | inl on ↦ elim (later (Word p) on.1) [
        | inl name ↦ inl (longer_name p byte rest on.0 name)
        | inr owner ↦ inr (longer_module p byte rest on.0 owner)
      ]
      | inr other ↦ elim (either (byte == 58) (Colon p) (after_name p byte) rest other.1) [
        | inl colon ↦ inr (no_more_module p byte rest (eqb-true _ _ colon.0) (later (Colon p) colon.1))
        | inr behind ↦ inl (record { name = []; rest = byte ∷ rest; goes_on = refl; follows = read_after_name p byte rest later behind.1; spelling = refl })
      ]
    ]

-- a word that begins here, as a name with or without a module
names_of_word : (p : Part) (byte : ℕ) (rest : List ℕ) → begins_identifier byte ≡ true → NameRest p rest ⊎ ModuleRest p rest → Names p (byte ∷ rest)
names_of_word p byte rest begins (inl more) =
    let name = whole_name p byte rest begins more in
    record { owner = None; name = name.name; rest = name.rest; names = (tt, name.named); follows = name.follows; spelling = name.spelling }
names_of_word p byte rest begins (inr more) =
    let name = more.name in
    record { owner = Some (byte ∷ more.owner); name = name.name; rest = name.rest; names = (rw begins more.goes_on, name.named); follows = name.follows; spelling = ap (λ l. byte ∷ l) (more.spelling ∙ ap (λ l. more.owner ++ (58 ∷ l)) name.spelling ∙ sym (append_assoc more.owner (58 ∷ name.name) name.rest)) }

read_open : (byte : ℕ) (rest : List ℕ) → Later rest → leads_to_end (byte ∷ rest) Open ≡ true → Opened (byte ∷ rest)
read_open byte rest later h =
    elim (either (byte == 46) Dot (when (begins_identifier byte) (Word part.Predicate)) rest h) [
      | inl dot ↦ record { owner = None; name = 46 ∷ []; rest = rest; names = inr (refl, refl); test = later Dot dot.1; spelling = ap (λ b. b ∷ rest) (eqb-true _ _ dot.0) }
      | inr other ↦
          let word = chosen (begins_identifier byte) (Word part.Predicate) rest other.1 in
          let names : Names part.Predicate (byte ∷ rest) = names_of_word part.Predicate byte rest word.0 (later (Word part.Predicate) word.1) in
          record { owner = names.owner; name = names.name; rest = names.rest; names = inl names.names; test = names.follows; spelling = names.spelling }
    ]

quote_is : (byte : ℕ) → ((byte == 39) || (byte == 34)) ≡ true → (byte ≡ 39) ⊎ (byte ≡ 34)
quote_is byte h =
    elim (or_cases (byte == 39) (byte == 34) h) [ inl single ↦ inl (eqb-true _ _ single) | inr double ↦ inr (eqb-true _ _ double) ]

read_in_value : (quote byte : ℕ) (rest : List ℕ) → Later rest → leads_to_end (byte ∷ rest) (Value quote) ≡ true → Quote quote (byte ∷ rest)
read_in_value quote byte rest later h =
    elim (either (byte == quote) Quoted (Some (Value quote)) rest h) [
      | inl end ↦
          let ended : Ended rest = later Quoted end.1 in
          let same : byte ≡ quote = eqb-true _ _ end.0 in
          record { value = []; rest = ended.rest; inside = refl; tail = ended.tail; spelling = rw (same, ended.spelling) refl }
      | inr on ↦
          let more : Quote quote rest = later (Value quote) on.1 in
          record { value = byte ∷ more.value; rest = more.rest; inside = rw on.0 more.inside; tail = more.tail; spelling = ap (λ l. byte ∷ l) more.spelling }
    ]

whole_module : (byte : ℕ) (rest : List ℕ) → begins_identifier byte ≡ true → ModuleRest part.Step rest → ModuleWhole (byte ∷ rest)
whole_module byte rest begins more = record { owner = byte ∷ more.owner; behind = more.behind; named = rw begins more.goes_on; name = more.name; spelling = ap (λ l. byte ∷ l) more.spelling }

-- a path from its first slash on
rooted : (byte : ℕ) (rest : List ℕ) → byte ≡ 47 → ModuleWhole rest → IsPath (byte ∷ rest)
rooted byte rest slash whole =
    let name = whole.name in
    let tail : Tail name.rest = name.follows in
    let spelled = whole.spelling ∙ ap (λ l. whole.owner ++ (58 ∷ l)) name.spelling ∙ sym (append_assoc whole.owner (58 ∷ name.name) name.rest) in
    record {
      steps = (record { defined_in = Some whole.owner; name = name.name; predicates = tail.predicates }) ∷ tail.steps;
      each = (record { names = (whole.named, name.named); each = tail.each_predicate }, tail.each_step);
      begins = refl;
      spelling = step_spelled byte rest (whole.owner ++ (58 ∷ name.name)) name.rest (flat_map predicate_text tail.predicates) (path_text tail.steps) slash spelled tail.spelling;
    }

-- the same where the first step need not say its module
begun : (byte : ℕ) (rest : List ℕ) → byte ≡ 47 → Names part.Step rest → IsPathText (byte ∷ rest)
begun byte rest slash names =
    let tail : Tail names.rest = names.follows in
    record {
      steps = (record { defined_in = names.owner; name = names.name; predicates = tail.predicates }) ∷ tail.steps;
      each = (record { names = names.names; each = tail.each_predicate }, tail.each_step);
      some = λ none. cc;
      spelling = step_spelled byte rest (qualified names.owner names.name) names.rest (flat_map predicate_text tail.predicates) (path_text tail.steps) slash names.spelling tail.spelling;
    }

-- What leads to the end is a path from there on.
read_on : (rest : List ℕ) (state : State) → leads_to_end rest state ≡ true → Leads state rest
read_on [] (Word part.Step) h = inl (record { name = []; rest = []; goes_on = refl; follows = no_tail; spelling = refl })
read_on [] (Name part.Step) h = record { name = []; rest = []; goes_on = refl; follows = no_tail; spelling = refl }
read_on [] Closed h = no_tail
read_on [] Start h = absurd (cc)
read_on [] Begin h = absurd (cc)
read_on [] Root h = absurd (cc)
read_on [] Module h = absurd (cc)
read_on [] Slash h = absurd (cc)
read_on [] Open h = absurd (cc)
read_on [] (Word part.Predicate) h = absurd (cc)
read_on [] (Colon p) h = absurd (cc)
read_on [] (Name part.Predicate) h = absurd (cc)
read_on [] Dot h = absurd (cc)
read_on [] Equals h = absurd (cc)
read_on [] (Value quote) h = absurd (cc)
read_on [] Quoted h = absurd (cc)
read_on (byte ∷ rest) Start h =
    let slash = chosen (byte == 47) Root rest h in rooted byte rest (eqb-true _ _ slash.0) (read_on rest Root slash.1)
read_on (byte ∷ rest) Begin h =
    let slash = chosen (byte == 47) Slash rest h in begun byte rest (eqb-true _ _ slash.0) (read_on rest Slash slash.1)
read_on (byte ∷ rest) Root h =
    let begins = chosen (begins_identifier byte) Module rest h in
    whole_module byte rest begins.0 (read_on rest Module begins.1)
read_on (byte ∷ rest) Module h = read_in_module byte rest (read_on rest) h
read_on (byte ∷ rest) Slash h =
    let word = chosen (begins_identifier byte) (Word part.Step) rest h in names_of_word part.Step byte rest word.0 (read_on rest (Word part.Step) word.1)
read_on (byte ∷ rest) Open h = read_open byte rest (read_on rest) h
read_on (byte ∷ rest) (Word p) h = read_in_word p byte rest (read_on rest) h
read_on (byte ∷ rest) (Colon p) h =
    let name = chosen (begins_identifier byte) (Name p) rest h in whole_name p byte rest name.0 (read_on rest (Name p) name.1)
read_on (byte ∷ rest) (Name p) h = read_in_name p byte rest (read_on rest) h
read_on (byte ∷ rest) Dot h =
    let equals = chosen (byte == 61) Equals rest h in
    record { behind = rest; value = read_on rest Equals equals.1; spelling = ap (λ b. b ∷ rest) (eqb-true _ _ equals.0) }
read_on (byte ∷ rest) Equals h =
    let quote = chosen ((byte == 39) || (byte == 34)) (Value byte) rest h in
    record { quote = byte; behind = rest; quotes = quote_is byte quote.0; value = read_on rest (Value byte) quote.1; spelling = refl }
read_on (byte ∷ rest) (Value quote) h = read_in_value quote byte rest (read_on rest) h
read_on (byte ∷ rest) Quoted h =
    let closed = chosen (byte == 93) Closed rest h in
    record { rest = rest; tail = read_on rest Closed closed.1; spelling = ap (λ b. b ∷ rest) (eqb-true _ _ closed.0) }
read_on (byte ∷ rest) Closed h = read_after_step byte rest (read_on rest) h

-- What is spelled as a path leads to the end. These states may be followed as a step is.
abbrev EndsStep : State → Type 0
EndsStep state = (may_end state ≡ true) × (next_state state 47 ≡ Some Slash) × (next_state state 91 ≡ Some Open)

abbrev LeadsOn : List ℕ → Type 0
LeadsOn rest = (state : State) → EndsStep state → leads_to_end rest state ≡ true

-- the states behind a name
abbrev EndsName : Part → List ℕ → Type 0
EndsName p rest = (leads_to_end rest (Word p) ≡ true) × (leads_to_end rest (Name p) ≡ true)

name_goes_on : (p : Part) (name rest : List ℕ) → list_all continues_identifier name ≡ true → leads_to_end rest (Name p) ≡ true → leads_to_end (name ++ rest) (Name p) ≡ true
name_goes_on p [] rest all h = h
name_goes_on p (byte ∷ name) rest all h = rw (and_left (continues_identifier byte) (list_all continues_identifier name) all) (name_goes_on p name rest (and_right (continues_identifier byte) (list_all continues_identifier name) all) h)

word_goes_on : (p : Part) (name rest : List ℕ) → list_all continues_identifier name ≡ true → leads_to_end rest (Word p) ≡ true → leads_to_end (name ++ rest) (Word p) ≡ true
word_goes_on p [] rest all h = h
word_goes_on p (byte ∷ name) rest all h = rw (and_left (continues_identifier byte) (list_all continues_identifier name) all) (word_goes_on p name rest (and_right (continues_identifier byte) (list_all continues_identifier name) all) h)

module_goes_on : (owner rest : List ℕ) → list_all continues_identifier owner ≡ true → leads_to_end rest Module ≡ true → leads_to_end (owner ++ rest) Module ≡ true
module_goes_on [] rest all h = h
module_goes_on (byte ∷ owner) rest all h =
    let on = and_left (continues_identifier byte) (list_all continues_identifier owner) all in
    rw (no_colon byte on, on) (module_goes_on owner rest (and_right (continues_identifier byte) (list_all continues_identifier owner) all) h)

name_behind_colon : (p : Part) (name rest : List ℕ) → is_identifier name ≡ true → leads_to_end rest (Name p) ≡ true → leads_to_end (name ++ rest) (Colon p) ≡ true
name_behind_colon p [] rest named h = cc
name_behind_colon p (byte ∷ name) rest named h = rw (and_left (begins_identifier byte) (list_all continues_identifier name) named) (name_goes_on p name rest (and_right (begins_identifier byte) (list_all continues_identifier name) named) h)

-- a module, a colon and a name lead on
named_in_module : (p : Part) (owner name rest : List ℕ) → list_all continues_identifier owner ≡ true → is_identifier name ≡ true → leads_to_end rest (Name p) ≡ true → leads_to_end (owner ++ (58 ∷ (name ++ rest))) (Word p) ≡ true
named_in_module p owner name rest all named h = word_goes_on p owner (58 ∷ (name ++ rest)) all (name_behind_colon p name rest named h)

names_lead : (p : Part) (from : State) → ((byte : ℕ) → begins_identifier byte ≡ true → next_state from byte ≡ Some (Word p)) → (owner : Option (List ℕ)) (name rest : List ℕ) → AreNames owner name → EndsName p rest → leads_to_end (qualified owner name ++ rest) from ≡ true
names_lead p from begins None [] rest names ends = cc
names_lead p from begins None (byte ∷ name) rest names ends =
    rw (begins byte (and_left (begins_identifier byte) (list_all continues_identifier name) names.1))
    (word_goes_on p name rest (and_right (begins_identifier byte) (list_all continues_identifier name) names.1) ends.0)
names_lead p from begins (Some []) name rest names ends = absurd (cc)
names_lead p from begins (Some (byte ∷ owner)) name rest names ends =
    rw (append_assoc owner (58 ∷ name) rest, begins byte (and_left (begins_identifier byte) (list_all continues_identifier owner) names.0))
    (named_in_module p owner name rest (and_right (begins_identifier byte) (list_all continues_identifier owner) names.0) names.1 ends.1)

behind_slash : (byte : ℕ) → begins_identifier byte ≡ true → next_state Slash byte ≡ Some (Word part.Step)
behind_slash byte h = rw h refl

no_dot : (byte : ℕ) → begins_identifier byte ≡ true → (byte == 46) ≡ false
no_dot byte h = grind (arith, nat_tests)

behind_bracket : (byte : ℕ) → begins_identifier byte ≡ true → next_state Open byte ≡ Some (Word part.Predicate)
behind_bracket byte h = rw (no_dot byte h, h) refl

same_byte : (byte : ℕ) → (byte == byte) ≡ true
same_byte byte = grind (arith, nat_tests)

off : (test : Bool) → not test ≡ true → test ≡ false
off true h = cc
off false h = refl

value_leads : (quote : ℕ) (value rest : List ℕ) → list_all (λ byte. not (byte == quote)) value ≡ true → leads_to_end rest Closed ≡ true → leads_to_end (value ++ (quote ∷ 93 ∷ rest)) (Value quote) ≡ true
value_leads quote [] rest inside h = rw (same_byte quote) h
value_leads quote (byte ∷ value) rest inside h =
    rw (off (byte == quote) (and_left (not (byte == quote)) (list_all (λ b. not (b == quote)) value) inside))
    (value_leads quote value rest (and_right (not (byte == quote)) (list_all (λ b. not (b == quote)) value) inside) h)

is_quote : (byte : ℕ) → (byte ≡ 39) ⊎ (byte ≡ 34) → ((byte == 39) || (byte == 34)) ≡ true
is_quote byte (inl single) = rw single refl
is_quote byte (inr double) = rw double refl

quotation_leads : (quote : ℕ) (value rest : List ℕ) → (quote ≡ 39) ⊎ (quote ≡ 34) → list_all (λ byte. not (byte == quote)) value ≡ true → leads_to_end rest Closed ≡ true → leads_to_end (quote ∷ (value ++ (quote ∷ 93 ∷ rest))) Equals ≡ true
quotation_leads quote value rest quotes inside h = rw (is_quote quote quotes) (value_leads quote value rest inside h)

predicate_leads : (p : Predicate) (rest : List ℕ) → IsPredicate p → LeadsOn rest → leads_to_end (qualified p.defined_in p.name ++ (61 ∷ p.quote ∷ (p.value ++ (p.quote ∷ 93 ∷ rest)))) Open ≡ true
predicate_leads p rest is on =
    let quotation = quotation_leads p.quote p.value rest is.quotes is.inside (on Closed (refl, refl, refl)) in
    elim is.names [
      | inl names ↦ names_lead part.Predicate Open behind_bracket p.defined_in p.name (61 ∷ p.quote ∷ (p.value ++ (p.quote ∷ 93 ∷ rest))) names (quotation, quotation)
      | inr dot ↦ rw (dot.0, dot.1) quotation
    ]

predicate_regrouped : (names : List ℕ) (quote : ℕ) (value predicates rest : List ℕ) → ((names ++ (61 ∷ quote ∷ (value ++ (quote ∷ 93 ∷ [])))) ++ predicates) ++ rest ≡ names ++ (61 ∷ quote ∷ (value ++ (quote ∷ 93 ∷ (predicates ++ rest))))
predicate_regrouped names quote value predicates rest = simp append_assoc

predicates_lead : (ps : List Predicate) (rest : List ℕ) → AllByRecursion IsPredicate ps → LeadsOn rest → LeadsOn (flat_map predicate_text ps ++ rest)
predicates_lead [] rest each on = on
predicates_lead (p ∷ ps) rest each on = λ state ends.
    rw (ends.2, predicate_regrouped (qualified p.defined_in p.name) p.quote p.value (flat_map predicate_text ps) rest)
    (predicate_leads p (flat_map predicate_text ps ++ rest) each.0 (predicates_lead ps rest each.1 on))

steps_lead : (steps : List Step) → AllByRecursion IsStep steps → LeadsOn (path_text steps)
steps_lead [] each = λ state ends. ends.0
steps_lead (s ∷ steps) each = λ state ends.
    let on : LeadsOn (flat_map predicate_text s.predicates ++ path_text steps) = predicates_lead s.predicates (path_text steps) each.0.each (steps_lead steps each.1) in
    rw (ends.1, append_assoc (qualified s.defined_in s.name) (flat_map predicate_text s.predicates) (path_text steps))
    (names_lead part.Step Slash behind_slash s.defined_in s.name (flat_map predicate_text s.predicates ++ path_text steps) each.0.names
    (on (Word part.Step) (refl, refl, refl), on (Name part.Step) (refl, refl, refl)))

root_leads : (owner : Option (List ℕ)) (name rest : List ℕ) → IsSome owner → AreNames owner name → leads_to_end rest (Name part.Step) ≡ true → leads_to_end (qualified owner name ++ rest) Root ≡ true
root_leads None name rest some names h = cc
root_leads (Some []) name rest some names h = absurd (cc)
root_leads (Some (byte ∷ owner)) name rest some names h =
    rw (append_assoc owner (58 ∷ name) rest, and_left (begins_identifier byte) (list_all continues_identifier owner) names.0)
    (module_goes_on owner (58 ∷ (name ++ rest)) (and_right (begins_identifier byte) (list_all continues_identifier owner) names.0) (name_behind_colon part.Step name rest names.1 h))

steps_from_root : (steps : List Step) → AllByRecursion IsStep steps → BeginsInModule steps → leads_to_end (path_text steps) Start ≡ true
steps_from_root [] each begins = absurd begins
steps_from_root (s ∷ steps) each begins =
    let on : LeadsOn (flat_map predicate_text s.predicates ++ path_text steps) = predicates_lead s.predicates (path_text steps) each.0.each (steps_lead steps each.1) in
    rw (append_assoc (qualified s.defined_in s.name) (flat_map predicate_text s.predicates) (path_text steps))
    (root_leads s.defined_in s.name (flat_map predicate_text s.predicates ++ path_text steps) begins each.0.names (on (Name part.Step) (refl, refl, refl)))

-- The reader comes to an end exactly on paths.
path_leads : (text : List ℕ) → IsPath text → leads_to_end text Start ≡ true
path_leads text path = rw path.spelling (steps_from_root path.steps path.each path.begins)

leads_path : (text : List ℕ) → leads_to_end text Start ≡ true → IsPath text
leads_path text h = read_on text Start h

pub path_read : (text : List ℕ) (answer : Bool) → answer ≡ leads_to_end text Start → IsTrue answer ↔ IsPath text
path_read text answer e = (λ h. leads_path text (sym e ∙ h), λ path. e ∙ path_leads text path)

steps_from_begin : (steps : List Step) → AllByRecursion IsStep steps → steps ≢ [] → leads_to_end (path_text steps) Begin ≡ true
steps_from_begin [] each some = absurd (some refl)
steps_from_begin (s ∷ steps) each some = steps_lead (s ∷ steps) each Closed (refl, refl, refl)

-- The same for paths whose steps need not say their modules.
pub path_text_leads : (text : List ℕ) → IsPathText text → leads_to_end text Begin ≡ true
path_text_leads text path = rw path.spelling (steps_from_begin path.steps path.each path.some)

pub leads_path_text : (text : List ℕ) → leads_to_end text Begin ≡ true → IsPathText text
leads_path_text text h = read_on text Begin h
