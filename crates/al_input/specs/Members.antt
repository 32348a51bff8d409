-- Members of objects: how they are spelled, which are known, and what is read of them.
use Rattle.std.specs.Prelude.{⊤, ℕ, ◌==◌, Bool, if◌then◌else◌, Option, None, Some, Result, Ok, Err, List, [], ◌∷◌, unwrap_or}
use Rattle.std.specs.Cmp.Lexicographic.{pointwise}
use Rattle.std.specs.List.{list_all, list_any}
use Rattle.al_base.specs.Answers.{and_then, or_fault}
use Rattle.serde_json.specs.Data.{Data, Members, no_members, member}
use Rattle.serde_json.specs.Find.{as_object, get}
use Rattle.al_input.specs.declared.fault.InputFault.{InputFault}
use Rattle.al_input.specs.declared.fault.InputFault.TheVariants.{Unknown, Missing, BadValue}

-- A member has two spellings: its plain name, and its name behind the module that defines it and a colon. The module is `ietf-alarms` inside its
-- own nodes, `alarmd` inside reports and inventories, and `ietf-alarms-x733` for event types.

-- ---- which members there may be

abbrev pub names_in : Members → List (List ℕ)
names_in no_members = []
names_in (member name d ms) = name ∷ names_in ms

abbrev pub is_among : List (List ℕ) → List ℕ → Bool
is_among known name = list_any (pointwise ◌==◌ name) known

-- An object that has no members but of these spellings; an unknown one is its first fault.
unfoldable pub known_only : List (List ℕ) → Data → Result ⊤ InputFault
known_only known d =
    and_then (or_fault BadValue (as_object d)) (λ ms. if list_all (is_among known) (names_in ms) then Ok tt else Err Unknown)

-- ---- what is read of a member

-- the one of two, if there is one; both are a fault
unfoldable pub one_of : {A : Type 0} → Option A → Option A → Result (Option A) InputFault
one_of None second = Ok second
one_of (Some first) None = Ok (Some first)
one_of (Some first) (Some second) = Err BadValue

-- what stands under one of the two spellings
abbrev pub value_at : List ℕ → List ℕ → Data → Result (Option Data) InputFault
value_at plain qualified d = one_of (get plain d) (get qualified d)

abbrev pub read_some : {A : Type 0} → (Data → Result A InputFault) → Option Data → Result (Option A) InputFault
read_some read None = Ok None
read_some read (Some d) = and_then (read d) (λ a. Ok (Some a))

-- a member that may be absent
unfoldable pub optional : {A : Type 0} → List ℕ → List ℕ → (Data → Result A InputFault) → Data → Result (Option A) InputFault
optional plain qualified read d = and_then (value_at plain qualified d) (read_some read)

-- a member that has to be there
unfoldable pub required : {A : Type 0} → List ℕ → List ℕ → (Data → Result A InputFault) → Data → Result A InputFault
required plain qualified read d = and_then (value_at plain qualified d) (λ found. and_then (or_fault Missing found) read)

-- a member in whose place, where it is absent, a value stands
abbrev pub with_default : {A : Type 0} → A → List ℕ → List ℕ → (Data → Result A InputFault) → Data → Result A InputFault
with_default a plain qualified read d = and_then (optional plain qualified read d) (λ found. Ok (unwrap_or found a))
