-- How values of each kind are read.
use Rattle.std.specs.Prelude.{ℕ, ◌==◌, nat_le, Bool, not, ◌&&◌, if◌then◌else◌, Option, Some, None, Result, Ok, Err, List, [], ◌∷◌, find, length, option_and_then}
use Rattle.std.specs.Cmp.Lexicographic.{pointwise}
use Rattle.al_base.specs.Identifiers.{is_type_name}
use Rattle.al_base.specs.Limits.{is_text}
use Rattle.al_base.specs.Answers.{and_then, each, or_fault}
use Rattle.al_uri.specs.TypeNames.{with_module}
use Rattle.serde_json.specs.Data.{Data, Items, no_items, item}
use Rattle.serde_json.specs.Find.{as_array, as_bool, as_number, as_str, as_u64, at}
use Rattle.al_ids.specs.Forms.{is_match, is_pattern_text}
use Rattle.al_input.specs.declared.fault.InputFault.{InputFault}
use Rattle.al_input.specs.declared.fault.InputFault.TheVariants.{BadValue}
use Rattle.al_base.specs.Repeats.{repeats}

-- the value, where it passes the test
unfoldable pub passed : {A : Type 0} → (A → Bool) → A → Result A InputFault
passed test a = if test a then Ok a else Err BadValue

-- ---- numbers and flags

-- a natural number in a range
unfoldable pub number : ℕ → ℕ → Data → Result ℕ InputFault
number least most d =
    and_then (or_fault BadValue (option_and_then as_u64 (as_number d))) (λ n. if nat_le least n && nat_le n most then Ok n else Err BadValue)

unfoldable pub flag : Data → Result Bool InputFault
flag d = or_fault BadValue (as_bool d)

-- ---- texts

abbrev pub string_of : Data → Result (List ℕ) InputFault
string_of d = or_fault BadValue (as_str d)

-- a text of so many bytes
unfoldable pub text : ℕ → ℕ → Data → Result (List ℕ) InputFault
text least most d = and_then (string_of d) (passed (is_text least most))

-- the name of an alarm type, of the module `ietf-alarms` where it says none
unfoldable pub type_name : Data → Result (List ℕ) InputFault
type_name d = and_then (string_of d) (λ name. passed is_type_name (with_module name))

unfoldable pub resource_match : Data → Result (List ℕ) InputFault
resource_match d = and_then (string_of d) (passed is_match)

unfoldable pub pattern : Data → Result (List ℕ) InputFault
pattern d = and_then (string_of d) (passed is_pattern_text)

-- ---- words

-- the one of these values that the word stands for
abbrev pub word_of : {W : Type 0} → (W → List ℕ) → List W → List ℕ → Option W
word_of name words text = find (λ word. pointwise ◌==◌ text (name word)) words

unfoldable pub word : {W : Type 0} → (W → List ℕ) → List W → Data → Result W InputFault
word name words d = and_then (string_of d) (λ text. or_fault BadValue (word_of name words text))

-- ---- lists

abbrev pub listed : Items → List Data
listed no_items = []
listed (item d ds) = d ∷ listed ds

-- at most so many values; the length is tested before the values
unfoldable pub list : {A : Type 0} → ℕ → (Data → Result A InputFault) → Data → Result (List A) InputFault
list most read d =
    and_then (or_fault BadValue (as_array d)) (λ ds. if nat_le (length (listed ds)) most then each read (listed ds) else Err BadValue)

-- a list without repeats, for which it is tested after all its values
unfoldable pub set : {A : Type 0} → ℕ → (A → A → Bool) → (Data → Result A InputFault) → Data → Result (List A) InputFault
set most same read d = and_then (list most read d) (passed (λ values. not (repeats same values)))

-- ---- a list of one

abbrev pub alone : Option Data → Option Data → Result Data InputFault
alone (Some first) None = Ok first
alone first second = Err BadValue

-- the one value of a list that has no other
unfoldable pub only : Data → Result Data InputFault
only d = alone (at 0 d) (at 1 d)
