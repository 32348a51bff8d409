-- The members of a report, read from their texts.
use Rattle.std.proofs.Common.{◌≡◌, ℕ, Option, None, Some, Result, Ok, Err, List, [], refl, unwrap_or}
use Rattle.std.specs.Prelude.{codes}
use Rattle.al_base.specs.Answers.{and_then, or_fault}
use Rattle.al_base.specs.Identifiers.{is_type_name}
use Rattle.al_base.specs.Limits.{is_text, longest_alarm_text, longest_qualifier, longest_resource}
use Rattle.al_base.specs.Names.{status_name, statuses}
use Rattle.al_uri.specs.TypeNames.{with_module}
use Rattle.serde_json.specs.Data.{Data}
use Rattle.al_input.specs.Inputs.{report_qualifier, report_resource, report_status, report_text, report_type}
use Rattle.al_input.specs.Members.{optional, read_some, required, value_at}
use Rattle.al_input.specs.Readers.{passed, string_of, text, type_name, word, word_of}
use Rattle.al_input.specs.Reports.{needed_at, text_at}
use Rattle.al_input.specs.declared.fault.InputFault.{InputFault}
use Rattle.al_input.specs.declared.fault.InputFault.TheVariants.{BadValue, Missing}
use Rattle.al_input.specs.declared.report.Member.TheVariants.{Resource, TypeId, Severity, AlarmText, Qualifier}

abbrev of_string : {A : Type 0} → (List ℕ → Result A InputFault) → Data → Result A InputFault
of_string read d = and_then (string_of d) read

string_first : {A : Type 0} (read : List ℕ → Result A InputFault) (s : Result (List ℕ) InputFault)
    → and_then s read ≡ and_then (and_then (and_then s (λ t. Ok (Some t))) (or_fault Missing)) read
string_first read (Ok t) = refl
string_first read (Err fault) = refl

found_first : {A : Type 0} (read : List ℕ → Result A InputFault) (found : Result (Option Data) InputFault)
    → and_then found (λ o. and_then (or_fault Missing o) (of_string read)) ≡ and_then (and_then (and_then found (read_some string_of)) (or_fault Missing)) read
found_first read (Err fault) = refl
found_first read (Ok None) = refl
found_first read (Ok (Some d)) = string_first read (string_of d)

needed_first : {A : Type 0} (read : List ℕ → Result A InputFault) (plain qualified : List ℕ) (d : Data)
    → required plain qualified (of_string read) d ≡ and_then (and_then (optional plain qualified string_of d) (or_fault Missing)) read
unfolding required optional
needed_first read plain qualified d = found_first read (value_at plain qualified d)

-- ---- members that have to be there

pub resource_needed : (d : Data) → report_resource d ≡ and_then (needed_at Resource d) (passed (is_text 1 longest_resource))
unfolding report_resource text
resource_needed d = needed_first (passed (is_text 1 longest_resource)) (codes "resource") (codes "alarmd:resource") d

pub type_needed : (d : Data) → report_type d ≡ and_then (needed_at TypeId d) (λ name. passed is_type_name (with_module name))
unfolding report_type type_name
type_needed d = needed_first (λ name. passed is_type_name (with_module name)) (codes "alarm-type-id") (codes "alarmd:alarm-type-id") d

pub status_needed : (d : Data) → report_status d ≡ and_then (needed_at Severity d) (λ name. or_fault BadValue (word_of status_name statuses name))
unfolding report_status word
status_needed d = needed_first (λ name. or_fault BadValue (word_of status_name statuses name)) (codes "perceived-severity") (codes "alarmd:perceived-severity") d

pub text_needed : (d : Data) → report_text d ≡ and_then (needed_at AlarmText d) (passed (is_text 0 longest_alarm_text))
unfolding report_text text
text_needed d = needed_first (passed (is_text 0 longest_alarm_text)) (codes "alarm-text") (codes "alarmd:alarm-text") d

-- ---- the qualifier, which may be absent

-- a text that may be absent
abbrev pub or_empty : Option (List ℕ) → Result (List ℕ) InputFault
or_empty None = Ok []
or_empty (Some t) = passed (is_text 0 longest_qualifier) t

same_after : (r : Result (List ℕ) InputFault) → and_then (and_then r (λ x. Ok (Some x))) (λ found. Ok (unwrap_or found [])) ≡ r
same_after (Ok x) = refl
same_after (Err fault) = refl

string_or : (s : Result (List ℕ) InputFault)
    → and_then (and_then (and_then s (passed (is_text 0 longest_qualifier))) (λ x. Ok (Some x))) (λ found. Ok (unwrap_or found [])) ≡ and_then (and_then s (λ t. Ok (Some t))) or_empty
string_or (Ok t) = same_after (passed (is_text 0 longest_qualifier) t)
string_or (Err fault) = refl

found_or : (found : Result (Option Data) InputFault)
    → and_then (and_then found (read_some (text 0 longest_qualifier))) (λ found. Ok (unwrap_or found [])) ≡ and_then (and_then found (read_some string_of)) or_empty
unfolding text
found_or (Err fault) = refl
found_or (Ok None) = refl
found_or (Ok (Some d)) = string_or (string_of d)

pub qualifier_read : (d : Data) → report_qualifier d ≡ and_then (text_at Qualifier d) or_empty
unfolding report_qualifier optional
qualifier_read d = found_or (value_at (codes "alarm-type-qualifier") (codes "alarmd:alarm-type-qualifier") d)
