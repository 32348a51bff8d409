-- How long texts and lists may be, and how great numbers.
use Rattle.std.specs.Prelude.{◌≡◌, ◌≢◌, ℕ, ◌*◌, ◌/◌, ◌%◌, ◌≤◌, ◌==◌, nat_le, Bool, not, ◌&&◌, List, [], ◌∷◌, All, Contains, codes, length, IsUtf8}
use Rattle.std.specs.Cmp.Lexicographic.{pointwise}
use Rattle.std.specs.List.{list_all, list_any}
use Rattle.std.specs.Str.{is_utf8}

-- the last moment that a stamp can tell, 9999-12-31T23:59:59.999Z
abbrev pub last_stamp : ℕ
last_stamp = 253402300799999

-- how many bytes texts may have
abbrev pub longest_resource : ℕ
longest_resource = 512

abbrev pub shortest_type : ℕ
shortest_type = 3

abbrev pub longest_type : ℕ
longest_type = 128

abbrev pub longest_qualifier : ℕ
longest_qualifier = 255

abbrev pub longest_alarm_text : ℕ
longest_alarm_text = 255

abbrev pub longest_operator_text : ℕ
longest_operator_text = 255

abbrev pub longest_description : ℕ
longest_description = 255

abbrev pub longest_pattern : ℕ
longest_pattern = 255

abbrev pub longest_operator_name : ℕ
longest_operator_name = 64

abbrev pub longest_shelf_name : ℕ
longest_shelf_name = 64

-- how many alarms there may be, on the list and on the shelf together
abbrev pub most_alarms : ℕ
most_alarms = 10000

-- how many shelves there may be, and how many criteria on resources and on types each may have
abbrev pub most_shelves : ℕ
most_shelves = 64

abbrev pub most_shelf_resources : ℕ
most_shelf_resources = 64

abbrev pub most_shelf_types : ℕ
most_shelf_types = 64

-- how many identities and rows an inventory may have, and how many resources a row
abbrev pub most_identities : ℕ
most_identities = 2000

abbrev pub most_rows : ℕ
most_rows = 2000

abbrev pub most_row_resources : ℕ
most_row_resources = 64

-- how many of an alarm's operator entries are kept, the newest
abbrev pub most_operator_entries : ℕ
most_operator_entries = 64

-- how many notes are kept, the newest, and how many of them a page has
abbrev pub most_notes : ℕ
most_notes = 4096

abbrev pub most_page_notes : ℕ
most_page_notes = 256

-- The value of `max-alarm-status-changes`, where it isn't infinite, and the one that stands at first.
abbrev pub most_status_changes : ℕ
most_status_changes = 65535

abbrev pub first_status_changes : ℕ
first_status_changes = 32

abbrev pub IsStatusChanges : ℕ → Type 0
IsStatusChanges most = (1 ≤ most) × (most ≤ most_status_changes)

-- how many of a unit of time an age may have that a filter asks for
abbrev pub most_age_units : ℕ
most_age_units = 65535

-- a set of severities: bit n is that of the n-th, and bit 0 that of indeterminate
abbrev pub IsSeveritySet : ℕ → Type 0
IsSeveritySet set = set ≤ 31

-- UTF-8 text of so many bytes
pub record IsText (least most : ℕ) (text : List ℕ) : Type 0 where
  pub utf8 : IsUtf8 text
  pub shortest : least ≤ length text
  pub longest : length text ≤ most

unfoldable pub is_text : ℕ → ℕ → List ℕ → Bool
is_text least most text = nat_le least (length text) && nat_le (length text) most && is_utf8 text

abbrev pub IsResourceText : List ℕ → Type 0
IsResourceText text = IsText 1 longest_resource text

abbrev pub IsQualifier : List ℕ → Type 0
IsQualifier text = IsText 0 longest_qualifier text

abbrev pub IsAlarmText : List ℕ → Type 0
IsAlarmText text = IsText 0 longest_alarm_text text

abbrev pub IsOperatorText : List ℕ → Type 0
IsOperatorText text = IsText 0 longest_operator_text text

abbrev pub IsDescription : List ℕ → Type 0
IsDescription text = IsText 0 longest_description text

abbrev pub IsShelfName : List ℕ → Type 0
IsShelfName text = IsText 1 longest_shelf_name text

-- the text of a shelf's pattern for qualifiers
abbrev pub IsPatternText : List ℕ → Type 0
IsPatternText text = IsText 0 longest_pattern text

-- the name of an operator that a filter asks for, which may be empty
abbrev pub IsFilterName : List ℕ → Type 0
IsFilterName text = IsText 0 longest_operator_name text

-- the name under which the server itself adds operator entries
abbrev pub own_name : List ℕ
own_name = codes "alarmd"

-- the name of an operator: printed characters of ASCII and blanks, and not the server's own name
pub record IsOperatorName (name : List ℕ) : Type 0 where
  pub shortest : 1 ≤ length name
  pub longest : length name ≤ longest_operator_name
  pub printed : All (λ byte. (0x20 ≤ byte) × (byte ≤ 0x7E)) name
  pub foreign : name ≢ own_name

unfoldable pub is_operator_name : List ℕ → Bool
is_operator_name name =
    nat_le 1 (length name) && nat_le (length name) longest_operator_name
    && list_all (λ byte. nat_le 0x20 byte && nat_le byte 0x7E) name && not (pointwise ◌==◌ name own_name)

-- how many milliseconds a second, a minute, an hour, a day and a week have
abbrev pub age_units : List ℕ
age_units = 1000 ∷ 60000 ∷ 3600000 ∷ 86400000 ∷ 604800000 ∷ []

-- an age in milliseconds that a filter can ask for: up to 65,535 of one of the units
pub record IsAge (age : ℕ) : Type 0 where
  pub count : ℕ
  pub unit : ℕ
  pub few : count ≤ most_age_units
  pub known : Contains age_units unit
  pub is : age ≡ count * unit

unfoldable pub is_age : ℕ → Bool
is_age age = list_any (λ unit. (age % unit == 0) && nat_le (age / unit) most_age_units) age_units

abbrev pub is_stamp : ℕ → Bool
is_stamp ms = nat_le ms last_stamp

abbrev pub is_severity_set : ℕ → Bool
is_severity_set set = nat_le set 31
