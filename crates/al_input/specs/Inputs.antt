-- What the body of a request asks, resource by resource. The members of an object are judged in the order in which they are written here.
use Rattle.std.specs.Prelude.{⊤, ℕ, zero, suc, ◌+◌, ◌*◌, ◌==◌, Bool, true, if◌then◌else◌, Option, None, Some, Result, Ok, Err, List, [], ◌∷◌, codes, count_by}
use Rattle.std.specs.Cmp.Lexicographic.{pointwise}
use Rattle.std.specs.Option.{option_map}
use Rattle.al_base.specs.Limits.{longest_alarm_text, longest_description, longest_operator_name, longest_operator_text, longest_qualifier, longest_resource, longest_shelf_name, most_identities, most_row_resources, most_rows, most_shelf_resources, most_shelf_types, most_status_changes}
use Rattle.al_base.specs.Names.{event_type_name, event_types, rank_of, severities, severity_name, state_name, states, status_name, statuses}
use Rattle.al_base.specs.declared.event_type.EventType.{EventType}
use Rattle.al_base.specs.declared.event_type.EventType.TheVariants.{Other}
use Rattle.al_base.specs.declared.operator.OperatorState.{OperatorState}
use Rattle.al_base.specs.declared.severity.Severity.{Severity}
use Rattle.al_base.specs.declared.severity.Status.{Status}
use Rattle.al_base.specs.declared.severity.Severity.TheVariants.{Indeterminate, Warning, Minor, Major, Critical}
use Rattle.al_ids.specs.declared.key.AlarmKey.{AlarmKey}
use Rattle.al_model.specs.declared.event.Side.{Side}
use Rattle.al_model.specs.declared.event.Side.TheVariants as sides
use Rattle.al_model.specs.declared.request.Request.{Request}
use Rattle.al_model.specs.declared.request.Request.TheVariants as requests
use Rattle.al_select.specs.declared.compress.CompressFilter.{CompressFilter}
use Rattle.al_select.specs.declared.purge.Clearance.TheVariants.{Any}
use Rattle.al_select.specs.declared.purge.Compare.{Compare}
use Rattle.al_select.specs.declared.purge.Compare.TheVariants.{Below, Equal, Above}
use Rattle.al_select.specs.declared.purge.PurgeFilter.{PurgeFilter}
use Rattle.al_shelf.specs.Same.{same_type_match}
use Rattle.al_shelf.specs.declared.shelf.Shelf.{Shelf}
use Rattle.al_shelf.specs.declared.shelf.TypeMatch.{TypeMatch}
use Rattle.al_shelf.specs.declared.spot.Spot.{Spot}
use Rattle.al_types.specs.Inventories.{InventoryView}
use Rattle.al_types.specs.Sound.{is_sound}
use Rattle.al_types.specs.declared.row.Identity.{Identity}
use Rattle.al_types.specs.declared.row.Row.{Row}
use Rattle.al_base.specs.Answers.{and_then}
use Rattle.al_uri.specs.declared.target.Target.{Target}
use Rattle.al_uri.specs.declared.target.Target.TheVariants as targets
use Rattle.serde_json.specs.Data.{Data}
use Rattle.serde_json.specs.Find.{as_str}
use Rattle.al_input.specs.Members.{known_only, one_of, optional, required, with_default}
use Rattle.al_input.specs.Readers.{flag, list, number, only, passed, pattern, resource_match, set, text, type_name, word}
use Rattle.al_select.specs.Clearances.{clearance_name, clearances}
use Rattle.al_notify.specs.Modes.{mode_name, modes}
use Rattle.al_input.specs.declared.asked.Asked.{Asked}
use Rattle.al_input.specs.declared.asked.Asked.TheVariants.{Whole, Operate}
use Rattle.al_input.specs.declared.fault.InputFault.{InputFault}
use Rattle.al_input.specs.declared.fault.InputFault.TheVariants.{BadValue}
use Rattle.al_base.specs.Operators.{is_operators}

-- a body: an object of one member
abbrev pub body : {A : Type 0} → List ℕ → List ℕ → (Data → Result A InputFault) → Data → Result A InputFault
body plain qualified read d = and_then (known_only (plain ∷ qualified ∷ []) d) (λ _. required plain qualified read d)

abbrev pub whole : {A : Type 0} → (A → Request) → Result A InputFault → Result Asked InputFault
whole asks said = and_then said (λ a. Ok (Whole (asks a)))

-- ---- the rules of the list

-- how many status entries an alarm keeps, none for all
abbrev pub maximum_of : Option (List ℕ) → Data → Result (Option ℕ) InputFault
maximum_of (Some word) d = if pointwise ◌==◌ word (codes "infinite") then Ok None else Err BadValue
maximum_of None d = and_then (number 1 most_status_changes d) (λ most. Ok (Some most))

unfoldable pub maximum : Data → Result (Option ℕ) InputFault
maximum d = maximum_of (as_str d) d

unfoldable pub max_input : Data → Result Asked InputFault
max_input d = whole requests.SetMax (body (codes "max-alarm-status-changes") (codes "ietf-alarms:max-alarm-status-changes") maximum d)

unfoldable pub mode_input : Data → Result Asked InputFault
mode_input d = whole requests.SetMode (body (codes "notify-status-changes") (codes "ietf-alarms:notify-status-changes") (word mode_name modes) d)

unfoldable pub level_input : Data → Result Asked InputFault
level_input d = whole requests.SetLevel (body (codes "notify-severity-level") (codes "ietf-alarms:notify-severity-level") (word severity_name severities) d)

-- ---- shelves

abbrev pub criterion_members : List (List ℕ)
criterion_members = codes "alarm-type-id" ∷ codes "ietf-alarms:alarm-type-id" ∷ codes "alarm-type-qualifier-match" ∷ codes "ietf-alarms:alarm-type-qualifier-match" ∷ []

unfoldable pub criterion_names : Data → Result ⊤ InputFault
criterion_names d = known_only criterion_members d

unfoldable pub criterion_type : Data → Result (List ℕ) InputFault
criterion_type d = required (codes "alarm-type-id") (codes "ietf-alarms:alarm-type-id") type_name d

unfoldable pub criterion_qualifier : Data → Result (List ℕ) InputFault
criterion_qualifier d = required (codes "alarm-type-qualifier-match") (codes "ietf-alarms:alarm-type-qualifier-match") pattern d

unfoldable pub criterion : Data → Result TypeMatch InputFault
criterion d =
    and_then (criterion_names d) (λ _.
    and_then (criterion_type d) (λ type_id.
    and_then (criterion_qualifier d) (λ qualifier.
    Ok (record { type_id = type_id; qualifier = qualifier }))))

-- the name that a path asks for, where it asks for one
abbrev pub is_wanted : Option (List ℕ) → List ℕ → Bool
is_wanted None name = true
is_wanted (Some wanted) name = pointwise ◌==◌ name wanted

abbrev pub shelf_members : List (List ℕ)
shelf_members = codes "name" ∷ codes "ietf-alarms:name" ∷ codes "resource" ∷ codes "ietf-alarms:resource" ∷ codes "alarm-type" ∷ codes "ietf-alarms:alarm-type" ∷ codes "description" ∷ codes "ietf-alarms:description" ∷ []

unfoldable pub shelf_names : Data → Result ⊤ InputFault
shelf_names d = known_only shelf_members d

unfoldable pub shelf_name : Data → Result (List ℕ) InputFault
shelf_name d = required (codes "name") (codes "ietf-alarms:name") (text 1 longest_shelf_name) d

unfoldable pub shelf_resources : Data → Result (List (List ℕ)) InputFault
shelf_resources d = with_default [] (codes "resource") (codes "ietf-alarms:resource") (set most_shelf_resources (pointwise ◌==◌) resource_match) d

unfoldable pub shelf_types : Data → Result (List TypeMatch) InputFault
shelf_types d = with_default [] (codes "alarm-type") (codes "ietf-alarms:alarm-type") (set most_shelf_types same_type_match criterion) d

unfoldable pub shelf_description : Data → Result (Option (List ℕ)) InputFault
shelf_description d = optional (codes "description") (codes "ietf-alarms:description") (text 0 longest_description) d

unfoldable pub shelf : Option (List ℕ) → Data → Result Shelf InputFault
shelf wanted d =
    and_then (shelf_names d) (λ _.
    and_then (shelf_name d) (λ given.
    and_then (passed (is_wanted wanted) given) (λ name.
    and_then (shelf_resources d) (λ resources.
    and_then (shelf_types d) (λ types.
    and_then (shelf_description d) (λ description.
    Ok (record { name = name; resources = resources; types = types; description = description })))))))

-- a list of one shelf
unfoldable pub shelf_body : Option (List ℕ) → Data → Result Shelf InputFault
shelf_body wanted d = and_then (body (codes "shelf") (codes "ietf-alarms:shelf") only d) (shelf wanted)

unfoldable pub creation_input : Spot → Data → Result Asked InputFault
creation_input spot d = whole (λ made. requests.CreateShelf made spot) (shelf_body None d)

unfoldable pub shelf_input : List ℕ → Spot → Data → Result Asked InputFault
shelf_input name spot d = whole (λ made. requests.PutShelf made spot) (shelf_body (Some name) d)

-- ---- what an operator says

unfoldable pub operators_state : Data → Result OperatorState InputFault
operators_state d = and_then (word state_name states d) (passed is_operators)

abbrev pub action_members : List (List ℕ)
action_members = codes "state" ∷ codes "ietf-alarms:state" ∷ codes "text" ∷ codes "ietf-alarms:text" ∷ []

unfoldable pub action : Data → Result (OperatorState × Option (List ℕ)) InputFault
action d =
    and_then (known_only action_members d) (λ _.
    and_then (required (codes "state") (codes "ietf-alarms:state") operators_state d) (λ state.
    and_then (optional (codes "text") (codes "ietf-alarms:text") (text 0 longest_operator_text) d) (λ said.
    Ok (state, said))))

unfoldable pub action_input : AlarmKey → Data → Result Asked InputFault
action_input key d = and_then (body (codes "input") (codes "ietf-alarms:input") action d) (λ said. Ok (Operate key said.0 said.1))

-- ---- purges

-- the age, in milliseconds, where a unit says it; no second unit may
unfoldable pub in_unit : ℕ → List ℕ → List ℕ → Option ℕ → Data → Result (Option ℕ) InputFault
in_unit unit plain qualified earlier d = and_then (optional plain qualified (number 0 65535) d) (λ count. one_of earlier (option_map (λ n. n * unit) count))

abbrev pub age_members : List (List ℕ)
age_members =
    codes "seconds" ∷ codes "ietf-alarms:seconds" ∷ codes "minutes" ∷ codes "ietf-alarms:minutes" ∷ codes "hours" ∷ codes "ietf-alarms:hours" ∷ codes "days" ∷ codes "ietf-alarms:days" ∷ codes "weeks" ∷ codes "ietf-alarms:weeks" ∷ []

unfoldable pub age : Data → Result (Option ℕ) InputFault
age d =
    and_then (known_only age_members d) (λ _.
    and_then (in_unit 1000 (codes "seconds") (codes "ietf-alarms:seconds") None d) (λ seconds.
    and_then (in_unit 60000 (codes "minutes") (codes "ietf-alarms:minutes") seconds d) (λ minutes.
    and_then (in_unit 3600000 (codes "hours") (codes "ietf-alarms:hours") minutes d) (λ hours.
    and_then (in_unit 86400000 (codes "days") (codes "ietf-alarms:days") hours d) (λ days.
    in_unit 604800000 (codes "weeks") (codes "ietf-alarms:weeks") days d)))))

-- how a severity is to stand to another, where a member says it; no second one may
unfoldable pub by : Compare → List ℕ → List ℕ → Option (Compare × Severity) → Data → Result (Option (Compare × Severity)) InputFault
by compare plain qualified earlier d =
    and_then (optional plain qualified (word severity_name severities) d) (λ severity. one_of earlier (option_map (λ given. (compare, given)) severity))

abbrev pub compared_members : List (List ℕ)
compared_members = codes "below" ∷ codes "ietf-alarms:below" ∷ codes "is" ∷ codes "ietf-alarms:is" ∷ codes "above" ∷ codes "ietf-alarms:above" ∷ []

unfoldable pub compared_names : Data → Result ⊤ InputFault
compared_names d = known_only compared_members d

unfoldable pub or_below : Option (Compare × Severity) → Data → Result (Option (Compare × Severity)) InputFault
or_below earlier d = by Below (codes "below") (codes "ietf-alarms:below") earlier d

unfoldable pub or_equal : Option (Compare × Severity) → Data → Result (Option (Compare × Severity)) InputFault
or_equal earlier d = by Equal (codes "is") (codes "ietf-alarms:is") earlier d

unfoldable pub or_above : Option (Compare × Severity) → Data → Result (Option (Compare × Severity)) InputFault
or_above earlier d = by Above (codes "above") (codes "ietf-alarms:above") earlier d

unfoldable pub compared : Data → Result (Option (Compare × Severity)) InputFault
compared d =
    and_then (compared_names d) (λ _.
    and_then (or_below None d) (λ below.
    and_then (or_equal below d) (λ equal.
    or_above equal d)))

abbrev pub newest_members : List (List ℕ)
newest_members = codes "state" ∷ codes "ietf-alarms:state" ∷ codes "user" ∷ codes "ietf-alarms:user" ∷ []

-- the state and the operator of the newest operator entry
unfoldable pub newest : Data → Result (Option OperatorState × Option (List ℕ)) InputFault
newest d =
    and_then (known_only newest_members d) (λ _.
    and_then (optional (codes "state") (codes "ietf-alarms:state") (word state_name states) d) (λ state.
    and_then (optional (codes "user") (codes "ietf-alarms:user") (text 0 longest_operator_name) d) (λ user.
    Ok (state, user))))

abbrev pub purge_members : List (List ℕ)
purge_members =
    codes "alarm-clearance-status" ∷ codes "ietf-alarms:alarm-clearance-status" ∷ codes "older-than" ∷ codes "ietf-alarms:older-than" ∷ codes "severity" ∷ codes "ietf-alarms:severity" ∷ codes "operator-state-filter" ∷ codes "ietf-alarms:operator-state-filter" ∷ []

unfoldable pub purge : Data → Result PurgeFilter InputFault
purge d =
    and_then (known_only purge_members d) (λ _.
    and_then (with_default Any (codes "alarm-clearance-status") (codes "ietf-alarms:alarm-clearance-status") (word clearance_name clearances) d) (λ clearance.
    and_then (with_default None (codes "older-than") (codes "ietf-alarms:older-than") age d) (λ older.
    and_then (with_default None (codes "severity") (codes "ietf-alarms:severity") compared d) (λ severity.
    and_then (with_default (None, None) (codes "operator-state-filter") (codes "ietf-alarms:operator-state-filter") newest d) (λ operators.
    Ok (record { clearance = clearance; age = older; severity = severity; state = operators.0; user = operators.1 }))))))

-- the filter that takes all
abbrev pub no_purge_filter : PurgeFilter
no_purge_filter = record { clearance = Any; age = None; severity = None; state = None; user = None }

-- a body whose one member may be absent
abbrev pub body_or : {A : Type 0} → A → List ℕ → List ℕ → (Data → Result A InputFault) → Data → Result A InputFault
body_or a plain qualified read d = and_then (known_only (plain ∷ qualified ∷ []) d) (λ _. with_default a plain qualified read d)

unfoldable pub purge_input : Side → Data → Result Asked InputFault
purge_input side d = whole (requests.Purge side) (body_or no_purge_filter (codes "input") (codes "ietf-alarms:input") purge d)

-- ---- compressions

abbrev pub compress_members : List (List ℕ)
compress_members = codes "resource" ∷ codes "ietf-alarms:resource" ∷ codes "alarm-type-id" ∷ codes "ietf-alarms:alarm-type-id" ∷ codes "alarm-type-qualifier" ∷ codes "ietf-alarms:alarm-type-qualifier" ∷ []

unfoldable pub compress : Data → Result CompressFilter InputFault
compress d =
    and_then (known_only compress_members d) (λ _.
    and_then (optional (codes "resource") (codes "ietf-alarms:resource") resource_match d) (λ resource.
    and_then (optional (codes "alarm-type-id") (codes "ietf-alarms:alarm-type-id") type_name d) (λ type_id.
    and_then (optional (codes "alarm-type-qualifier") (codes "ietf-alarms:alarm-type-qualifier") (text 0 longest_qualifier) d) (λ qualifier.
    Ok (record { resource = resource; type_id = type_id; qualifier = qualifier })))))

-- the filter that takes all
abbrev pub no_compress_filter : CompressFilter
no_compress_filter = record { resource = None; type_id = None; qualifier = None }

unfoldable pub compress_input : Side → Data → Result Asked InputFault
compress_input side d = whole (requests.Compress side) (body_or no_compress_filter (codes "input") (codes "ietf-alarms:input") compress d)

-- ---- reports

abbrev pub report_members : List (List ℕ)
report_members =
    codes "resource" ∷ codes "alarmd:resource" ∷ codes "alarm-type-id" ∷ codes "alarmd:alarm-type-id" ∷ codes "perceived-severity" ∷ codes "alarmd:perceived-severity" ∷ codes "alarm-text" ∷ codes "alarmd:alarm-text"
    ∷ codes "alarm-type-qualifier" ∷ codes "alarmd:alarm-type-qualifier" ∷ []

unfoldable pub report_names : Data → Result ⊤ InputFault
report_names d = known_only report_members d

unfoldable pub report_resource : Data → Result (List ℕ) InputFault
report_resource d = required (codes "resource") (codes "alarmd:resource") (text 1 longest_resource) d

unfoldable pub report_type : Data → Result (List ℕ) InputFault
report_type d = required (codes "alarm-type-id") (codes "alarmd:alarm-type-id") type_name d

unfoldable pub report_status : Data → Result Status InputFault
report_status d = required (codes "perceived-severity") (codes "alarmd:perceived-severity") (word status_name statuses) d

unfoldable pub report_text : Data → Result (List ℕ) InputFault
report_text d = required (codes "alarm-text") (codes "alarmd:alarm-text") (text 0 longest_alarm_text) d

unfoldable pub report_qualifier : Data → Result (List ℕ) InputFault
report_qualifier d = with_default [] (codes "alarm-type-qualifier") (codes "alarmd:alarm-type-qualifier") (text 0 longest_qualifier) d

unfoldable pub report : Data → Result Request InputFault
report d =
    and_then (report_names d) (λ _.
    and_then (report_resource d) (λ resource.
    and_then (report_type d) (λ type_id.
    and_then (report_status d) (λ status.
    and_then (report_text d) (λ said.
    and_then (report_qualifier d) (λ qualifier.
    Ok (requests.Report (record { resource = resource; type_id = type_id; qualifier = qualifier }) status said)))))))

unfoldable pub report_input : Data → Result Asked InputFault
report_input d = whole (λ request. request) (body (codes "input") (codes "alarmd:input") report d)

-- ---- inventories

abbrev pub identity_members : List (List ℕ)
identity_members = codes "name" ∷ codes "alarmd:name" ∷ codes "base" ∷ codes "alarmd:base" ∷ []

unfoldable pub identity : Data → Result Identity InputFault
identity d =
    and_then (known_only identity_members d) (λ _.
    and_then (required (codes "name") (codes "alarmd:name") type_name d) (λ name.
    and_then (required (codes "base") (codes "alarmd:base") type_name d) (λ base.
    Ok (record { name = name; base = base }))))

-- The bit of a severity is set where the severity stands in the list; it may not stand there twice.
abbrev pub bit_for : ℕ → ℕ → Result ℕ InputFault
bit_for bit zero = Ok 0
bit_for bit (suc zero) = Ok bit
bit_for bit (suc (suc count)) = Err BadValue

unfoldable pub bit_of : ℕ → Severity → List Severity → Result ℕ InputFault
bit_of bit severity levels = bit_for bit (count_by (λ level. rank_of level == rank_of severity) levels)

-- the set of the severities in a list, each a bit
unfoldable pub set_of : List Severity → Result ℕ InputFault
set_of levels =
    and_then (bit_of 1 Indeterminate levels) (λ indeterminate.
    and_then (bit_of 2 Warning levels) (λ warning.
    and_then (bit_of 4 Minor levels) (λ minor.
    and_then (bit_of 8 Major levels) (λ major.
    and_then (bit_of 16 Critical levels) (λ critical.
    Ok (indeterminate + warning + minor + major + critical))))))

-- severities without repeats, so no more than there are
unfoldable pub severity_set : Data → Result ℕ InputFault
severity_set d = and_then (list 5 (word severity_name severities) d) set_of

abbrev pub row_members : List (List ℕ)
row_members =
    codes "alarm-type-id" ∷ codes "alarmd:alarm-type-id" ∷ codes "will-clear" ∷ codes "alarmd:will-clear" ∷ codes "description" ∷ codes "alarmd:description" ∷ codes "alarm-type-qualifier" ∷ codes "alarmd:alarm-type-qualifier"
    ∷ codes "resource" ∷ codes "alarmd:resource" ∷ codes "severity-level" ∷ codes "alarmd:severity-level" ∷ codes "event-type" ∷ codes "ietf-alarms-x733:event-type" ∷ []

unfoldable pub row_names : Data → Result ⊤ InputFault
row_names d = known_only row_members d

unfoldable pub row_type : Data → Result (List ℕ) InputFault
row_type d = required (codes "alarm-type-id") (codes "alarmd:alarm-type-id") type_name d

unfoldable pub row_clears : Data → Result Bool InputFault
row_clears d = required (codes "will-clear") (codes "alarmd:will-clear") flag d

unfoldable pub row_description : Data → Result (List ℕ) InputFault
row_description d = required (codes "description") (codes "alarmd:description") (text 0 longest_description) d

unfoldable pub row_qualifier : Data → Result (List ℕ) InputFault
row_qualifier d = with_default [] (codes "alarm-type-qualifier") (codes "alarmd:alarm-type-qualifier") (text 0 longest_qualifier) d

unfoldable pub row_resources : Data → Result (List (List ℕ)) InputFault
row_resources d = with_default [] (codes "resource") (codes "alarmd:resource") (list most_row_resources (text 1 longest_resource)) d

unfoldable pub row_severities : Data → Result ℕ InputFault
row_severities d = with_default 0 (codes "severity-level") (codes "alarmd:severity-level") severity_set d

unfoldable pub row_event_type : Data → Result EventType InputFault
row_event_type d = with_default Other (codes "event-type") (codes "ietf-alarms-x733:event-type") (word event_type_name event_types) d

unfoldable pub row : Data → Result Row InputFault
row d =
    and_then (row_names d) (λ _.
    and_then (row_type d) (λ type_id.
    and_then (row_clears d) (λ will_clear.
    and_then (row_description d) (λ description.
    and_then (row_qualifier d) (λ qualifier.
    and_then (row_resources d) (λ resources.
    and_then (row_severities d) (λ levels.
    and_then (row_event_type d) (λ event_type.
    Ok (record {
      type_id = type_id;
      qualifier = qualifier;
      resources = resources;
      will_clear = will_clear;
      severities = levels;
      description = description;
      event_type = event_type;
    })))))))))

-- the inventory of the lists, where they make one
unfoldable pub built : List Identity → List Row → Result InventoryView InputFault
built identities rows = if is_sound identities rows then Ok (record { identities = identities; rows = rows }) else Err BadValue

abbrev pub inventory_members : List (List ℕ)
inventory_members = codes "identity" ∷ codes "alarmd:identity" ∷ codes "alarm-type" ∷ codes "alarmd:alarm-type" ∷ []

unfoldable pub inventory : Data → Result InventoryView InputFault
inventory d =
    and_then (known_only inventory_members d) (λ _.
    and_then (with_default [] (codes "identity") (codes "alarmd:identity") (list most_identities identity) d) (λ identities.
    and_then (with_default [] (codes "alarm-type") (codes "alarmd:alarm-type") (list most_rows row) d) (λ rows.
    built identities rows)))

unfoldable pub inventory_input : Data → Result Asked InputFault
inventory_input d = whole requests.Install (body (codes "inventory") (codes "alarmd:inventory") inventory d)

-- ---- every resource

-- What a body asks of a resource. One that takes no body is asked nothing by any.
unfoldable pub input_of : Target → Data → Result Asked InputFault
input_of targets.MaxChanges d = max_input d
input_of targets.NotifyMode d = mode_input d
input_of targets.NotifyLevel d = level_input d
input_of (targets.Shelving spot) d = creation_input spot d
input_of (targets.OneShelf name spot) d = shelf_input name spot d
input_of (targets.SetState key) d = action_input key d
input_of targets.PurgeAlarms d = purge_input sides.List d
input_of targets.CompressAlarms d = compress_input sides.List d
input_of targets.PurgeShelved d = purge_input sides.Shelf d
input_of targets.CompressShelved d = compress_input sides.Shelf d
input_of targets.Report d = report_input d
input_of targets.Inventory d = inventory_input d
input_of other d = Err BadValue
