-- What is asked is within the limits of requests.
use Rattle.std.proofs.Common.{rules, ◌≡◌, ℕ, zero, suc, ◌*◌, ◌≤◌, Bool, true, false, if◌then◌else◌, Option, None, Some, Result, Ok, Err, IfOk, IfSome, List, [], ◌∷◌, refl, subst, arith, All, codes, ◌==◌}
use Rattle.std.specs.Bool.{⊤}
use Rattle.std.specs.Cmp.Lexicographic.{pointwise, bytes_decides}
use Rattle.std.specs.List.{Contains, count_by}
use Rattle.std.specs.Option.{option_map}
use Rattle.al_base.specs.Identifiers.{IsTypeName}
use Rattle.al_base.specs.Limits.{IsAge, IsDescription, IsFilterName, IsOperatorText, IsQualifier, IsResourceText, IsSeveritySet, IsShelfName, IsStatusChanges, IsText, age_units}
use Rattle.al_base.specs.Names.{event_type_name, event_types, rank_of, severities, severity_name, state_name, states, status_name, statuses}
use Rattle.al_base.specs.declared.event_type.EventType.TheVariants.{Other}
use Rattle.al_base.specs.declared.operator.OperatorState.{OperatorState}
use Rattle.al_base.specs.declared.operator.OperatorState.TheVariants.{None0, Ack, Closed, Shelved, UnShelved}
use Rattle.al_base.specs.declared.severity.Severity.{Severity}
use Rattle.al_base.specs.declared.severity.Severity.TheVariants.{Indeterminate, Warning, Minor, Major, Critical}
use Rattle.al_ids.specs.Matches.{IsMatch}
use Rattle.al_ids.specs.declared.key.AlarmKey.{AlarmKey}
use Rattle.al_model.specs.Limits.{IsPatternWithin, IsTypeMatchWithin, IsShelfWithin, IsPurgeWithin, IsCompressWithin, IsIdentityWithin, IsRowWithin, IsInventoryWithin, IsRequestWithin}
use Rattle.al_ids.specs.Limits.{IsKeyWithin}
use Rattle.al_shelf.specs.Limits.{IsSpotWithin}
use Rattle.al_base.specs.Operators.{IsOperators, is_operators}
use Rattle.al_model.specs.declared.event.Side.{Side}
use Rattle.al_model.specs.declared.event.Side.TheVariants as sides
use Rattle.al_model.specs.declared.request.Request.{Request}
use Rattle.al_model.specs.declared.request.Request.TheVariants as requests
use Rattle.al_select.specs.declared.purge.Clearance.TheVariants.{Any}
use Rattle.al_shelf.specs.Exact.{same_type_match_decides}
use Rattle.al_shelf.specs.Same.{same_type_match}
use Rattle.al_shelf.specs.declared.shelf.TypeMatch.{TypeMatch}
use Rattle.al_shelf.specs.declared.spot.Spot.{Spot}
use Rattle.al_types.proofs.SoundTests.{decides_sound}
use Rattle.al_types.specs.Sound.{is_sound}
use Rattle.al_types.specs.declared.row.Identity.{Identity}
use Rattle.al_types.specs.declared.row.Row.{Row}
use Rattle.al_uri.specs.Limits as uri
use Rattle.al_uri.specs.declared.target.Target.{Target}
use Rattle.al_uri.specs.declared.target.Target.TheVariants as targets
use Rattle.serde_json.specs.Data.{Data}
use Rattle.serde_json.specs.Find.{as_str}
use Rattle.al_input.proofs.Readings.{AreFew, AreOther, IsBetween, ok_default, ok_if, ok_list, ok_match, ok_number, ok_one_of, ok_optional, ok_passed, ok_pattern, ok_required, ok_set, ok_text, ok_then, ok_type_name, ok_value}
use Rattle.al_input.specs.Faults.{Answers}
use Rattle.al_input.specs.Inputs.{action, action_input, action_members, age, age_members, bit_for, bit_of, body, body_or, built, compared, compress, compress_input, compress_members, creation_input, criterion, criterion_members, criterion_names, criterion_qualifier, criterion_type, identity, identity_members, in_unit, input_of, inventory, inventory_input, inventory_members, is_wanted, level_input, max_input, maximum, maximum_of, mode_input, newest, newest_members, no_compress_filter, no_purge_filter, operators_state, purge, purge_input, purge_members, report, report_input, report_members, report_names, report_qualifier, report_resource, report_status, report_text, report_type, row, row_clears, row_description, row_event_type, row_members, row_names, row_qualifier, row_resources, row_severities, row_type, set_of, severity_set, shelf, shelf_body, shelf_description, shelf_input, shelf_members, shelf_name, shelf_names, shelf_resources, shelf_types, whole}
use Rattle.al_input.specs.Limits.{IsAskedWithin}
use Rattle.al_input.specs.Members.{known_only, one_of, optional, required, with_default}
use Rattle.al_input.specs.Readers.{flag, list, number, only, passed, pattern, resource_match, set, text, type_name, word}
use Rattle.al_select.specs.Clearances.{clearance_name, clearances}
use Rattle.al_notify.specs.Modes.{mode_name, modes}
use Rattle.al_input.specs.declared.asked.Asked.{Asked}
use Rattle.al_input.specs.declared.asked.Asked.TheVariants.{Operate}
use Rattle.al_input.specs.declared.fault.InputFault.{InputFault}
use Rattle.al_input.specs.declared.fault.InputFault.TheVariants as faults

-- ---- bodies

ok_body : {A : Type 0} (P : A → Type 0) (plain qualified : List ℕ) (read : Data → Result A InputFault) → ((d : Data) → IfOk (read d) P) → (d : Data) → IfOk (body plain qualified read d) P
ok_body P plain qualified read h d =
    ok_then P (known_only (plain ∷ qualified ∷ []) d) (λ _. required plain qualified read d) (λ _ _. ok_required P plain qualified read h d)

ok_body_or : {A : Type 0} (P : A → Type 0) (a : A) (plain qualified : List ℕ) (read : Data → Result A InputFault) → P a → ((d : Data) → IfOk (read d) P) → (d : Data) → IfOk (body_or a plain qualified read d) P
ok_body_or P a plain qualified read default h d =
    ok_then P (known_only (plain ∷ qualified ∷ []) d) (λ _. with_default a plain qualified read d) (λ _ _. ok_default P a plain qualified read default h d)

ok_whole : {A : Type 0} (P : A → Type 0) (asks : A → Request) (said : Result A InputFault) → ((a : A) → P a → IsRequestWithin (asks a)) → IfOk said P → IfOk (whole asks said) IsAskedWithin
ok_whole P asks (Ok a) within h = within a h
ok_whole P asks (Err e) within h = tt

-- nothing is asked of the value
abbrev Any1 : {A : Type 0} → A → Type 0
Any1 a = ⊤

ok_any : {A : Type 0} (said : Result A InputFault) → IfOk said Any1
ok_any (Ok a) = tt
ok_any (Err e) = tt

-- ---- the rules of the list

maximum_within : (d : Data) → IfOk (maximum d) (λ max. IfSome max IsStatusChanges)
unfolding maximum
maximum_within d = at (as_str d)
  where
    at : (word : Option (List ℕ)) → IfOk (maximum_of word d) (λ max. IfSome max IsStatusChanges)
    at (Some word) = ok_if (λ max. IfSome max IsStatusChanges) (pointwise ◌==◌ word (codes "infinite")) (Ok None) (Err faults.BadValue) (λ _. tt) (λ _. tt)
    at None =
        ok_then (λ max. IfSome max IsStatusChanges) (number 1 65535 d) (λ most. Ok (Some most))
        (λ most is. ok_value (IsBetween 1 65535) (number 1 65535 d) most (ok_number 1 65535 d) is)

max_within : (d : Data) → IfOk (max_input d) IsAskedWithin
unfolding max_input IsRequestWithin
max_within d =
    ok_whole (λ max. IfSome max IsStatusChanges) requests.SetMax _ (λ max h. h)
    (ok_body (λ max. IfSome max IsStatusChanges) (codes "max-alarm-status-changes") (codes "ietf-alarms:max-alarm-status-changes") maximum maximum_within d)

mode_within : (d : Data) → IfOk (mode_input d) IsAskedWithin
unfolding mode_input IsRequestWithin
mode_within d = ok_whole Any1 requests.SetMode _ (λ mode h. tt) (ok_any (body (codes "notify-status-changes") (codes "ietf-alarms:notify-status-changes") (word mode_name modes) d))

level_within : (d : Data) → IfOk (level_input d) IsAskedWithin
unfolding level_input IsRequestWithin
level_within d = ok_whole Any1 requests.SetLevel _ (λ level h. tt) (ok_any (body (codes "notify-severity-level") (codes "ietf-alarms:notify-severity-level") (word severity_name severities) d))

-- ---- shelves

criterion_within : (d : Data) → IfOk (criterion d) IsTypeMatchWithin
unfolding criterion criterion_names criterion_type criterion_qualifier
criterion_within d =
    ok_then IsTypeMatchWithin (known_only criterion_members d) _ (λ _ _.
    ok_then IsTypeMatchWithin (required (codes "alarm-type-id") (codes "ietf-alarms:alarm-type-id") type_name d) _ (λ t is_t.
    ok_then IsTypeMatchWithin (required (codes "alarm-type-qualifier-match") (codes "ietf-alarms:alarm-type-qualifier-match") pattern d) _ (λ q is_q. record {
      type_id = ok_value IsTypeName _ t (ok_required IsTypeName (codes "alarm-type-id") (codes "ietf-alarms:alarm-type-id") type_name ok_type_name d) is_t;
      qualifier = ok_value IsPatternWithin _ q (ok_required IsPatternWithin (codes "alarm-type-qualifier-match") (codes "ietf-alarms:alarm-type-qualifier-match") pattern ok_pattern d) is_q;
    })))

no_others : {A : Type 0} (most : ℕ) (P : A → Type 0) → AreOther most P []
no_others most P = ((omega arith, λ k d lt. absurd (omega arith)), λ i j d lt within. absurd (omega arith))

same_name : (wanted : Option (List ℕ)) (given name : List ℕ) → passed (is_wanted wanted) given ≡ Ok name → given ≡ name
unfolding passed
same_name wanted given name h = at (is_wanted wanted given) h
  where
    at : (test : Bool) → (if test then Ok given else Err faults.BadValue) ≡ Ok name → given ≡ name
    at true h = cc
    at false h = cc

shelf_within : (wanted : Option (List ℕ)) (d : Data) → IfOk (shelf wanted d) IsShelfWithin
unfolding shelf shelf_names shelf_name shelf_resources shelf_types shelf_description
shelf_within wanted d =
    let Resources : List (List ℕ) → Type 0 = AreOther 64 IsMatch in
    let Types : List TypeMatch → Type 0 = AreOther 64 IsTypeMatchWithin in
    let read_resources : Data → Result (List (List ℕ)) InputFault = set 64 (pointwise ◌==◌) resource_match in
    let read_types : Data → Result (List TypeMatch) InputFault = set 64 same_type_match criterion in
    ok_then IsShelfWithin (known_only shelf_members d) _ (λ _ _.
    ok_then IsShelfWithin (required (codes "name") (codes "ietf-alarms:name") (text 1 64) d) _ (λ given is_given.
    ok_then IsShelfWithin (passed (is_wanted wanted) given) _ (λ name is_name.
    ok_then IsShelfWithin (with_default [] (codes "resource") (codes "ietf-alarms:resource") read_resources d) _ (λ rs is_rs.
    ok_then IsShelfWithin (with_default [] (codes "alarm-type") (codes "ietf-alarms:alarm-type") read_types d) _ (λ ts is_ts.
    ok_then IsShelfWithin (optional (codes "description") (codes "ietf-alarms:description") (text 0 255) d) _ (λ text_of is_text_of.
    let named : IsShelfName given = ok_value IsShelfName _ given (ok_required IsShelfName (codes "name") (codes "ietf-alarms:name") (text 1 64) (ok_text 1 64) d) is_given in
    let resources : Resources rs = ok_value Resources _ rs (ok_default Resources [] (codes "resource") (codes "ietf-alarms:resource") read_resources (no_others 64 IsMatch) (ok_set 64 (pointwise ◌==◌) IsMatch resource_match bytes_decides ok_match) d) is_rs in
    let types : Types ts = ok_value Types _ ts (ok_default Types [] (codes "alarm-type") (codes "ietf-alarms:alarm-type") read_types (no_others 64 IsTypeMatchWithin) (ok_set 64 same_type_match IsTypeMatchWithin criterion same_type_match_decides criterion_within) d) is_ts in
    record {
      name = subst IsShelfName (same_name wanted given name is_name) named;
      few_resources = resources.0.0;
      resources = resources.0.1;
      other_resources = resources.1;
      few_types = types.0.0;
      types = types.0.1;
      other_types = types.1;
      description = ok_value (λ o. IfSome o IsDescription) _ text_of (ok_optional IsDescription (codes "description") (codes "ietf-alarms:description") (text 0 255) (ok_text 0 255) d) is_text_of;
    }))))))

body_within : (wanted : Option (List ℕ)) (d : Data) → IfOk (shelf_body wanted d) IsShelfWithin
unfolding shelf_body
body_within wanted d = ok_then IsShelfWithin (body (codes "shelf") (codes "ietf-alarms:shelf") only d) (shelf wanted) (λ s _. shelf_within wanted s)

creation_within : (spot : Spot) (d : Data) → IsSpotWithin spot → IfOk (creation_input spot d) IsAskedWithin
unfolding creation_input IsRequestWithin
creation_within spot d h =
    ok_whole IsShelfWithin (λ made. requests.CreateShelf made spot) (shelf_body None d) (λ made k. record { shelf_within = k; spot_within = h }) (body_within None d)

put_within : (name : List ℕ) (spot : Spot) (d : Data) → IsSpotWithin spot → IfOk (shelf_input name spot d) IsAskedWithin
unfolding shelf_input IsRequestWithin
put_within name spot d h =
    ok_whole IsShelfWithin (λ made. requests.PutShelf made spot) (shelf_body (Some name) d) (λ made k. record { shelf_within = k; spot_within = h }) (body_within (Some name) d)

-- ---- what an operator says

operators_of : (state : OperatorState) → is_operators state ≡ true → IsOperators state
operators_of None0 h = tt
operators_of Ack h = tt
operators_of Closed h = tt
operators_of Shelved h = cc
operators_of UnShelved h = cc

operators_within : (d : Data) → IfOk (operators_state d) IsOperators
unfolding operators_state
operators_within d = ok_then IsOperators (word state_name states d) (passed is_operators) (λ state _. ok_passed IsOperators is_operators state (operators_of state))

abbrev IsSaid : OperatorState × Option (List ℕ) → Type 0
IsSaid said = IsOperators said.0 × IfSome said.1 IsOperatorText

said_within : (d : Data) → IfOk (action d) IsSaid
unfolding action
said_within d =
    ok_then IsSaid (known_only action_members d) _ (λ _ _.
    ok_then IsSaid (required (codes "state") (codes "ietf-alarms:state") operators_state d) _ (λ state is_state.
    ok_then IsSaid (optional (codes "text") (codes "ietf-alarms:text") (text 0 255) d) _ (λ said is_said. (
      ok_value IsOperators _ state (ok_required IsOperators (codes "state") (codes "ietf-alarms:state") operators_state operators_within d) is_state,
      ok_value (λ o. IfSome o IsOperatorText) _ said (ok_optional IsOperatorText (codes "text") (codes "ietf-alarms:text") (text 0 255) (ok_text 0 255) d) is_said,
    ))))

action_within : (key : AlarmKey) (d : Data) → IsKeyWithin key → IfOk (action_input key d) IsAskedWithin
unfolding action_input
action_within key d h =
    ok_then IsAskedWithin (body (codes "input") (codes "ietf-alarms:input") action d) (λ said. Ok (Operate key said.0 said.1)) (λ said is_said.
    let within : IsSaid said = ok_value IsSaid _ said (ok_body IsSaid (codes "input") (codes "ietf-alarms:input") action said_within d) is_said in
    record { key_within = record { resource = h.resource; type_id = h.type_id; qualifier = h.qualifier }; state_within = within.0; text_within = within.1 })

-- ---- filters

abbrev IsAgeOf : Option ℕ → Type 0
IsAgeOf age = IfSome age IsAge

unit_within : (unit : ℕ) (plain qualified : List ℕ) (earlier : Option ℕ) (d : Data) → Contains age_units unit → IsAgeOf earlier → IfOk (in_unit unit plain qualified earlier d) IsAgeOf
unfolding in_unit
unit_within unit plain qualified earlier d known h =
    ok_then IsAgeOf (optional plain qualified (number 0 65535) d) (λ count. one_of earlier (option_map (λ n. n * unit) count)) (λ count is_count.
    ok_one_of IsAge earlier (option_map (λ n. n * unit) count) h
    (age_of count (ok_value (λ o. IfSome o (IsBetween 0 65535)) _ count (ok_optional (IsBetween 0 65535) plain qualified (number 0 65535) (ok_number 0 65535) d) is_count)))
  where
    age_of : (count : Option ℕ) → IfSome count (IsBetween 0 65535) → IsAgeOf (option_map (λ n. n * unit) count)
    age_of None k = tt
    age_of (Some n) k = record { count = n; unit = unit; few = k.1; known = known; is = refl }

age_within : (d : Data) → IfOk (age d) IsAgeOf
unfolding age
age_within d =
    ok_then IsAgeOf (known_only age_members d) _ (λ _ _.
    ok_then IsAgeOf (in_unit 1000 (codes "seconds") (codes "ietf-alarms:seconds") None d) _ (λ a is_a.
    ok_then IsAgeOf (in_unit 60000 (codes "minutes") (codes "ietf-alarms:minutes") a d) _ (λ b is_b.
    ok_then IsAgeOf (in_unit 3600000 (codes "hours") (codes "ietf-alarms:hours") b d) _ (λ c is_c.
    ok_then IsAgeOf (in_unit 86400000 (codes "days") (codes "ietf-alarms:days") c d) _ (λ e is_e.
    let in_seconds : IsAgeOf a = ok_value IsAgeOf _ a (unit_within 1000 (codes "seconds") (codes "ietf-alarms:seconds") None d (0, omega arith, refl) tt) is_a in
    let in_minutes : IsAgeOf b = ok_value IsAgeOf _ b (unit_within 60000 (codes "minutes") (codes "ietf-alarms:minutes") a d (1, omega arith, refl) in_seconds) is_b in
    let in_hours : IsAgeOf c = ok_value IsAgeOf _ c (unit_within 3600000 (codes "hours") (codes "ietf-alarms:hours") b d (2, omega arith, refl) in_minutes) is_c in
    let in_days : IsAgeOf e = ok_value IsAgeOf _ e (unit_within 86400000 (codes "days") (codes "ietf-alarms:days") c d (3, omega arith, refl) in_hours) is_e in
    unit_within 604800000 (codes "weeks") (codes "ietf-alarms:weeks") e d (4, omega arith, refl) in_days)))))

abbrev IsNewest : Option OperatorState × Option (List ℕ) → Type 0
IsNewest operators = IfSome operators.1 IsFilterName

newest_within : (d : Data) → IfOk (newest d) IsNewest
unfolding newest
newest_within d =
    ok_then IsNewest (known_only newest_members d) _ (λ _ _.
    ok_then IsNewest (optional (codes "state") (codes "ietf-alarms:state") (word state_name states) d) _ (λ state _.
    ok_then IsNewest (optional (codes "user") (codes "ietf-alarms:user") (text 0 64) d) _ (λ user is_user.
    ok_value (λ o. IfSome o IsFilterName) _ user (ok_optional IsFilterName (codes "user") (codes "ietf-alarms:user") (text 0 64) (ok_text 0 64) d) is_user)))

purge_filter_within : (d : Data) → IfOk (purge d) IsPurgeWithin
unfolding purge
purge_filter_within d =
    ok_then IsPurgeWithin (known_only purge_members d) _ (λ _ _.
    ok_then IsPurgeWithin (with_default Any (codes "alarm-clearance-status") (codes "ietf-alarms:alarm-clearance-status") (word clearance_name clearances) d) _ (λ clearance _.
    ok_then IsPurgeWithin (with_default None (codes "older-than") (codes "ietf-alarms:older-than") age d) _ (λ older is_older.
    ok_then IsPurgeWithin (with_default None (codes "severity") (codes "ietf-alarms:severity") compared d) _ (λ severity _.
    ok_then IsPurgeWithin (with_default (None, None) (codes "operator-state-filter") (codes "ietf-alarms:operator-state-filter") newest d) _ (λ operators is_operators_of. record {
      age = ok_value IsAgeOf _ older (ok_default IsAgeOf None (codes "older-than") (codes "ietf-alarms:older-than") age tt age_within d) is_older;
      user = ok_value IsNewest _ operators (ok_default IsNewest (None, None) (codes "operator-state-filter") (codes "ietf-alarms:operator-state-filter") newest tt newest_within d) is_operators_of;
    })))))

purge_within : (side : Side) (d : Data) → IfOk (purge_input side d) IsAskedWithin
unfolding purge_input IsRequestWithin
purge_within side d =
    ok_whole IsPurgeWithin (requests.Purge side) _ (λ filter h. h)
    (ok_body_or IsPurgeWithin no_purge_filter (codes "input") (codes "ietf-alarms:input") purge (record { age = tt; user = tt }) purge_filter_within d)

compress_filter_within : (d : Data) → IfOk (compress d) IsCompressWithin
unfolding compress
compress_filter_within d =
    ok_then IsCompressWithin (known_only compress_members d) _ (λ _ _.
    ok_then IsCompressWithin (optional (codes "resource") (codes "ietf-alarms:resource") resource_match d) _ (λ r is_r.
    ok_then IsCompressWithin (optional (codes "alarm-type-id") (codes "ietf-alarms:alarm-type-id") type_name d) _ (λ t is_t.
    ok_then IsCompressWithin (optional (codes "alarm-type-qualifier") (codes "ietf-alarms:alarm-type-qualifier") (text 0 255) d) _ (λ q is_q. record {
      resource = ok_value (λ o. IfSome o IsMatch) _ r (ok_optional IsMatch (codes "resource") (codes "ietf-alarms:resource") resource_match ok_match d) is_r;
      type_id = ok_value (λ o. IfSome o IsTypeName) _ t (ok_optional IsTypeName (codes "alarm-type-id") (codes "ietf-alarms:alarm-type-id") type_name ok_type_name d) is_t;
      qualifier = ok_value (λ o. IfSome o IsQualifier) _ q (ok_optional IsQualifier (codes "alarm-type-qualifier") (codes "ietf-alarms:alarm-type-qualifier") (text 0 255) (ok_text 0 255) d) is_q;
    }))))

compress_within : (side : Side) (d : Data) → IfOk (compress_input side d) IsAskedWithin
unfolding compress_input IsRequestWithin
compress_within side d =
    ok_whole IsCompressWithin (requests.Compress side) _ (λ filter h. h)
    (ok_body_or IsCompressWithin no_compress_filter (codes "input") (codes "ietf-alarms:input") compress (record { resource = tt; type_id = tt; qualifier = tt }) compress_filter_within d)

-- ---- reports

empty_within : (most : ℕ) → IsText 0 most []
empty_within most = record { utf8 = search rules; shortest = omega arith; longest = omega arith }

report_of_within : (d : Data) → IfOk (report d) IsRequestWithin
unfolding report IsRequestWithin report_names report_resource report_type report_status report_text report_qualifier
report_of_within d =
    ok_then IsRequestWithin (known_only report_members d) _ (λ _ _.
    ok_then IsRequestWithin (required (codes "resource") (codes "alarmd:resource") (text 1 512) d) _ (λ r is_r.
    ok_then IsRequestWithin (required (codes "alarm-type-id") (codes "alarmd:alarm-type-id") type_name d) _ (λ t is_t.
    ok_then IsRequestWithin (required (codes "perceived-severity") (codes "alarmd:perceived-severity") (word status_name statuses) d) _ (λ status _.
    ok_then IsRequestWithin (required (codes "alarm-text") (codes "alarmd:alarm-text") (text 0 255) d) _ (λ said is_said.
    ok_then IsRequestWithin (with_default [] (codes "alarm-type-qualifier") (codes "alarmd:alarm-type-qualifier") (text 0 255) d) _ (λ q is_q. record {
      key_within = record {
        resource = ok_value IsResourceText _ r (ok_required IsResourceText (codes "resource") (codes "alarmd:resource") (text 1 512) (ok_text 1 512) d) is_r;
        type_id = ok_value IsTypeName _ t (ok_required IsTypeName (codes "alarm-type-id") (codes "alarmd:alarm-type-id") type_name ok_type_name d) is_t;
        qualifier = ok_value IsQualifier _ q (ok_default IsQualifier [] (codes "alarm-type-qualifier") (codes "alarmd:alarm-type-qualifier") (text 0 255) (empty_within 255) (ok_text 0 255) d) is_q;
      };
      text_within = ok_value (IsText 0 255) _ said (ok_required (IsText 0 255) (codes "alarm-text") (codes "alarmd:alarm-text") (text 0 255) (ok_text 0 255) d) is_said;
    }))))))

report_within : (d : Data) → IfOk (report_input d) IsAskedWithin
unfolding report_input
report_within d =
    ok_whole IsRequestWithin (λ request. request) _ (λ request h. h) (ok_body IsRequestWithin (codes "input") (codes "alarmd:input") report report_of_within d)

-- what a report's body asks is within the limits of requests
pub plain_within : (d : Data) (answer : Result Request InputFault) → Answers (body (codes "input") (codes "alarmd:input") report d) answer → IfOk answer IsRequestWithin
plain_within d (Ok request) is = subst (λ r. IfOk r IsRequestWithin) is (ok_body IsRequestWithin (codes "input") (codes "alarmd:input") report report_of_within d)
plain_within d (Err e) is = tt

-- ---- inventories

identity_within : (d : Data) → IfOk (identity d) IsIdentityWithin
unfolding identity
identity_within d =
    ok_then IsIdentityWithin (known_only identity_members d) _ (λ _ _.
    ok_then IsIdentityWithin (required (codes "name") (codes "alarmd:name") type_name d) _ (λ n is_n.
    ok_then IsIdentityWithin (required (codes "base") (codes "alarmd:base") type_name d) _ (λ b is_b. record {
      name = ok_value IsTypeName _ n (ok_required IsTypeName (codes "name") (codes "alarmd:name") type_name ok_type_name d) is_n;
      base = ok_value IsTypeName _ b (ok_required IsTypeName (codes "base") (codes "alarmd:base") type_name ok_type_name d) is_b;
    })))

bit_within : (bit : ℕ) (severity : Severity) (levels : List Severity) → IfOk (bit_of bit severity levels) (λ n. n ≤ bit)
unfolding bit_of
bit_within bit severity levels = at (count_by (λ level. rank_of level == rank_of severity) levels)
  where
    at : (count : ℕ) → IfOk (bit_for bit count) (λ n. n ≤ bit)
    at zero = omega arith
    at (suc zero) = omega arith
    at (suc (suc count)) = tt

set_within : (levels : List Severity) → IfOk (set_of levels) IsSeveritySet
unfolding set_of
set_within levels =
    ok_then IsSeveritySet (bit_of 1 Indeterminate levels) _ (λ a is_a.
    ok_then IsSeveritySet (bit_of 2 Warning levels) _ (λ b is_b.
    ok_then IsSeveritySet (bit_of 4 Minor levels) _ (λ c is_c.
    ok_then IsSeveritySet (bit_of 8 Major levels) _ (λ e is_e.
    ok_then IsSeveritySet (bit_of 16 Critical levels) _ (λ f is_f.
    let h1 : a ≤ 1 = ok_value (λ n. n ≤ 1) _ a (bit_within 1 Indeterminate levels) is_a in
    let h2 : b ≤ 2 = ok_value (λ n. n ≤ 2) _ b (bit_within 2 Warning levels) is_b in
    let h4 : c ≤ 4 = ok_value (λ n. n ≤ 4) _ c (bit_within 4 Minor levels) is_c in
    let h8 : e ≤ 8 = ok_value (λ n. n ≤ 8) _ e (bit_within 8 Major levels) is_e in
    let h16 : f ≤ 16 = ok_value (λ n. n ≤ 16) _ f (bit_within 16 Critical levels) is_f in
    omega arith)))))

levels_within : (d : Data) → IfOk (severity_set d) IsSeveritySet
unfolding severity_set
levels_within d = ok_then IsSeveritySet (list 5 (word severity_name severities) d) set_of (λ levels _. set_within levels)

no_values : {A : Type 0} (most : ℕ) (P : A → Type 0) → AreFew most P []
no_values most P = (omega arith, λ k d lt. absurd (omega arith))

row_within : (d : Data) → IfOk (row d) IsRowWithin
unfolding row row_names row_type row_clears row_description row_qualifier row_resources row_severities row_event_type
row_within d =
    let Resources : List (List ℕ) → Type 0 = AreFew 64 IsResourceText in
    let read_resources : Data → Result (List (List ℕ)) InputFault = list 64 (text 1 512) in
    ok_then IsRowWithin (known_only row_members d) _ (λ _ _.
    ok_then IsRowWithin (required (codes "alarm-type-id") (codes "alarmd:alarm-type-id") type_name d) _ (λ t is_t.
    ok_then IsRowWithin (required (codes "will-clear") (codes "alarmd:will-clear") flag d) _ (λ clears _.
    ok_then IsRowWithin (required (codes "description") (codes "alarmd:description") (text 0 255) d) _ (λ description is_description.
    ok_then IsRowWithin (with_default [] (codes "alarm-type-qualifier") (codes "alarmd:alarm-type-qualifier") (text 0 255) d) _ (λ q is_q.
    ok_then IsRowWithin (with_default [] (codes "resource") (codes "alarmd:resource") read_resources d) _ (λ rs is_rs.
    ok_then IsRowWithin (with_default 0 (codes "severity-level") (codes "alarmd:severity-level") severity_set d) _ (λ levels is_levels.
    ok_then IsRowWithin (with_default Other (codes "event-type") (codes "ietf-alarms-x733:event-type") (word event_type_name event_types) d) _ (λ event_type _.
    let resources : Resources rs = ok_value Resources _ rs (ok_default Resources [] (codes "resource") (codes "alarmd:resource") read_resources (no_values 64 IsResourceText) (ok_list 64 IsResourceText (text 1 512) (ok_text 1 512)) d) is_rs in
    record {
      type_id = ok_value IsTypeName _ t (ok_required IsTypeName (codes "alarm-type-id") (codes "alarmd:alarm-type-id") type_name ok_type_name d) is_t;
      qualifier = ok_value IsQualifier _ q (ok_default IsQualifier [] (codes "alarm-type-qualifier") (codes "alarmd:alarm-type-qualifier") (text 0 255) (empty_within 255) (ok_text 0 255) d) is_q;
      few_resources = resources.0;
      resources = resources.1;
      severities = ok_value IsSeveritySet _ levels (ok_default IsSeveritySet 0 (codes "severity-level") (codes "alarmd:severity-level") severity_set (omega arith) levels_within d) is_levels;
      description = ok_value IsDescription _ description (ok_required IsDescription (codes "description") (codes "alarmd:description") (text 0 255) (ok_text 0 255) d) is_description;
    }))))))))

built_within : (identities : List Identity) (rows : List Row) → All IsIdentityWithin identities → All IsRowWithin rows → IfOk (built identities rows) IsInventoryWithin
unfolding built
built_within identities rows h k =
    ok_if IsInventoryWithin (is_sound identities rows) (Ok (record { identities = identities; rows = rows })) (Err faults.BadValue)
    (λ sound. record { sound = (decides_sound identities rows).0 sound; identities = h; rows = k }) (λ _. tt)

inventory_within : (d : Data) → IfOk (inventory d) IsInventoryWithin
unfolding inventory
inventory_within d =
    let Identities : List Identity → Type 0 = AreFew 2000 IsIdentityWithin in
    let Rows : List Row → Type 0 = AreFew 2000 IsRowWithin in
    ok_then IsInventoryWithin (known_only inventory_members d) _ (λ _ _.
    ok_then IsInventoryWithin (with_default [] (codes "identity") (codes "alarmd:identity") (list 2000 identity) d) _ (λ identities is_identities.
    ok_then IsInventoryWithin (with_default [] (codes "alarm-type") (codes "alarmd:alarm-type") (list 2000 row) d) _ (λ rows is_rows.
    let first : Identities identities = ok_value Identities _ identities (ok_default Identities [] (codes "identity") (codes "alarmd:identity") (list 2000 identity) (no_values 2000 IsIdentityWithin) (ok_list 2000 IsIdentityWithin identity identity_within) d) is_identities in
    let second : Rows rows = ok_value Rows _ rows (ok_default Rows [] (codes "alarm-type") (codes "alarmd:alarm-type") (list 2000 row) (no_values 2000 IsRowWithin) (ok_list 2000 IsRowWithin row row_within) d) is_rows in
    built_within identities rows first.1 second.1)))

install_within : (d : Data) → IfOk (inventory_input d) IsAskedWithin
unfolding inventory_input IsRequestWithin
install_within d =
    ok_whole IsInventoryWithin requests.Install _ (λ inventory h. h) (ok_body IsInventoryWithin (codes "inventory") (codes "alarmd:inventory") inventory inventory_within d)

-- ---- every resource

asked_within : (target : Target) (d : Data) → uri.IsTargetWithin target → IfOk (input_of target d) IsAskedWithin
unfolding input_of
asked_within targets.MaxChanges d h = max_within d
asked_within targets.NotifyMode d h = mode_within d
asked_within targets.NotifyLevel d h = level_within d
asked_within (targets.Shelving spot) d h = creation_within spot d h
asked_within (targets.OneShelf name spot) d h = put_within name spot d h.spot_within
asked_within (targets.SetState key) d h = action_within key d h
asked_within targets.PurgeAlarms d h = purge_within sides.List d
asked_within targets.CompressAlarms d h = compress_within sides.List d
asked_within targets.PurgeShelved d h = purge_within sides.Shelf d
asked_within targets.CompressShelved d h = compress_within sides.Shelf d
asked_within targets.Report d h = report_within d
asked_within targets.Inventory d h = install_within d
asked_within other d h = tt

answered_within : (said answer : Result Asked InputFault) → IfOk said IsAskedWithin → Answers said answer → IfOk answer IsAskedWithin
answered_within said (Ok asked) h is = subst (λ r. IfOk r IsAskedWithin) is h
answered_within said (Err e) h is = tt

-- what is answered is within the limits of requests, where the target is within its own
pub answer_within : (target : Target) (d : Data) (answer : Result Asked InputFault) → Answers (input_of target d) answer → uri.IsTargetWithin target → IfOk answer IsAskedWithin
answer_within target d answer is h = answered_within (input_of target d) answer (asked_within target d h) is
