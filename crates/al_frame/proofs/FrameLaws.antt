-- The formats of a frame keep the laws of formats.
use Rattle.std.proofs.Common.{◌≡◌, ℕ, zero, suc, ◌-◌, ◌^◌, ◌<◌, ◌≤◌, Bool, true, false, cond, eqb, not, List, [], ◌∷◌, ◌++◌, length, Option, Some, None, Result, Ok, Err, refl, sym, ap, subst, ◌∙◌, append-nil, length-append, arith}
use Rattle.std.specs.Prelude.{◌==◌, nat_le, nat_lt}
use Rattle.std.specs.Cmp.Lexicographic.{pointwise}
use Rattle.std.specs.Int.{w16, w64}
use Rattle.std.proofs.lemmas.Bool.{and_parts, and_from, eqb-true, ne_eqb, leb-true, le-leb, lt-ltb, ltb-true}
use Rattle.std.proofs.lemmas.List.{nil_from_length}
use Rattle.al_base.specs.Identifiers.{is_type_name}
use Rattle.al_base.specs.Limits.{is_age, is_operator_name, is_severity_set, is_stamp, is_text}
use Rattle.al_base.specs.declared.event_type.EventType.TheVariants.{Other, CommunicationsAlarm, QualityOfServiceAlarm, ProcessingErrorAlarm, EquipmentAlarm, EnvironmentalAlarm, IntegrityViolation, OperationalViolation, PhysicalViolation, SecurityServiceOrMechanismViolation, TimeDomainViolation}
use Rattle.al_base.specs.declared.operator.OperatorState.TheVariants.{None0, Ack, Closed, Shelved, UnShelved}
use Rattle.al_base.specs.declared.severity.Severity.{Severity}
use Rattle.al_base.specs.declared.severity.Severity.TheVariants.{Indeterminate, Warning, Minor, Major, Critical}
use Rattle.al_base.specs.declared.severity.Status.TheVariants.{Cleared, Active}
use Rattle.al_model.specs.declared.entry.Entry.{Entry}
use Rattle.al_model.specs.declared.event.Event.{Event}
use Rattle.al_model.specs.declared.event.Event.TheVariants as events
use Rattle.al_model.specs.declared.event.Side.TheVariants as sides
use Rattle.al_notify.specs.declared.rule.Mode.TheVariants.{AllStateChanges, RaiseAndClear, SeverityLevel}
use Rattle.al_select.specs.declared.purge.Clearance.TheVariants as of_clearance
use Rattle.al_select.specs.declared.purge.Compare.{Compare}
use Rattle.al_select.specs.declared.purge.Compare.TheVariants.{Below, Equal, Above}
use Rattle.al_shelf.specs.Same.{same_type_match}
use Rattle.al_frame.specs.declared.fault.FrameFault.{FrameFault}
use Rattle.al_frame.specs.declared.fault.FrameFault.TheVariants.{Truncated, Byte, Trailing}
use Rattle.al_frame.specs.Codes.{with_code, compare_code, comparisons, flag_code, flags, both_sides, side_code, severity_code, status_code}
use Rattle.al_base.specs.Names.{event_type_number, event_types, severities, state_number, states, statuses}
use Rattle.al_select.specs.Clearances.{clearance_number, clearances}
use Rattle.al_notify.specs.Modes.{mode_number, modes}
use Rattle.al_frame.specs.Formats.{Format, both, byte, byte_at, coded, list, named, number, piece, set, text}
use Rattle.al_base.specs.Answers.{and_then}
use Rattle.al_base.specs.Repeats.{repeats}
use Rattle.al_ids.specs.Forms.{is_match, is_pattern_text}
use Rattle.al_base.specs.Operators.{is_operators}
use Rattle.al_frame.specs.Frames.{asked, asked_at, spelled_asked, compress, compressed, criterion, entry, entry_of, event, event_at, event_by, fits_event, frame_of, identity, inventory, is_max, key, kind_at, kind_of, makes_inventory, max_code, max_of, maximum, operate, operated, placed_shelf, purge, purged, report, reported, resource, resource_match, row, rule, severity, shelf, shelf_dropped, shelf_name, shelf_put, side, sided_compress, sided_purge, spelled_fields, whole_at, word}
use Rattle.al_frame.proofs.FormatLaws.{bind_ok, both_is, byte_is, checked_is, coded_is, IsBytes, IsBytes-rest, IsFormat, list_is, named_ok, number_is, ok_is, opt_is, pass_ok, piece_is, seen_is, Takes, wide16, wide64}

-- ---- words

found_here : {W : Type 0} (code : W → ℕ) (first w : W) (b : ℕ) (further : Option W) (here : Bool) → (b == code first) ≡ here → (further ≡ Some w → code w ≡ b) → cond here (Some first) further ≡ Some w → code w ≡ b
found_here code first w b further true is later e = let same : first ≡ w = cc in ap code (sym same) ∙ sym (eqb-true b (code first) is)
found_here code first w b further false is later e = later e

found : {W : Type 0} (code : W → ℕ) (words : List W) (b : ℕ) (w : W) → with_code code words b ≡ Some w → code w ≡ b
found code [] b w e = absurd cc
found code (first ∷ words) b w e = found_here code first w b (with_code code words b) (b == code first) refl (found code words b w) e

-- each word has its code
abbrev AreCoded : {W : Type 0} → (W → ℕ) → List W → Type 0
AreCoded {W} code words = (w : W) → with_code code words (code w) ≡ Some w

abbrev AreBytes : {W : Type 0} → (W → ℕ) → Type 0
AreBytes {W} code = (w : W) → nat_lt (code w) 256 ≡ true

word_is : {W : Type 0} (code : W → ℕ) (words : List W) → AreCoded code words → AreBytes code → IsFormat (word code words)
word_is code words coded bytes =
    coded_is (with_code code words) code (λ w. true) byte
    (record { stands_for = λ b w fit e. (found code words b w e, refl); is_code = λ w fit. (coded w, bytes w) }) byte_is

severity_is : IsFormat severity
severity_is = word_is severity_code severities
    (elim [ Indeterminate ↦ refl | Warning ↦ refl | Minor ↦ refl | Major ↦ refl | Critical ↦ refl ])
    (elim [ Indeterminate ↦ refl | Warning ↦ refl | Minor ↦ refl | Major ↦ refl | Critical ↦ refl ])

coded_status : AreCoded status_code statuses
coded_status Cleared = refl
coded_status (Active Indeterminate) = refl
coded_status (Active Warning) = refl
coded_status (Active Minor) = refl
coded_status (Active Major) = refl
coded_status (Active Critical) = refl

byte_status : AreBytes status_code
byte_status Cleared = refl
byte_status (Active Indeterminate) = refl
byte_status (Active Warning) = refl
byte_status (Active Minor) = refl
byte_status (Active Major) = refl
byte_status (Active Critical) = refl

state_is : IsFormat (word state_number states)
state_is = word_is state_number states
    (elim [ None0 ↦ refl | Ack ↦ refl | Closed ↦ refl | Shelved ↦ refl | UnShelved ↦ refl ])
    (elim [ None0 ↦ refl | Ack ↦ refl | Closed ↦ refl | Shelved ↦ refl | UnShelved ↦ refl ])

mode_is : IsFormat (word mode_number modes)
mode_is = word_is mode_number modes
    (elim [ AllStateChanges ↦ refl | RaiseAndClear ↦ refl | SeverityLevel ↦ refl ])
    (elim [ AllStateChanges ↦ refl | RaiseAndClear ↦ refl | SeverityLevel ↦ refl ])

side_is : IsFormat side
side_is = word_is side_code both_sides (elim [ sides.List ↦ refl | sides.Shelf ↦ refl ]) (elim [ sides.List ↦ refl | sides.Shelf ↦ refl ])

clearance_is : IsFormat (word clearance_number clearances)
clearance_is = word_is clearance_number clearances
    (elim [ of_clearance.Any ↦ refl | of_clearance.Cleared ↦ refl | of_clearance.NotCleared ↦ refl ])
    (elim [ of_clearance.Any ↦ refl | of_clearance.Cleared ↦ refl | of_clearance.NotCleared ↦ refl ])

flag_is : IsFormat (word flag_code flags)
flag_is = word_is flag_code flags (elim [ false ↦ refl | true ↦ refl ]) (elim [ false ↦ refl | true ↦ refl ])

coded_event_type : AreCoded event_type_number event_types
coded_event_type Other = refl
coded_event_type CommunicationsAlarm = refl
coded_event_type QualityOfServiceAlarm = refl
coded_event_type ProcessingErrorAlarm = refl
coded_event_type EquipmentAlarm = refl
coded_event_type EnvironmentalAlarm = refl
coded_event_type IntegrityViolation = refl
coded_event_type OperationalViolation = refl
coded_event_type PhysicalViolation = refl
coded_event_type SecurityServiceOrMechanismViolation = refl
coded_event_type TimeDomainViolation = refl

byte_event_type : AreBytes event_type_number
byte_event_type Other = refl
byte_event_type CommunicationsAlarm = refl
byte_event_type QualityOfServiceAlarm = refl
byte_event_type ProcessingErrorAlarm = refl
byte_event_type EquipmentAlarm = refl
byte_event_type EnvironmentalAlarm = refl
byte_event_type IntegrityViolation = refl
byte_event_type OperationalViolation = refl
byte_event_type PhysicalViolation = refl
byte_event_type SecurityServiceOrMechanismViolation = refl
byte_event_type TimeDomainViolation = refl

-- ---- texts and numbers

text_is : (test : List ℕ → Bool) → IsFormat (text test)
text_is test = checked_is test piece piece_is

key_is : IsFormat key
unfolding key
key_is = seen_is _ _ _ (λ k. refl) (λ p. refl) (both_is _ _ (text_is (is_text 1 512)) (both_is _ _ (text_is is_type_name) (text_is (is_text 0 255))))

report_is : IsFormat report
unfolding report
report_is = both_is _ _ key_is (both_is _ _ (word_is status_code statuses coded_status byte_status) (text_is (is_text 0 255)))

operate_is : IsFormat operate
unfolding operate
operate_is =
    both_is _ _ key_is (both_is _ _ (checked_is is_operators (word state_number states) state_is)
    (both_is _ _ (text_is is_operator_name) (opt_is _ (text_is (is_text 0 255)))))

-- ---- the rules of the list

not_zero : (b : ℕ) → eqb (suc b) 0 ≡ false
not_zero b = ne_eqb (suc b) 0 (λ e. omega arith)

max_stands : (number : ℕ) (max : Option ℕ) → nat_lt number (2 ^ 16) ≡ true → max_of number ≡ Some max → (max_code max ≡ number) × (is_max max ≡ true)
max_stands zero None fit e = (refl, refl)
max_stands zero (Some most) fit e = absurd cc
max_stands (suc b) None fit e = let some = rw (not_zero b) at e in absurd cc
max_stands (suc b) (Some most) fit e =
    let some = rw (not_zero b) at e in
    let same : suc b ≡ most = cc in
    let small : suc b < 2 ^ 16 = ltb-true _ _ fit in
    (sym same, subst (λ m. is_max (Some m) ≡ true) same (and_from _ _ (le-leb 1 (suc b) (omega arith)) (le-leb (suc b) 65535 (omega arith))))

max_again : (max : Option ℕ) → is_max max ≡ true → (max_of (max_code max) ≡ Some max) × (nat_lt (max_code max) (2 ^ 16) ≡ true)
max_again None fit = (refl, refl)
max_again (Some zero) fit = absurd cc
max_again (Some (suc most)) fit =
    let small : suc most ≤ 65535 = leb-true _ _ (and_parts (nat_le 1 (suc most)) (nat_le (suc most) 65535) fit).1 in
    (rw (not_zero most) refl, lt-ltb (suc most) (2 ^ 16) (omega arith))

maximum_is : IsFormat maximum
unfolding maximum
maximum_is = coded_is max_of max_code is_max (number w16) (record { stands_for = max_stands; is_code = max_again }) (number_is w16 wide16)

rule_is : IsFormat rule
unfolding rule
rule_is = seen_is _ _ _ (λ r. refl) (λ p. refl) (both_is _ _ mode_is severity_is)

-- ---- shelves

criterion_is : IsFormat criterion
unfolding criterion
criterion_is = seen_is _ _ _ (λ m. refl) (λ p. refl) (both_is _ _ (text_is is_type_name) (text_is is_pattern_text))

set_is : {A : Type 0} (most : ℕ) (same : A → A → Bool) (f : Format A) → most < 2 ^ 16 → IsFormat f → IsFormat (set most same f)
set_is most same f small is = checked_is (λ xs. not (repeats same xs)) (list most f) (list_is most f small is)

shelf_is : IsFormat shelf
unfolding shelf
shelf_is =
    seen_is _ _ _ (λ s. refl) (λ p. refl)
    (both_is _ _ (text_is (is_text 1 64)) (both_is _ _ (set_is 64 (pointwise ◌==◌) resource_match (omega arith) (text_is is_match))
    (both_is _ _ (set_is 64 same_type_match criterion (omega arith) criterion_is) (opt_is _ (text_is (is_text 0 255))))))

-- ---- filters

asked_more : (n code : ℕ) (bytes : List ℕ) → asked_at n (suc code ∷ bytes)
    ≡ and_then {B = Option (Compare × Severity) × List ℕ} (named (n - suc (length bytes)) (with_code compare_code comparisons (suc code))) (λ compare. and_then (severity.read n bytes) (λ x. Ok (Some (compare, x.0), x.1)))
unfolding asked_at
asked_more n code bytes = rw (not_zero code) refl

asked_takes : (n : ℕ) (bytes : List ℕ) (o : Option (Compare × Severity)) (rest : List ℕ) → IsBytes bytes → asked_at n bytes ≡ Ok (o, rest) → Takes bytes (spelled_asked o) rest
unfolding asked_at
asked_takes n [] o rest fits e = absurd cc
asked_takes n (zero ∷ bytes) o rest fits e =
    subst (λ (y : Option (Compare × Severity) × List ℕ). Takes (0 ∷ bytes) (spelled_asked y.0) y.1) (ok_is (None, bytes) (o, rest) e)
    (record { parts = refl; rest_fits = IsBytes-rest 0 bytes fits })
asked_takes n (suc code ∷ bytes) o rest fits e =
    let a = bind_ok (named (n - suc (length bytes)) (with_code compare_code comparisons (suc code)))
    (λ compare. and_then (severity.read n bytes) (λ x. Ok (Some (compare, x.0), x.1))) (o, rest) (sym (asked_more n code bytes) ∙ e) in
    let b = bind_ok (severity.read n bytes) (λ x. Ok (Some (a.0, x.0), x.1)) (o, rest) a.2 in
    let code_is : compare_code a.0 ≡ suc code = found compare_code comparisons (suc code) a.0 (named_ok (n - suc (length bytes)) (with_code compare_code comparisons (suc code)) a.0 a.1) in
    let t = severity_is.takes n bytes b.0.0 b.0.1 (IsBytes-rest (suc code) bytes fits) b.1 in
    subst (λ (y : Option (Compare × Severity) × List ℕ). Takes (suc code ∷ bytes) (spelled_asked y.0) y.1) (ok_is (Some (a.0, b.0.0), b.0.1) (o, rest) b.2)
    (record { parts = rw code_is (ap (λ (t : List ℕ). suc code ∷ t) t.0.parts); rest_fits = t.0.rest_fits })

asked_some : (n : ℕ) (compare : Compare) (rest : List ℕ) → asked_at n (compare_code compare ∷ rest) ≡ and_then (severity.read n rest) (λ x. Ok (Some (compare, x.0), x.1))
unfolding asked_at
asked_some n Below rest = refl
asked_some n Equal rest = refl
asked_some n Above rest = refl

asked_again : (n : ℕ) (o : Option (Compare × Severity)) (rest : List ℕ) → asked_at n (spelled_asked o ++ rest) ≡ Ok (o, rest)
unfolding asked_at
asked_again n None rest = refl
asked_again n (Some a) rest = asked_some n a.0 (severity.spell a.1 ++ rest) ∙ rw (severity_is.again n a.1 rest refl) refl

asked_cut : (n : ℕ) (o : Option (Compare × Severity)) (front : List ℕ) (b : ℕ) (behind : List ℕ) → spelled_asked o ≡ front ++ (b ∷ behind) → asked_at n front ≡ Err (Truncated n)
unfolding asked_at
asked_cut n o [] b behind e = refl
asked_cut n None (c ∷ front) b behind e = let long = ap length e ∙ length-append (c ∷ front) (b ∷ behind) in absurd (omega arith)
asked_cut n (Some a) (c ∷ front) b behind e =
    let first : compare_code a.0 ≡ c = cc in
    let inside : severity.spell a.1 ≡ front ++ (b ∷ behind) = cc in
    rw (← first) (asked_some n a.0 front ∙ rw (severity_is.cut n a.1 front b behind refl inside) refl)

asked_is : IsFormat asked
asked_is = record {
  takes = λ n bytes o rest fits e. (asked_takes n bytes o rest fits e, refl);
  again = λ n o rest fit. asked_again n o rest;
  cut = λ n o front b behind fit e. asked_cut n o front b behind e;
}

purge_is : IsFormat purge
unfolding purge
purge_is =
    seen_is _ _ _ (λ f. refl) (λ p. refl)
    (both_is _ _ clearance_is (both_is _ _ (opt_is _ (checked_is is_age (number w64) (number_is w64 wide64)))
    (both_is _ _ asked_is (both_is _ _ (opt_is _ state_is) (opt_is _ (text_is (is_text 0 64)))))))

compress_is : IsFormat compress
unfolding compress
compress_is =
    seen_is _ _ _ (λ f. refl) (λ p. refl)
    (both_is _ _ (opt_is _ (text_is is_match)) (both_is _ _ (opt_is _ (text_is is_type_name)) (opt_is _ (text_is (is_text 0 255)))))

-- ---- inventories

identity_is : IsFormat identity
unfolding identity
identity_is = seen_is _ _ _ (λ i. refl) (λ p. refl) (both_is _ _ (text_is is_type_name) (text_is is_type_name))

row_is : IsFormat row
unfolding row
row_is =
    seen_is _ _ _ (λ r. refl) (λ p. refl)
    (both_is _ _ (text_is is_type_name) (both_is _ _ (text_is (is_text 0 255)) (both_is _ _ (list_is 64 resource (omega arith) (text_is (is_text 1 512)))
    (both_is _ _ flag_is (both_is _ _ (checked_is is_severity_set byte byte_is) (both_is _ _ (text_is (is_text 0 255))
    (word_is event_type_number event_types coded_event_type byte_event_type)))))))

inventory_is : IsFormat inventory
unfolding inventory
inventory_is =
    seen_is _ _ _ (λ i. refl) (λ p. refl)
    (checked_is makes_inventory (both (list 2000 identity) (list 2000 row)) (both_is _ _ (list_is 2000 identity (omega arith) identity_is) (list_is 2000 row (omega arith) row_is)))

-- ---- events

abbrev EventTaken : List ℕ → Event → List ℕ → Type 0
EventTaken bytes e rest = Takes bytes (kind_of e ∷ spelled_fields e) rest × (fits_event e ≡ true)

-- the fields of a kind, behind its byte
kind_takes : {A : Type 0} (made : A → Event) (f : Format A) (k : ℕ) → IsFormat f → ((a : A) → kind_of (made a) ≡ k) → ((a : A) → spelled_fields (made a) ≡ f.spell a) → ((a : A) → fits_event (made a) ≡ f.fits a)
    → (n kind : ℕ) (bytes : List ℕ) (e : Event) (rest : List ℕ) → IsBytes bytes → kind ≡ k → event_by made f n bytes ≡ Ok (e, rest) → EventTaken (kind ∷ bytes) e rest
kind_takes {A} made f k is of_kind spelled fitting n kind bytes e rest fits same said =
    let a = bind_ok (f.read n bytes) (λ x. Ok (made x.0, x.1)) (e, rest) said in
    let t = is.takes n bytes a.0.0 a.0.1 fits a.1 in
    subst (λ (y : Event × List ℕ). EventTaken (kind ∷ bytes) y.0 y.1) (ok_is (made a.0.0, a.0.1) (e, rest) a.2)
    (rw (of_kind a.0.0, spelled a.0.0, same) (record { parts = ap (λ (t : List ℕ). k ∷ t) t.0.parts; rest_fits = t.0.rest_fits }), fitting a.0.0 ∙ t.1)

by_kind : {A : Type 0} {P : Type 0} (kind k : ℕ) (said other : Result A FrameFault) (x : A) → (kind ≡ k → said ≡ Ok x → P) → (other ≡ Ok x → P) → cond (eqb kind k) said other ≡ Ok x → P
by_kind {A} {P} kind k said other x here further e = cases (eqb kind k) refl e where
  cases : (test : Bool) → eqb kind k ≡ test → cond test said other ≡ Ok x → P
  cases true is e = here (eqb-true kind k is) e
  cases false is e = further e

fields_take : (n kind place : ℕ) (bytes : List ℕ) (e : Event) (rest : List ℕ) → IsBytes bytes → kind_at kind place n bytes ≡ Ok (e, rest) → EventTaken (kind ∷ bytes) e rest
fields_take n kind place bytes e rest fits said =
    by_kind kind 1 _ _ (e, rest) (kind_takes reported report 1 report_is (λ a. refl) (λ a. refl) (λ a. refl) n kind bytes e rest fits)
    (by_kind kind 2 _ _ (e, rest) (kind_takes operated operate 2 operate_is (λ a. refl) (λ a. refl) (λ a. refl) n kind bytes e rest fits)
    (by_kind kind 3 _ _ (e, rest) (kind_takes events.SetMax maximum 3 maximum_is (λ a. refl) (λ a. refl) (λ a. refl) n kind bytes e rest fits)
    (by_kind kind 4 _ _ (e, rest) (kind_takes events.SetNotify rule 4 rule_is (λ a. refl) (λ a. refl) (λ a. refl) n kind bytes e rest fits)
    (by_kind kind 5 _ _ (e, rest) (kind_takes shelf_put placed_shelf 5 (both_is shelf byte shelf_is byte_is) (λ a. refl) (λ a. refl) (λ a. refl) n kind bytes e rest fits)
    (by_kind kind 6 _ _ (e, rest) (kind_takes shelf_dropped shelf_name 6 (text_is (is_text 1 64)) (λ a. refl) (λ a. refl) (λ a. refl) n kind bytes e rest fits)
    (by_kind kind 7 _ _ (e, rest) (kind_takes purged sided_purge 7 (both_is side purge side_is purge_is) (λ a. refl) (λ a. refl) (λ a. refl) n kind bytes e rest fits)
    (by_kind kind 8 _ _ (e, rest) (kind_takes compressed sided_compress 8 (both_is side compress side_is compress_is) (λ a. refl) (λ a. refl) (λ a. refl) n kind bytes e rest fits)
    (by_kind kind 9 _ _ (e, rest) (kind_takes events.Install inventory 9 inventory_is (λ a. refl) (λ a. refl) (λ a. refl) n kind bytes e rest fits)
    (λ no. absurd (cc)))))))))) said

event_takes : (n : ℕ) (bytes : List ℕ) (e : Event) (rest : List ℕ) → IsBytes bytes → event_at n bytes ≡ Ok (e, rest) → EventTaken bytes e rest
unfolding event_at byte_at
event_takes n [] e rest fits said = absurd cc
event_takes n (kind ∷ bytes) e rest fits said = fields_take n kind (n - suc (length bytes)) bytes e rest (IsBytes-rest kind bytes fits) said

event_again : (n : ℕ) (e : Event) (rest : List ℕ) → fits_event e ≡ true → event_at n ((kind_of e ∷ spelled_fields e) ++ rest) ≡ Ok (e, rest)
unfolding event_at byte_at
event_again n (events.Report key status text) rest fit = rw (report_is.again n (key, (status, text)) rest fit) refl
event_again n (events.Operate key state operator text) rest fit = rw (operate_is.again n (key, (state, (operator, text))) rest fit) refl
event_again n (events.SetMax max) rest fit = rw (maximum_is.again n max rest fit) refl
event_again n (events.SetNotify r) rest fit = rw (rule_is.again n r rest fit) refl
event_again n (events.PutShelf s at) rest fit = rw ((both_is shelf byte shelf_is byte_is).again n (s, at) rest fit) refl
event_again n (events.DropShelf name) rest fit = rw ((text_is (is_text 1 64)).again n name rest fit) refl
event_again n (events.Purge s filter) rest fit = rw ((both_is side purge side_is purge_is).again n (s, filter) rest fit) refl
event_again n (events.Compress s filter) rest fit = rw ((both_is side compress side_is compress_is).again n (s, filter) rest fit) refl
event_again n (events.Install i) rest fit = rw (inventory_is.again n i rest fit) refl

-- a cut before the kind's byte, or behind it
kind_cut : (k : ℕ) (spelled : List ℕ) (n : ℕ) (front : List ℕ) (b : ℕ) (behind : List ℕ) → k ∷ spelled ≡ front ++ (b ∷ behind)
    → ((further : List ℕ) → spelled ≡ further ++ (b ∷ behind) → event_at n (k ∷ further) ≡ Err (Truncated n)) → event_at n front ≡ Err (Truncated n)
unfolding event_at byte_at
kind_cut k spelled n [] b behind e inside = refl
kind_cut k spelled n (c ∷ front) b behind e inside =
    let first : k ≡ c = cc in
    let further : spelled ≡ front ++ (b ∷ behind) = cc in
    subst (λ c. event_at n (c ∷ front) ≡ Err (Truncated n)) first (inside front further)

event_cut : (n : ℕ) (e : Event) (front : List ℕ) (b : ℕ) (behind : List ℕ) → fits_event e ≡ true → kind_of e ∷ spelled_fields e ≡ front ++ (b ∷ behind) → event_at n front ≡ Err (Truncated n)
unfolding event_at byte_at
event_cut n (events.Report key status text) front b behind fit e = kind_cut 1 _ n front b behind e (λ further inside. rw (report_is.cut n (key, (status, text)) further b behind fit inside) refl)
event_cut n (events.Operate key state operator text) front b behind fit e = kind_cut 2 _ n front b behind e (λ further inside. rw (operate_is.cut n (key, (state, (operator, text))) further b behind fit inside) refl)
event_cut n (events.SetMax max) front b behind fit e = kind_cut 3 _ n front b behind e (λ further inside. rw (maximum_is.cut n max further b behind fit inside) refl)
event_cut n (events.SetNotify r) front b behind fit e = kind_cut 4 _ n front b behind e (λ further inside. rw (rule_is.cut n r further b behind fit inside) refl)
event_cut n (events.PutShelf s at) front b behind fit e = kind_cut 5 _ n front b behind e (λ further inside. rw ((both_is shelf byte shelf_is byte_is).cut n (s, at) further b behind fit inside) refl)
event_cut n (events.DropShelf name) front b behind fit e = kind_cut 6 _ n front b behind e (λ further inside. rw ((text_is (is_text 1 64)).cut n name further b behind fit inside) refl)
event_cut n (events.Purge s filter) front b behind fit e = kind_cut 7 _ n front b behind e (λ further inside. rw ((both_is side purge side_is purge_is).cut n (s, filter) further b behind fit inside) refl)
event_cut n (events.Compress s filter) front b behind fit e = kind_cut 8 _ n front b behind e (λ further inside. rw ((both_is side compress side_is compress_is).cut n (s, filter) further b behind fit inside) refl)
event_cut n (events.Install i) front b behind fit e = kind_cut 9 _ n front b behind e (λ further inside. rw (inventory_is.cut n i further b behind fit inside) refl)

event_is : IsFormat event
event_is = record {
  takes = λ n bytes e rest fits said. event_takes n bytes e rest fits said;
  again = λ n e rest fit. event_again n e rest fit;
  cut = λ n e front b behind fit spelled. event_cut n e front b behind fit spelled;
}

pub entry_is : IsFormat entry
unfolding entry
entry_is =
    seen_is _ _ _ (λ e. refl) (λ p. refl)
    (both_is _ _ (checked_is is_stamp (number w64) (number_is w64 wide64)) (both_is (number w16) event (number_is w16 wide16) event_is))

-- ---- whole frames

-- the bytes of an entry are its frame
pub read_is_frame : (bytes : List ℕ) (e : Entry) → IsBytes bytes → entry_of bytes ≡ Ok e → (entry.fits e ≡ true) × (bytes ≡ frame_of e)
unfolding entry_of frame_of
read_is_frame bytes e fits said =
    let a = bind_ok (entry.read (length bytes) bytes) (λ x. whole_at x.0 (length bytes) x.1) e said in
    let p = pass_ok (eqb (length a.0.1) 0) (Trailing (length bytes - length a.0.1)) a.0.0 e a.2 in
    let nothing : a.0.1 ≡ [] = nil_from_length a.0.1 (eqb-true _ _ p.0) in
    let t = entry_is.takes (length bytes) bytes a.0.0 a.0.1 fits a.1 in
    let whole : bytes ≡ entry.spell a.0.0 = t.0.parts ∙ ap (λ (r : List ℕ). entry.spell a.0.0 ++ r) nothing ∙ append-nil (entry.spell a.0.0) in
    subst (λ (e : Entry). (entry.fits e ≡ true) × (bytes ≡ entry.spell e)) p.1 (t.1, whole)

-- the frame of an entry is read as it
pub frame_is_read : (e : Entry) → entry.fits e ≡ true → entry_of (frame_of e) ≡ Ok e
unfolding entry_of frame_of
frame_is_read e fit =
    let n = length (entry.spell e) in
    let read : entry.read n (entry.spell e) ≡ Ok (e, []) = ap (entry.read n) (sym (append-nil (entry.spell e))) ∙ entry_is.again n e [] fit in
    rw read refl

-- bytes behind a frame
pub further_is_trailing : (e : Entry) (b : ℕ) (more : List ℕ) → entry.fits e ≡ true → entry_of (frame_of e ++ (b ∷ more)) ≡ Err (Trailing (length (frame_of e)))
unfolding entry_of frame_of
further_is_trailing e b more fit =
    let n = length (entry.spell e ++ (b ∷ more)) in
    let some : eqb (suc (length more)) 0 ≡ false = ne_eqb (suc (length more)) 0 (λ z. cc) in
    rw (entry_is.again n e (b ∷ more) fit, some) (ap (λ k. Err (Trailing k)) (omega (arith, length-append (entry.spell e) (b ∷ more))))

-- a frame that is cut
pub cut_is_truncated : (e : Entry) (front : List ℕ) (b : ℕ) (behind : List ℕ) → entry.fits e ≡ true → frame_of e ≡ front ++ (b ∷ behind) → entry_of front ≡ Err (Truncated (length front))
unfolding entry_of frame_of
cut_is_truncated e front b behind fit spelled = rw (entry_is.cut (length front) e front b behind fit spelled) refl

-- no frame begins another
pub no_longer : (a b : Entry) (more : List ℕ) → entry.fits a ≡ true → entry.fits b ≡ true → frame_of b ≡ frame_of a ++ more → (more ≡ []) × (a ≡ b)
no_longer a b [] fit_a fit_b e =
    let same : frame_of b ≡ frame_of a = e ∙ append-nil (frame_of a) in
    (refl, ok_is a b (sym (frame_is_read a fit_a) ∙ ap entry_of (sym same) ∙ frame_is_read b fit_b))
no_longer a b (c ∷ more) fit_a fit_b e =
    let one = sym (frame_is_read b fit_b) ∙ ap entry_of e ∙ further_is_trailing a c more fit_a in absurd cc

-- bytes with a bad field begin no frame
pub bad_begins_none : (e : Entry) (bytes more : List ℕ) (place : ℕ) → entry.fits e ≡ true → entry_of bytes ≡ Err (Byte place) → frame_of e ≡ bytes ++ more → ⊥
bad_begins_none e bytes [] place fit bad spelled =
    let whole : frame_of e ≡ bytes = spelled ∙ append-nil bytes in
    let one = sym (frame_is_read e fit) ∙ ap entry_of whole ∙ bad in absurd cc
bad_begins_none e bytes (c ∷ more) place fit bad spelled =
    let one = sym (cut_is_truncated e bytes c more fit spelled) ∙ bad in absurd cc
