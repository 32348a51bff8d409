-- The frame of an entry: its time, its origin, the kind of its event, and the event's fields.
use Rattle.std.specs.Prelude.{ℕ, suc, ◌-◌, ◌==◌, ◌&&◌, nat_le, Bool, true, if◌then◌else◌, List, [], ◌∷◌, length, Option, Some, None, Result, Ok, Err}
use Rattle.std.specs.Int.{w16, w64}
use Rattle.al_base.specs.Identifiers.{is_type_name}
use Rattle.al_base.specs.Limits.{is_age, is_operator_name, is_severity_set, is_stamp, is_text, longest_alarm_text, longest_description, longest_operator_name, longest_operator_text, longest_qualifier, longest_resource, longest_shelf_name, most_identities, most_row_resources, most_rows, most_shelf_resources, most_shelf_types}
use Rattle.al_base.specs.declared.operator.OperatorState.{OperatorState}
use Rattle.al_base.specs.declared.severity.Severity.{Severity}
use Rattle.al_base.specs.declared.severity.Status.{Status}
use Rattle.std.specs.Cmp.Lexicographic.{pointwise}
use Rattle.al_ids.specs.declared.key.AlarmKey.{AlarmKey}
use Rattle.al_model.specs.declared.entry.Entry.{Entry}
use Rattle.al_model.specs.declared.event.Event.{Event}
use Rattle.al_model.specs.declared.event.Event.TheVariants as events
use Rattle.al_model.specs.declared.event.Side.{Side}
use Rattle.al_notify.specs.declared.rule.NotifyRule.{NotifyRule}
use Rattle.al_select.specs.declared.compress.CompressFilter.{CompressFilter}
use Rattle.al_select.specs.declared.purge.Compare.{Compare}
use Rattle.al_select.specs.declared.purge.PurgeFilter.{PurgeFilter}
use Rattle.al_shelf.specs.Same.{same_type_match}
use Rattle.al_shelf.specs.declared.shelf.Shelf.{Shelf}
use Rattle.al_shelf.specs.declared.shelf.TypeMatch.{TypeMatch}
use Rattle.al_types.specs.Inventories.{InventoryView}
use Rattle.al_types.specs.Sound.{is_sound}
use Rattle.al_types.specs.declared.row.Identity.{Identity}
use Rattle.al_types.specs.declared.row.Row.{Row}
use Rattle.al_frame.specs.declared.fault.FrameFault.{FrameFault}
use Rattle.al_frame.specs.declared.fault.FrameFault.TheVariants.{Truncated, Byte, Trailing}
use Rattle.al_frame.specs.Codes.{with_code, compare_code, comparisons, flag_code, flags, both_sides, side_code, severity_code, status_code}
use Rattle.al_base.specs.Names.{event_type_number, event_types, severities, state_number, states, statuses}
use Rattle.al_select.specs.Clearances.{clearance_number, clearances}
use Rattle.al_notify.specs.Modes.{mode_number, modes}
use Rattle.al_frame.specs.Formats.{Format, byte, both, byte_at, checked, coded, list, named, number, opt, seen, set, text}
use Rattle.al_base.specs.Answers.{and_then}
use Rattle.al_ids.specs.Forms.{is_match, is_pattern_text}
use Rattle.al_base.specs.Operators.{is_operators}

-- ---- texts, numbers and words

abbrev pub resource : Format (List ℕ)
resource = text (is_text 1 longest_resource)

abbrev pub type_name : Format (List ℕ)
type_name = text is_type_name

abbrev pub qualifier : Format (List ℕ)
qualifier = text (is_text 0 longest_qualifier)

abbrev pub resource_match : Format (List ℕ)
resource_match = text is_match

-- a word, in the byte of its code
abbrev pub word : {W : Type 0} → (W → ℕ) → List W → Format W
word code words = coded (with_code code words) code (λ w. true) byte

abbrev pub severity : Format Severity
severity = word severity_code severities

-- ---- reports and operator actions

abbrev pub key_from : List ℕ × (List ℕ × List ℕ) → AlarmKey
key_from p = record { resource = p.0; type_id = p.1.0; qualifier = p.1.1 }

unfoldable pub key : Format AlarmKey
key = seen key_from (λ k. (k.resource, (k.type_id, k.qualifier))) (both resource (both type_name qualifier))

unfoldable pub report : Format (AlarmKey × (Status × List ℕ))
report = both key (both (word status_code statuses) (text (is_text 0 longest_alarm_text)))

unfoldable pub operate : Format (AlarmKey × (OperatorState × (List ℕ × Option (List ℕ))))
operate = both key (both (checked is_operators (word state_number states)) (both (text is_operator_name) (opt (text (is_text 0 longest_operator_text)))))

-- ---- the rules of the list

-- 0 for infinite
abbrev pub max_of : ℕ → Option (Option ℕ)
max_of number = if number == 0 then Some None else Some (Some number)

abbrev pub max_code : Option ℕ → ℕ
max_code None = 0
max_code (Some most) = most

abbrev pub is_max : Option ℕ → Bool
is_max None = true
is_max (Some most) = nat_le 1 most && nat_le most 65535

unfoldable pub maximum : Format (Option ℕ)
maximum = coded max_of max_code is_max (number w16)

unfoldable pub rule : Format NotifyRule
rule = seen (λ p. record { mode = p.0; level = p.1 }) (λ r. (r.mode, r.level)) (both (word mode_number modes) severity)

-- ---- shelves

unfoldable pub criterion : Format TypeMatch
criterion = seen (λ p. record { type_id = p.0; qualifier = p.1 }) (λ m. (m.type_id, m.qualifier)) (both type_name (text is_pattern_text))

abbrev pub shelf_name : Format (List ℕ)
shelf_name = text (is_text 1 longest_shelf_name)

unfoldable pub shelf : Format Shelf
shelf = seen
    (λ p. record { name = p.0; resources = p.1.0; types = p.1.1.0; description = p.1.1.1 })
    (λ s. (s.name, (s.resources, (s.types, s.description))))
    (both shelf_name (both (set most_shelf_resources (pointwise ◌==◌) resource_match)
    (both (set most_shelf_types same_type_match criterion) (opt (text (is_text 0 longest_description))))))

-- ---- filters

-- what is asked of a severity: 0 for nothing, or how it has to stand to another, which follows
unfoldable pub asked_at : ℕ → List ℕ → Result (Option (Compare × Severity) × List ℕ) FrameFault
asked_at n [] = Err (Truncated n)
asked_at n (code ∷ rest) =
    if code == 0 then Ok (None, rest)
    else and_then (named (n - suc (length rest)) (with_code compare_code comparisons code)) (λ compare.
    and_then (severity.read n rest) (λ x. Ok (Some (compare, x.0), x.1)))

abbrev pub spelled_asked : Option (Compare × Severity) → List ℕ
spelled_asked None = 0 ∷ []
spelled_asked (Some asked) = compare_code asked.0 ∷ severity_code asked.1 ∷ []

abbrev pub asked : Format (Option (Compare × Severity))
asked = record { read = asked_at; spell = spelled_asked; fits = λ a. true }

unfoldable pub purge : Format PurgeFilter
purge = seen
    (λ p. record { clearance = p.0; age = p.1.0; severity = p.1.1.0; state = p.1.1.1.0; user = p.1.1.1.1 })
    (λ f. (f.clearance, (f.age, (f.severity, (f.state, f.user)))))
    (both (word clearance_number clearances) (both (opt (checked is_age (number w64)))
    (both asked (both (opt (word state_number states)) (opt (text (is_text 0 longest_operator_name)))))))

unfoldable pub compress : Format CompressFilter
compress = seen
    (λ p. record { resource = p.0; type_id = p.1.0; qualifier = p.1.1 })
    (λ f. (f.resource, (f.type_id, f.qualifier)))
    (both (opt resource_match) (both (opt type_name) (opt qualifier)))

abbrev pub side : Format Side
side = word side_code both_sides

-- ---- inventories

unfoldable pub identity : Format Identity
identity = seen (λ p. record { name = p.0; base = p.1 }) (λ i. (i.name, i.base)) (both type_name type_name)

unfoldable pub row : Format Row
row = seen
    (λ p. record {
      type_id = p.0;
      qualifier = p.1.0;
      resources = p.1.1.0;
      will_clear = p.1.1.1.0;
      severities = p.1.1.1.1.0;
      description = p.1.1.1.1.1.0;
      event_type = p.1.1.1.1.1.1;
    })
    (λ r. (r.type_id, (r.qualifier, (r.resources, (r.will_clear, (r.severities, (r.description, r.event_type)))))))
    (both type_name (both qualifier (both (list most_row_resources resource) (both (word flag_code flags)
    (both (checked is_severity_set byte) (both (text (is_text 0 longest_description)) (word event_type_number event_types)))))))

abbrev pub makes_inventory : List Identity × List Row → Bool
makes_inventory lists = is_sound lists.0 lists.1

unfoldable pub inventory : Format InventoryView
inventory = seen
    (λ p. record { identities = p.0; rows = p.1 })
    (λ i. (i.identities, i.rows))
    (checked makes_inventory (both (list most_identities identity) (list most_rows row)))

-- ---- events

-- a shelf and its position
abbrev pub placed_shelf : Format (Shelf × ℕ)
placed_shelf = both shelf byte

abbrev pub sided_purge : Format (Side × PurgeFilter)
sided_purge = both side purge

abbrev pub sided_compress : Format (Side × CompressFilter)
sided_compress = both side compress

abbrev pub reported : AlarmKey × (Status × List ℕ) → Event
reported p = events.Report p.0 p.1.0 p.1.1

abbrev pub operated : AlarmKey × (OperatorState × (List ℕ × Option (List ℕ))) → Event
operated p = events.Operate p.0 p.1.0 p.1.1.0 p.1.1.1

abbrev pub shelf_put : Shelf × ℕ → Event
shelf_put p = events.PutShelf p.0 p.1

abbrev pub shelf_dropped : List ℕ → Event
shelf_dropped name = events.DropShelf name

abbrev pub purged : Side × PurgeFilter → Event
purged p = events.Purge p.0 p.1

abbrev pub compressed : Side × CompressFilter → Event
compressed p = events.Compress p.0 p.1

-- an event of these fields
abbrev pub event_by : {A : Type 0} → (A → Event) → Format A → ℕ → List ℕ → Result (Event × List ℕ) FrameFault
event_by made fields n bytes = and_then (fields.read n bytes) (λ x. Ok (made x.0, x.1))

-- an event of this kind, whose byte stands at this place, from what stands behind the byte
abbrev pub kind_at : ℕ → ℕ → ℕ → List ℕ → Result (Event × List ℕ) FrameFault
kind_at kind place n rest =
    if kind == 1 then event_by reported report n rest
    else if kind == 2 then event_by operated operate n rest
    else if kind == 3 then event_by events.SetMax maximum n rest
    else if kind == 4 then event_by events.SetNotify rule n rest
    else if kind == 5 then event_by shelf_put placed_shelf n rest
    else if kind == 6 then event_by shelf_dropped shelf_name n rest
    else if kind == 7 then event_by purged sided_purge n rest
    else if kind == 8 then event_by compressed sided_compress n rest
    else if kind == 9 then event_by events.Install inventory n rest
    else Err (Byte place)

unfoldable pub event_at : ℕ → List ℕ → Result (Event × List ℕ) FrameFault
event_at n bytes = and_then (byte_at n bytes) (λ kind. kind_at kind.0 (n - length bytes) n kind.1)

abbrev pub kind_of : Event → ℕ
kind_of (events.Report k status t) = 1
kind_of (events.Operate k state operator t) = 2
kind_of (events.SetMax max) = 3
kind_of (events.SetNotify r) = 4
kind_of (events.PutShelf s at) = 5
kind_of (events.DropShelf name) = 6
kind_of (events.Purge s filter) = 7
kind_of (events.Compress s filter) = 8
kind_of (events.Install i) = 9

abbrev pub spelled_fields : Event → List ℕ
spelled_fields (events.Report k status t) = report.spell (k, (status, t))
spelled_fields (events.Operate k state operator t) = operate.spell (k, (state, (operator, t)))
spelled_fields (events.SetMax max) = maximum.spell max
spelled_fields (events.SetNotify r) = rule.spell r
spelled_fields (events.PutShelf s at) = placed_shelf.spell (s, at)
spelled_fields (events.DropShelf name) = shelf_name.spell name
spelled_fields (events.Purge s filter) = sided_purge.spell (s, filter)
spelled_fields (events.Compress s filter) = sided_compress.spell (s, filter)
spelled_fields (events.Install i) = inventory.spell i

abbrev pub fits_event : Event → Bool
fits_event (events.Report k status t) = report.fits (k, (status, t))
fits_event (events.Operate k state operator t) = operate.fits (k, (state, (operator, t)))
fits_event (events.SetMax max) = maximum.fits max
fits_event (events.SetNotify r) = rule.fits r
fits_event (events.PutShelf s at) = placed_shelf.fits (s, at)
fits_event (events.DropShelf name) = shelf_name.fits name
fits_event (events.Purge s filter) = sided_purge.fits (s, filter)
fits_event (events.Compress s filter) = sided_compress.fits (s, filter)
fits_event (events.Install i) = inventory.fits i

abbrev pub event : Format Event
event = record { read = event_at; spell = λ e. kind_of e ∷ spelled_fields e; fits = fits_event }

-- ---- entries

unfoldable pub entry : Format Entry
entry = seen
    (λ p. record { time = p.0; origin = p.1.0; event = p.1.1 })
    (λ e. (e.time, (e.origin, e.event)))
    (both (checked is_stamp (number w64)) (both (number w16) event))

-- the frame of an entry
unfoldable pub frame_of : Entry → List ℕ
frame_of e = entry.spell e

abbrev pub whole_at : Entry → ℕ → List ℕ → Result Entry FrameFault
whole_at e n rest = if length rest == 0 then Ok e else Err (Trailing (n - length rest))

-- the entry whose frame the bytes are, or the one fault of bytes that are no frame
unfoldable pub entry_of : List ℕ → Result Entry FrameFault
entry_of bytes = and_then (entry.read (length bytes) bytes) (λ x. whole_at x.0 (length bytes) x.1)
