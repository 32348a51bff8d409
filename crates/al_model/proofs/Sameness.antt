-- A step leaves all but the time exactly where its event changes nothing.
use Rattle.std.proofs.Common.{◌≡◌, ◌≢◌, ℕ, ◌<◌, Bool, true, false, cond, not, ◌&&◌, ◌||◌, ◌==◌, Option, None, Some, List, map, refl, sym, ap, ◌∙◌, arith}
use Rattle.std.specs.List.{AllByRecursion, filter, filter_map, list_any}
use Rattle.std.specs.Option.{IfSome, is_some, option_eq, option_map, option_to_list}
use Rattle.std.specs.Ordering.{is_eq, is_gt, is_lt}
use Rattle.al_base.specs.declared.severity.Status.{Status}
use Rattle.al_base.specs.declared.severity.Status.TheVariants.{Cleared, Active}
use Rattle.al_base.specs.declared.text.Text.{Text}
use Rattle.al_ids.proofs.Keyed.{equal_key}
use Rattle.al_ids.specs.Keys.{key_cmp}
use Rattle.al_ids.specs.declared.key.AlarmKey.{AlarmKey}
use Rattle.al_notify.specs.Logs.{LogView}
use Rattle.al_notify.specs.Rules.{sends}
use Rattle.al_notify.specs.declared.note.NoteBody.{NoteBody}
use Rattle.al_notify.specs.declared.note.NoteBody.TheVariants as notes
use Rattle.al_model.specs.Alarms.{alarm_of, is_of, new_alarm, says_more, status_of, with_newcomer}
use Rattle.al_model.specs.Decision.{changes, sets}
use Rattle.al_model.specs.Events.{after_event, fate, newcomer, set_by, touches}
use Rattle.al_model.specs.Sames.{same_installed, same_rule, same_shelves}
use Rattle.al_model.specs.State.{AlarmState, State, is_listed, is_on, shelf_name}
use Rattle.al_model.specs.Step.{IsSameButTime, built, is_news, log_after, moved, note_of, step, touches_side}
use Rattle.al_model.specs.declared.entry.Entry.{Entry}
use Rattle.al_model.specs.declared.event.Event.{Event}
use Rattle.al_model.specs.declared.event.Event.TheVariants as events
use Rattle.al_model.specs.declared.event.Side.{Side}
use Rattle.al_model.specs.declared.event.Side.TheVariants as sides
use Rattle.al_model.proofs.Living.{all_live, any_append, any_map, found, found_fails, map-filter_map, none_of_both, none_touched}
use Rattle.al_model.proofs.Moves.{moved_key}
use Rattle.al_model.proofs.Sames.{decides_installed, decides_max, decides_rule, decides_shelves}
use Rattle.al_model.proofs.Tools.{either, is_none_at, none_true, not_false}
use Rattle.al_model.proofs.Touched.{life, touched, untouched}

-- ---- nothing but the alarms

pub set_nothing : (s : State) (event : Event) → sets s event ≡ false → set_by s event ≡ s
set_nothing s (events.Report key status text) h = refl
set_nothing s (events.Operate key state operator text) h = absurd (cc)
set_nothing s (events.SetMax max) h =
    let same = (decides_max s.max max).0 (not_false (option_eq ◌==◌ s.max max) h) in
    ap (λ m. let t : State = record s { max = m } in t) (sym same)
set_nothing s (events.SetNotify rule) h =
    let same = (decides_rule s.rule rule).0 (not_false (same_rule s.rule rule) h) in
    ap (λ r. let t : State = record s { rule = r } in t) (sym same)
set_nothing s (events.PutShelf shelf at) h =
    let shelves = (set_by s (events.PutShelf shelf at)).shelves in
    let same = (decides_shelves s.shelves shelves).0 (not_false (same_shelves s.shelves shelves) h) in
    ap (λ xs. let t : State = record s { shelves = xs } in t) (sym same)
set_nothing s (events.DropShelf name) h =
    let shelves = (set_by s (events.DropShelf name)).shelves in
    let same = (decides_shelves s.shelves shelves).0 (not_false (same_shelves s.shelves shelves) h) in
    ap (λ xs. let t : State = record s { shelves = xs } in t) (sym same)
set_nothing s (events.Purge side filter) h = refl
set_nothing s (events.Compress side filter) h = refl
set_nothing s (events.Install inventory) h =
    let same = (decides_installed s.inventory (Some inventory)).0 (not_false (same_installed s.inventory (Some inventory)) h) in
    ap (λ i. let t : State = record s { inventory = i } in t) (sym same)

-- ---- the alarms

-- the alarms after the event and the moves
abbrev pub alarms_after : State → ℕ → Event → List AlarmState
alarms_after s time event =
    map (moved s (after_event s time event) time) (with_newcomer (newcomer s time event) (filter_map (fate s time event) s.alarms))

pub alarms_stay : (s : State) (time : ℕ) (event : Event) → list_any (touches s time event) s.alarms ≡ false → newcomer s time event ≡ None → alarms_after s time event ≡ s.alarms
alarms_stay s time event none new =
    let g = moved s (after_event s time event) time in
    ap (λ o. map g (with_newcomer o (filter_map (fate s time event) s.alarms))) new ∙ map-filter_map g (fate s time event) s.alarms
    ∙ all_live (life s time event) (touches s time event) (untouched s time event) s.alarms none

-- a newcomer is found after, and wasn't before
pub newcomer_key : (s : State) (time : ℕ) (event : Event) → IfSome (newcomer s time event) (λ b. alarm_of b.key s.alarms ≡ None)
newcomer_key s time (events.Report key (Active severity) text) =
    either (λ o. IfSome o (λ b. alarm_of b.key s.alarms ≡ None)) (is_some (alarm_of key s.alarms)) None
    (Some (new_alarm (shelf_name s key) time key severity text)) (λ _. tt) (λ none. is_none_at (alarm_of key s.alarms) none)
newcomer_key s time (events.Report key Cleared text) = tt
newcomer_key s time (events.Operate key state operator text) = tt
newcomer_key s time (events.SetMax max) = tt
newcomer_key s time (events.SetNotify rule) = tt
newcomer_key s time (events.PutShelf shelf at) = tt
newcomer_key s time (events.DropShelf name) = tt
newcomer_key s time (events.Purge side filter) = tt
newcomer_key s time (events.Compress side filter) = tt
newcomer_key s time (events.Install inventory) = tt

pub found_in : (new : AlarmState) (alarms : List AlarmState) (g : AlarmState → AlarmState) → ((a : AlarmState) → (g a).key ≡ a.key) → is_some (alarm_of new.key (map g (with_newcomer (Some new) alarms))) ≡ true
found_in new alarms g same =
    let all = with_newcomer (Some new) alarms in
    let here : is_of new.key new ≡ true = ap is_eq (equal_key new.key new.key refl) in
    found (is_of new.key) (map g all) ∙ any_map (is_of new.key) (is_of new.key) g (λ a. ap (λ k. is_eq (key_cmp k new.key)) (same a)) all
    ∙ any_append (is_of new.key) (filter (λ a. is_lt (key_cmp a.key new.key)) alarms) new (filter (λ a. is_gt (key_cmp a.key new.key)) alarms) here

pub no_newcomer : (s : State) (time : ℕ) (event : Event) → alarms_after s time event ≡ s.alarms → newcomer s time event ≡ None
no_newcomer s time event same = by (newcomer s time event) (newcomer_key s time event) same
  where
    g : AlarmState → AlarmState
    g = moved s (after_event s time event) time

    by : (o : Option AlarmState) → IfSome o (λ b. alarm_of b.key s.alarms ≡ None) → map g (with_newcomer o (filter_map (fate s time event) s.alarms)) ≡ s.alarms → o ≡ None
    by None unknown same = refl
    by (Some new) unknown same =
        let now = found_in new (filter_map (fate s time event) s.alarms) g (moved_key s (after_event s time event) time) in
        let both : true ≡ false = sym now ∙ ap (λ xs. is_some (alarm_of new.key xs)) same ∙ ap is_some unknown in
        absurd (cc)

pub none_touched_by : (s : State) (time : ℕ) (event : Event) → AllByRecursion (λ a. a.changed < time) s.alarms → alarms_after s time event ≡ s.alarms → newcomer s time event ≡ None → list_any (touches s time event) s.alarms ≡ false
none_touched_by s time event earlier same new =
    let g = moved s (after_event s time event) time in
    let lives : filter_map (life s time event) s.alarms ≡ s.alarms =
    sym (map-filter_map g (fate s time event) s.alarms) ∙ sym (ap (λ o. map g (with_newcomer o (filter_map (fate s time event) s.alarms))) new) ∙ same in
    none_touched (life s time event) (touches s time event) (λ a. a.changed < time) (touched s time event) s.alarms earlier lives

-- ---- the note

no_news : (alarms : List AlarmState) (key : AlarmKey) (status : Status) (text : Text) (stands : Option AlarmState) → alarm_of key alarms ≡ stands → list_any (λ a. is_of key a && says_more a status text) alarms ≡ false → IfSome stands (λ a. is_news stands status text ≡ false)
no_news alarms key status text None is none = tt
no_news alarms key status text (Some a) is none = found_fails (is_of key) (λ x. says_more x status text) alarms a is none

-- a new alarm is news, and else a clear of nothing
unknown_news : (s : State) (time : ℕ) (key : AlarmKey) (status : Status) (text : Text) → alarm_of key s.alarms ≡ None → newcomer s time (events.Report key status text) ≡ None → is_news None status text ≡ false
unknown_news s time key (Active severity) text unknown new =
    let made : Some (new_alarm (shelf_name s key) time key severity text) ≡ None =
    sym (ap (λ o. cond (is_some o) None (Some (new_alarm (shelf_name s key) time key severity text))) unknown) ∙ new in
    absurd (cc)
unknown_news s time key Cleared text unknown new = refl

no_note_of : (listed news told : Bool) (note : NoteBody) → news ≡ false → cond (listed && news && told) (Some note) None ≡ None
no_note_of true true told note h = absurd (cc)
no_note_of true false told note h = refl
no_note_of false news told note h = refl

pub no_note : (s : State) (time : ℕ) (event : Event) → sets s event ≡ false → list_any (touches s time event) s.alarms ≡ false → newcomer s time event ≡ None → note_of s event ≡ None
no_note s time (events.Report key status text) set none new =
    no_note_of (is_listed s key) (is_news (alarm_of key s.alarms) status text) (sends s.rule (option_map status_of (alarm_of key s.alarms)) status)
    (notes.Status key status text) (by (alarm_of key s.alarms) refl)
  where
    by : (o : Option AlarmState) → alarm_of key s.alarms ≡ o → is_news o status text ≡ false
    by None is = unknown_news s time key status text is new
    by (Some a) is = no_news s.alarms key status text (Some a) is none
no_note s time (events.Operate key state operator text) set none new = absurd (cc)
no_note s time (events.SetMax max) set none new = refl
no_note s time (events.SetNotify rule) set none new = refl
no_note s time (events.PutShelf shelf at) set none new = refl
no_note s time (events.DropShelf name) set none new = refl
no_note s time (events.Purge side filter) set none new = refl
no_note s time (events.Compress side filter) set none new = refl
no_note s time (events.Install inventory) set none new = refl

-- ---- the times of both sides

pub no_side : (s : State) (time : ℕ) (event : Event) (side : Side) → list_any (touches s time event) s.alarms ≡ false → newcomer s time event ≡ None → touches_side s time event side ≡ false
no_side s time event side none new =
    ap (λ b. b || list_any (λ a. is_on s side a.key) (option_to_list (newcomer s time event)))
    (none_of_both (touches s time event) (λ a. is_on s side a.key || is_on (set_by s event) side a.key) s.alarms none)
    ∙ ap (λ o. list_any (λ a. is_on s side a.key) (option_to_list o)) new

-- ---- the state

pub step_is : (s : State) (e : Entry) → step s e ≡ built (set_by s e.event) (alarms_after s e.time e.event) (note_of s e.event) (touches_side s e.time e.event sides.List) (touches_side s e.time e.event sides.Shelf) e.time
unfolding step
step_is s e = refl

pub same_leaves : (s : State) (e : Entry) → changes s e.time e.event ≡ false → IsSameButTime s (step s e)
same_leaves s e h =
    let time = e.time in
    let event = e.event in
    let first = none_true (sets s event || list_any (touches s time event) s.alarms) (is_some (newcomer s time event)) h in
    let second = none_true (sets s event) (list_any (touches s time event) s.alarms) first.0 in
    let new = is_none_at (newcomer s time event) first.1 in
    let time_is : (step s e).time ≡ time = ap (λ t. t.time) (step_is s e) in
    let all : step s e ≡ (let t : State = record s { time = time } in t) =
    step_is s e
    ∙ ap (λ c. built c (alarms_after s time event) (note_of s event) (touches_side s time event sides.List) (touches_side s time event sides.Shelf) time) (set_nothing s event second.0)
    ∙ ap (λ alarms. built s alarms (note_of s event) (touches_side s time event sides.List) (touches_side s time event sides.Shelf) time) (alarms_stay s time event second.1 new)
    ∙ ap (λ note. built s s.alarms note (touches_side s time event sides.List) (touches_side s time event sides.Shelf) time) (no_note s time event second.0 second.1 new)
    ∙ ap (λ b. built s s.alarms None b (touches_side s time event sides.Shelf) time) (no_side s time event sides.List second.1 new)
    ∙ ap (λ b. built s s.alarms None false b time) (no_side s time event sides.Shelf second.1 new) in
    all ∙ ap (λ t. let u : State = record s { time = t } in u) (sym time_is)

-- ---- and back

-- an operator's action adds a note
one_more_note : (body : NoteBody) (time : ℕ) (log : LogView) → log_after (Some body) time log ≢ log
one_more_note body time log h = let same = ap (λ l. l.sent) h in omega arith

set_back : (s : State) (e : Entry) (event : Event) → e.event ≡ event → IsSameButTime s (step s e) → sets s event ≡ false
unfolding step
set_back s e (events.Report key status text) is h = refl
set_back s e (events.Operate key state operator text) is h =
    let log : log_after (note_of s e.event) e.time (set_by s e.event).log ≡ s.log = ap (λ t. t.log) h in
    absurd (one_more_note (notes.Action key operator state text) e.time s.log (sym (ap (λ v. log_after (note_of s v) e.time (set_by s v).log) is) ∙ log))
set_back s e (events.SetMax max) is h =
    let same : max ≡ s.max = sym (ap (λ v. (set_by s v).max) is) ∙ ap (λ t. t.max) h in
    ap not ((decides_max s.max max).1 (sym same))
set_back s e (events.SetNotify rule) is h =
    let same : rule ≡ s.rule = sym (ap (λ v. (set_by s v).rule) is) ∙ ap (λ t. t.rule) h in
    ap not ((decides_rule s.rule rule).1 (sym same))
set_back s e (events.PutShelf shelf at) is h =
    let after = (set_by s (events.PutShelf shelf at)).shelves in
    let same : after ≡ s.shelves = sym (ap (λ v. (set_by s v).shelves) is) ∙ ap (λ t. t.shelves) h in
    ap not ((decides_shelves s.shelves after).1 (sym same))
set_back s e (events.DropShelf name) is h =
    let after = (set_by s (events.DropShelf name)).shelves in
    let same : after ≡ s.shelves = sym (ap (λ v. (set_by s v).shelves) is) ∙ ap (λ t. t.shelves) h in
    ap not ((decides_shelves s.shelves after).1 (sym same))
set_back s e (events.Purge side filter) is h = refl
set_back s e (events.Compress side filter) is h = refl
set_back s e (events.Install inventory) is h =
    let same : Some inventory ≡ s.inventory = sym (ap (λ v. (set_by s v).inventory) is) ∙ ap (λ t. t.inventory) h in
    ap not ((decides_installed s.inventory (Some inventory)).1 (sym same))

pub leaves_same : (s : State) (e : Entry) → AllByRecursion (λ a. a.changed < e.time) s.alarms → IsSameButTime s (step s e) → changes s e.time e.event ≡ false
unfolding step
leaves_same s e earlier h =
    let alarms : alarms_after s e.time e.event ≡ s.alarms = ap (λ t. t.alarms) h in
    let new = no_newcomer s e.time e.event alarms in
    let none = none_touched_by s e.time e.event earlier alarms new in
    ap (λ b. b || list_any (touches s e.time e.event) s.alarms || is_some (newcomer s e.time e.event)) (set_back s e e.event refl h)
    ∙ ap (λ b. b || is_some (newcomer s e.time e.event)) none ∙ ap is_some new
