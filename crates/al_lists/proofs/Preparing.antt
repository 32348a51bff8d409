-- What is prepared for an event is its step.
use Rattle.std.proofs.Common.{◌≡◌, ◌≢◌, ℕ, zero, suc, ◌+◌, ◌<◌, ◌≤◌, ◌^◌, Bool, true, false, cond, not, ◌&&◌, List, length, Option, None, Some, refl, ap, sym, ◌∙◌, subst, arith}
use Rattle.std.specs.List.{insert, list_any, slice_get}
use Rattle.std.specs.Option.{IfSome, IsSome, is_some, option_map}
use Rattle.std.proofs.lemmas.List.Edits.{length-insert}
use Rattle.std.proofs.lemmas.Option.{same_Some, slice_get_within}
use Rattle.al_base.specs.declared.operator.OperatorState.{OperatorState}
use Rattle.al_base.specs.declared.operator.OperatorState.TheVariants.{None0, Ack, Closed, Shelved, UnShelved}
use Rattle.al_base.specs.declared.severity.Severity.{Severity}
use Rattle.al_base.specs.declared.severity.Status.{Status}
use Rattle.al_base.specs.declared.severity.Status.TheVariants.{Cleared, Active}
use Rattle.al_base.specs.declared.text.Text.{Text}
use Rattle.al_ids.specs.declared.key.AlarmKey.{AlarmKey}
use Rattle.al_notify.specs.Rules.{sends}
use Rattle.al_notify.specs.declared.note.NoteBody.{NoteBody}
use Rattle.al_notify.specs.declared.note.NoteBody.TheVariants as notes
use Rattle.al_notify.specs.declared.rule.NotifyRule.{NotifyRule}
use Rattle.al_select.specs.declared.compress.CompressFilter.{CompressFilter}
use Rattle.al_select.specs.declared.purge.PurgeFilter.{PurgeFilter}
use Rattle.al_shelf.specs.Places.{ShelvesView, without}
use Rattle.al_shelf.specs.declared.shelf.Shelf.{Shelf}
use Rattle.al_types.specs.Inventories.{InventoryView}
use Rattle.al_shelf.specs.declared.spot.Spot.TheVariants.{After}
use Rattle.al_model.specs.Alarms.{alarm_of, new_alarm, says_more, status_of, with_operator}
use Rattle.al_model.specs.Decision.{changes, missing, unless}
use Rattle.al_model.specs.Events.{fate, moves, newcomer, set_by, touches}
use Rattle.al_model.specs.History.{Fits, asked_shelf}
use Rattle.al_model.specs.Limits.{IsEventWithin}
use Rattle.al_base.specs.Operators.{IsOperators}
use Rattle.al_model.specs.State.{AlarmState, State, inventory_of, is_listed, is_shelved, shelf_name}
use Rattle.al_model.specs.Step.{built, is_news, note_of, step, touches_side}
use Rattle.al_model.specs.Validity.{IsMarked, IsValid}
use Rattle.al_model.specs.declared.decision.Refusal.{Refusal}
use Rattle.al_model.specs.declared.decision.Refusal.TheVariants.{NoAlarm}
use Rattle.al_model.specs.declared.entry.Entry.{Entry}
use Rattle.al_model.specs.declared.entry.OperatorEntry.{OperatorEntry}
use Rattle.al_model.specs.declared.event.Event.{Event}
use Rattle.al_model.specs.declared.event.Event.TheVariants as events
use Rattle.al_model.specs.declared.event.Side.{Side}
use Rattle.al_model.specs.declared.event.Side.TheVariants as sides
use Rattle.al_model.specs.declared.request.Request.{Request}
use Rattle.al_model.specs.declared.request.Request.TheVariants as requests
use Rattle.al_model.proofs.Bounds.{has_room}
use Rattle.al_model.proofs.Fitting.{fitting}
use Rattle.al_model.proofs.Sameness.{step_is}
use Rattle.al_model.proofs.Tools.{both_true, is_none_at, not_true}
use Rattle.al_model.proofs.Validity.{marked_alarms, step_valid}
use Rattle.al_contents.specs.Changes.{with_change}
use Rattle.al_contents.specs.Edits.{HasAlarm, HaveRoom, after_moves, at_place}
use Rattle.al_contents.specs.Positions.{IsAbsentAt, IsKnownAt}
use Rattle.al_contents.specs.Tables.{TablesView}
use Rattle.al_contents.specs.Views.{AlarmView, is_at, is_marked, mark_of, marked}
use Rattle.al_contents.specs.declared.change.Change.TheVariants as kinds
use Rattle.al_contents.proofs.Sides.{mark_is}
use Rattle.al_lists.specs.Moves.{AreMoves, first_name, is_cut, is_in}
use Rattle.al_lists.specs.Prepared.{IsPreparedFor, with_prepared}
use Rattle.al_lists.specs.Prepares.{Comes, Prepares, PreparesMoves, alarms_after, with_inventory, with_shelves}
use Rattle.al_lists.specs.declared.prepare.moves.Moves.{Moves}
use Rattle.al_lists.specs.declared.prepared.Prepared.{Prepared}
use Rattle.al_lists.proofs.Choosing.{compress_alarms, compress_side, max_alarms, max_side, purge_alarms, purge_side, rule_alarms, rule_side}
use Rattle.al_lists.proofs.Moving.{put_alarms, put_side}
use Rattle.al_lists.proofs.Placing.{all_at}
use Rattle.al_lists.proofs.Reporting.{cleared_nothing, operate_alarms, operate_side, raise_alarms, raise_side, report_alarms, report_news, report_side}

-- ---- the whole from its parts

prepared_gives : (t : TablesView) (e : Entry) (p : Prepared) → Prepares t e.time e.event p → with_prepared t.state p ≡ step t.state e
unfolding with_prepared
prepared_gives t e p h =
    let s = t.state in
    let alarms = alarms_after s e.time e.event in
    ap (λ time. (let d = with_change time p.change s in built d d.alarms p.note p.list p.shelf time)) h.time_is
    ∙ ap (λ d. built d d.alarms p.note p.list p.shelf e.time) h.change
    ∙ ap (λ note. built (set_by s e.event) alarms note p.list p.shelf e.time) h.note
    ∙ ap (λ b. built (set_by s e.event) alarms (note_of s e.event) b p.shelf e.time) h.list
    ∙ ap (λ b. built (set_by s e.event) alarms (note_of s e.event) (touches_side s e.time e.event sides.List) b e.time) h.shelf
    ∙ sym (step_is s e)

-- What is prepared for the event of an entry that fits can be carried out, and is its step.
pub prepared_for : (t : TablesView) (e : Entry) (p : Prepared) → IsValid t.state → Fits t.state e → t.state.log.sent + 1 < 2 ^ 32 → Prepares t e.time e.event p → IsPreparedFor t e p
prepared_for t e p valid fits number h =
    let gives = prepared_gives t e p h in
    record {
      ready = record { room = h.room; number = numbered p.note; valid = subst IsValid (sym gives) (step_valid t.state e fits valid) };
      gives = gives;
    }
  where
    numbered : {N : Type 0} (note : Option N) → IfSome note (λ n. t.state.log.sent + 1 < 2 ^ 32)
    numbered None = tt
    numbered (Some n) = number

-- ---- events that come

pub changes_at : (s : State) (time : ℕ) (event : Event) → Comes s time event → changes s time event ≡ true
changes_at s time event c = (fitting s (record { time = time; origin = c.origin; event = event }) c.fits).changed

and_true : (b : Bool) → (b && true) ≡ b
and_true true = refl
and_true false = refl

abbrev with_alarms : State → List AlarmState → State
with_alarms s alarms = record s { alarms = alarms }

-- ---- reports of alarms that stand

-- the mark of the alarm at the place
known_name : (s : State) (key : AlarmKey) (place : ℕ) (k : IsKnownAt key s.alarms place) → IsValid s → mark_of k.alarm.operators ≡ shelf_name s k.alarm.key
known_name s key place k valid = mark_is s k.alarm (all_at (IsMarked s) s.alarms place k.alarm k.stands (marked_alarms s valid))

known_mark : (s : State) (key : AlarmKey) (place : ℕ) (k : IsKnownAt key s.alarms place) → IsValid s → is_marked k.alarm ≡ is_shelved s k.alarm.key
known_mark s key place k valid = ap is_some (known_name s key place k valid)

known_note : (s : State) (key : AlarmKey) (status : Status) (text : Text) (place : ℕ) (k : IsKnownAt key s.alarms place) → says_more k.alarm status text ≡ true → note_of s (events.Report key status text) ≡ cond (is_listed s key && sends s.rule (Some (status_of k.alarm)) status) (Some (notes.Status key status text)) None
known_note s key status text place k news =
    let note : Option NoteBody = Some (notes.Status key status text) in
    ap (λ stands. cond ((is_listed s key && is_news stands status text) && sends s.rule (option_map status_of stands) status) note None) k.found
    ∙ ap (λ b. cond ((is_listed s key && b) && sends s.rule (Some (status_of k.alarm)) status) note None) news
    ∙ ap (λ b. cond (b && sends s.rule (Some (status_of k.alarm)) status) note None) (and_true (is_listed s key))

pub change_prepared : (s : State) (t : TablesView) (time : ℕ) (key : AlarmKey) (status : Status) (text first second : Text) (place : ℕ) (a : AlarmState) (shelved : Bool) (tells : Option NoteBody) → t.state ≡ s → IsValid s → Comes s time (events.Report key status text) → IsKnownAt key s.alarms place → slice_get t.state.alarms place ≡ Some a → shelved ≡ is_marked a → first ≡ text → second ≡ text → tells ≡ cond (not shelved && sends t.state.rule (Some (status_of a)) status) (Some (notes.Status key status text)) None → HasAlarm t.alarms place (λ v. 0 < v.status_room) → Prepares t time (events.Report key status text) (record { time = time; change = kinds.Report place status first second; note = tells; list = not shelved; shelf = shelved })
change_prepared old t time key status text first second place a shelved tells stays was_valid was_comes was_known stands mark first_is second_is tells_is room =
    let s = t.state in
    let valid : IsValid s = subst IsValid (sym stays) was_valid in
    let comes : Comes s time (events.Report key status text) = subst (λ u. Comes u time (events.Report key status text)) (sym stays) was_comes in
    let k : IsKnownAt key s.alarms place = subst (λ (u : State). IsKnownAt key u.alarms place) (sym stays) was_known in
    let same : a ≡ k.alarm = same_Some a k.alarm (sym stands ∙ k.stands) in
    let news = report_news s time key status text place k valid.order (changes_at s time (events.Report key status text) comes) in
    let on_shelf : shelved ≡ is_shelved s k.alarm.key = mark ∙ ap is_marked same ∙ known_mark s key place k valid in
    let at_key : shelved ≡ is_shelved s key = on_shelf ∙ ap (is_shelved s) k.key_is in
    record {
      room = record { room = room; same_text = second_is ∙ sym first_is };
      time_is = refl;
      change = ap (λ x. with_change time (kinds.Report place status x second) s) first_is
          ∙ ap (with_alarms s) (sym (report_alarms s time key status text place k valid.order news));
      note = tells_is ∙ ap (λ b. cond (not b && sends s.rule (Some (status_of a)) status) (Some (notes.Status key status text)) None) at_key
          ∙ ap (λ x. cond (is_listed s key && sends s.rule (Some (status_of x)) status) (Some (notes.Status key status text)) None) same
          ∙ sym (known_note s key status text place k news);
      list = ap not on_shelf ∙ sym (report_side s time key status text place sides.List k valid.order news);
      shelf = on_shelf ∙ sym (report_side s time key status text place sides.Shelf k valid.order news);
    }

-- ---- reports of new alarms

pub never_cleared : (s : State) (time : ℕ) (key : AlarmKey) (status : Status) (text : Text) → alarm_of key s.alarms ≡ None → Comes s time (events.Report key status text) → status ≢ Cleared
never_cleared s time key status text none comes is =
    let both : false ≡ true = sym (cleared_nothing s time key text none) ∙ sym (ap (λ x. changes s time (events.Report key x text)) is)
    ∙ changes_at s time (events.Report key status text) comes in
    cc

pub raise_prepared : (s : State) (t : TablesView) (time : ℕ) (key : AlarmKey) (severity : Severity) (text : Text) (place : ℕ) (new : AlarmView) (shelved : Bool) (tells : Option NoteBody) → t.state ≡ s → IsAbsentAt key s.alarms place → new.state ≡ new_alarm (shelf_name t.state key) time key severity text → shelved ≡ is_shelved t.state key → tells ≡ cond (not shelved && sends t.state.rule None (Active severity)) (Some (notes.Status key (Active severity) text)) None → 0 < t.room → new.max ≡ t.state.max → Prepares t time (events.Report key (Active severity) text) (record { time = time; change = kinds.Insert place new; note = tells; list = not shelved; shelf = shelved })
raise_prepared old t time key severity text place new shelved tells stays was_absent made at_key tells_is room max =
    let s = t.state in
    let absent : IsAbsentAt key s.alarms place = subst (λ (u : State). IsAbsentAt key u.alarms place) (sym stays) was_absent in
    let body : Option NoteBody = Some (notes.Status key (Active severity) text) in
    record {
      room = record { within = absent.within; room = room; max = max };
      time_is = refl;
      change = ap (with_alarms s) (ap (insert s.alarms place) made ∙ sym (raise_alarms s time key severity text place absent));
      note = tells_is ∙ ap (λ b. cond (not b && sends s.rule None (Active severity)) body None) at_key
          ∙ sym (ap (λ stands. cond ((is_listed s key && is_news stands (Active severity) text) && sends s.rule (option_map status_of stands) (Active severity)) body None) absent.none
          ∙ ap (λ b. cond (b && sends s.rule None (Active severity)) body None) (and_true (is_listed s key)));
      list = ap not at_key ∙ sym (raise_side s time key severity text sides.List absent.none);
      shelf = at_key ∙ sym (raise_side s time key severity text sides.Shelf absent.none);
    }

-- ---- operators' actions

-- what an operator's action that comes is about
pub record IsOperable (s : State) (key : AlarmKey) (state : OperatorState) : Type 0 where
  pub known : IsSome (alarm_of key s.alarms)
  pub listed : shelf_name s key ≡ None
  pub state_within : IsOperators state

unless_true : (b : Bool) (r : Refusal) → unless b r ≡ None → b ≡ true
unless_true true r h = refl
unless_true false r h = absurd (cc)

pub operable : (s : State) (time : ℕ) (key : AlarmKey) (state : OperatorState) (operator : Text) (text : Option Text) → Comes s time (events.Operate key state operator text) → IsOperable s key state
unfolding IsEventWithin
operable s time key state operator text c =
    let asked : requests.Operate key state operator text ≡ c.fits.request = same_Some _ _ c.fits.asked in
    let e : Entry = record { time = time; origin = c.origin; event = events.Operate key state operator text } in
    let exists : missing s (requests.Operate key state operator text) ≡ None = ap (missing s) asked ∙ (fitting s e c.fits).exists in
    let both = both_true (is_some (alarm_of key s.alarms)) (is_listed s key) (unless_true (is_some (alarm_of key s.alarms) && is_listed s key) NoAlarm exists) in
    record {
      known = both.0;
      listed = is_none_at (shelf_name s key) (not_true (is_some (shelf_name s key)) both.1);
      state_within = c.fits.within.event.state_within;
    }

-- an operator's entry shelves nothing
unmarked : (state : OperatorState) (text : Option Text) → IsOperators state → marked state text ≡ None
unmarked None0 text h = refl
unmarked Ack text h = refl
unmarked Closed text h = refl
unmarked Shelved text h = absurd h
unmarked UnShelved text h = absurd h

pub operate_prepared : (s : State) (t : TablesView) (time : ℕ) (key : AlarmKey) (state : OperatorState) (operator : Text) (text : Option Text) (place : ℕ) (entry : OperatorEntry) (note : NoteBody) → t.state ≡ s → IsValid s → Comes s time (events.Operate key state operator text) → IsKnownAt key s.alarms place → entry ≡ (let e : OperatorEntry = record { time = time; state = state; operator = operator; text = text } in e) → note ≡ notes.Action key operator state text → HasAlarm t.alarms place (λ v. 0 < v.operator_room) → Prepares t time (events.Operate key state operator text) (record { time = time; change = kinds.Operate place entry; note = Some note; list = true; shelf = false })
operate_prepared old t time key state operator text place entry note stays was_valid was_comes was_known entry_is note_is room =
    let s = t.state in
    let valid : IsValid s = subst IsValid (sym stays) was_valid in
    let comes : Comes s time (events.Operate key state operator text) = subst (λ u. Comes u time (events.Operate key state operator text)) (sym stays) was_comes in
    let k : IsKnownAt key s.alarms place = subst (λ (u : State). IsKnownAt key u.alarms place) (sym stays) was_known in
    let o = operable s time key state operator text comes in
    let free : shelf_name s k.alarm.key ≡ None = ap (shelf_name s) k.key_is ∙ o.listed in
    let mark : mark_of k.alarm.operators ≡ None = known_name s key place k valid ∙ free in
    record {
      room = record {
        room = room;
        listed = λ a is. ap (λ (x : AlarmState). mark_of x.operators) (same_Some a k.alarm (sym is ∙ k.stands)) ∙ mark;
        stays = ap (λ (x : OperatorEntry). marked x.state x.text) entry_is ∙ unmarked state text o.state_within;
      };
      time_is = refl;
      change = ap (with_alarms s) (ap (λ e. at_place place (with_operator (Some e)) s.alarms) entry_is
          ∙ sym (operate_alarms s time key state operator text place k valid.order));
      note = ap Some note_is;
      list = sym (operate_side s time key state operator text place sides.List k valid.order ∙ ap (λ name. not (is_some name)) free);
      shelf = sym (operate_side s time key state operator text place sides.Shelf k valid.order ∙ ap is_some free);
    }

-- ---- events that choose among all

pub max_prepared : (t : TablesView) (time : ℕ) (max : Option ℕ) (list shelf : Bool) → IsValid t.state → list ≡ list_any (λ a. is_at sides.List a && is_cut max a) t.state.alarms → shelf ≡ list_any (λ a. is_at sides.Shelf a && is_cut max a) t.state.alarms → Prepares t time (events.SetMax max) (record { time = time; change = kinds.Max max; note = None; list = list; shelf = shelf })
max_prepared t time max list shelf valid list_is shelf_is =
    let s = t.state in
    let marked = marked_alarms s valid in
    record {
      room = tt;
      time_is = refl;
      change = ap (λ alarms. let c : State = record s { max = max; alarms = alarms } in c) (sym (max_alarms s time max marked));
      note = refl;
      list = list_is ∙ sym (max_side s time max sides.List marked);
      shelf = shelf_is ∙ sym (max_side s time max sides.Shelf marked);
    }

pub rule_prepared : (t : TablesView) (time : ℕ) (rule : NotifyRule) → Prepares t time (events.SetNotify rule) (record { time = time; change = kinds.Rule rule; note = None; list = false; shelf = false })
rule_prepared t time rule =
    let s = t.state in
    record {
      room = tt;
      time_is = refl;
      change = ap (λ alarms. let c : State = record s { rule = rule; alarms = alarms } in c) (sym (rule_alarms s time rule));
      note = refl;
      list = sym (rule_side s time rule sides.List);
      shelf = sym (rule_side s time rule sides.Shelf);
    }

pub purge_prepared : (t : TablesView) (time : ℕ) (side : Side) (filter copy : PurgeFilter) (list shelf : Bool) → IsValid t.state → Comes t.state time (events.Purge side filter) → copy ≡ filter → list ≡ is_in side sides.List → shelf ≡ is_in side sides.Shelf → Prepares t time (events.Purge side filter) (record { time = time; change = kinds.Purge side copy; note = None; list = list; shelf = shelf })
purge_prepared t time side filter copy list shelf valid comes copy_is list_is shelf_is =
    let s = t.state in
    let changed = changes_at s time (events.Purge side filter) comes in
    record {
      room = tt;
      time_is = refl;
      change = ap (λ f. with_change time (kinds.Purge side f) s) copy_is
          ∙ ap (with_alarms s) (sym (purge_alarms s time side filter (marked_alarms s valid)));
      note = refl;
      list = list_is ∙ sym (purge_side s time side filter sides.List changed);
      shelf = shelf_is ∙ sym (purge_side s time side filter sides.Shelf changed);
    }

pub compress_prepared : (t : TablesView) (time : ℕ) (side : Side) (filter copy : CompressFilter) (list shelf : Bool) → IsValid t.state → Comes t.state time (events.Compress side filter) → copy ≡ filter → list ≡ is_in side sides.List → shelf ≡ is_in side sides.Shelf → Prepares t time (events.Compress side filter) (record { time = time; change = kinds.Compress side copy; note = None; list = list; shelf = shelf })
compress_prepared t time side filter copy list shelf valid comes copy_is list_is shelf_is =
    let s = t.state in
    let changed = changes_at s time (events.Compress side filter) comes in
    record {
      room = tt;
      time_is = refl;
      change = ap (λ f. with_change time (kinds.Compress side f) s) copy_is
          ∙ ap (with_alarms s) (sym (compress_alarms s time side filter (marked_alarms s valid)));
      note = refl;
      list = list_is ∙ sym (compress_side s time side filter sides.List changed);
      shelf = shelf_is ∙ sym (compress_side s time side filter sides.Shelf changed);
    }

-- ---- events of shelves and of the inventory

pub moves_prepared : (t : TablesView) (time : ℕ) (event : Event) (p : Prepared) → IsValid t.state → newcomer t.state time event ≡ None → note_of t.state event ≡ None → ((a : AlarmState) → fate t.state time event a ≡ Some a) → ((a : AlarmState) → touches t.state time event a ≡ moves t.state (set_by t.state event) time a) → PreparesMoves t time (set_by t.state event) p → Prepares t time event p
moves_prepared t time event p valid none no_note stay touch h =
    let s = t.state in
    let marked = marked_alarms s valid in
    record {
      room = h.room;
      time_is = h.time_is;
      change = h.change ∙ ap (with_alarms (set_by s event)) (sym (put_alarms s time event none stay marked));
      note = h.note ∙ sym no_note;
      list = h.list ∙ sym (put_side s time event sides.List none touch marked);
      shelf = h.shelf ∙ sym (put_side s time event sides.Shelf none touch marked);
    }

pub shelves_prepared : (s : State) (t : TablesView) (time : ℕ) (shelves : ShelvesView) (moves : Moves) → t.state ≡ s → AreMoves time (first_name (inventory_of s) shelves.shelves) s.alarms moves → HaveRoom moves.entries.items t.alarms → PreparesMoves t time (with_shelves t.state shelves.shelves) (record { time = time; change = kinds.Shelves shelves moves.entries; note = None; list = moves.list; shelf = moves.shelf })
shelves_prepared s t time shelves moves stays were room =
    let are : AreMoves time (first_name (inventory_of t.state) shelves.shelves) t.state.alarms moves =
    subst (λ (u : State). AreMoves time (first_name (inventory_of u) shelves.shelves) u.alarms moves) (sym stays) were in
    record {
      room = room;
      time_is = refl;
      change = ap (λ entries. with_alarms (with_shelves t.state shelves.shelves) (after_moves entries t.state.alarms)) are.entries;
      note = refl;
      list = are.list;
      shelf = are.shelf;
    }

pub inventory_prepared : (s : State) (t : TablesView) (time : ℕ) (inventory : InventoryView) (shelves : List Shelf) (alarms : List AlarmState) (moves : Moves) → t.state ≡ s → shelves ≡ s.shelves → alarms ≡ s.alarms → AreMoves time (first_name inventory shelves) alarms moves → HaveRoom moves.entries.items t.alarms → PreparesMoves t time (with_inventory t.state inventory) (record { time = time; change = kinds.Inventory inventory moves.entries; note = None; list = moves.list; shelf = moves.shelf })
inventory_prepared s t time inventory shelves alarms moves stays same_shelves same_alarms were room =
    let now : AreMoves time (first_name inventory s.shelves) s.alarms moves =
    subst (λ xs. AreMoves time (first_name inventory s.shelves) xs moves) same_alarms (subst (λ xs. AreMoves time (first_name inventory xs) alarms moves) same_shelves were) in
    let are : AreMoves time (first_name inventory t.state.shelves) t.state.alarms moves =
    subst (λ (u : State). AreMoves time (first_name inventory u.shelves) u.alarms moves) (sym stays) now in
    record {
      room = room;
      time_is = refl;
      change = ap (λ entries. with_alarms (with_inventory t.state inventory) (after_moves entries t.state.alarms)) are.entries;
      note = refl;
      list = are.list;
      shelf = are.shelf;
    }

pub put_prepared : (s : State) (t : TablesView) (time : ℕ) (shelf : Shelf) (at : ℕ) (shelves : List Shelf) (p : Prepared) → t.state ≡ s → IsValid s → shelves ≡ insert (without shelf.name s.shelves) at shelf → PreparesMoves t time (with_shelves t.state shelves) p → Prepares t time (events.PutShelf shelf at) p
put_prepared s t time shelf at shelves p stays valid is h =
    let set : shelves ≡ insert (without shelf.name t.state.shelves) at shelf = is ∙ ap (λ (u : State). insert (without shelf.name u.shelves) at shelf) (sym stays) in
    moves_prepared t time (events.PutShelf shelf at) p (subst IsValid (sym stays) valid) refl refl (λ a. refl) (λ a. refl)
    (subst (λ xs. PreparesMoves t time (with_shelves t.state xs) p) set h)

pub drop_prepared : (s : State) (t : TablesView) (time : ℕ) (name : Text) (shelves : List Shelf) (p : Prepared) → t.state ≡ s → IsValid s → shelves ≡ without name s.shelves → PreparesMoves t time (with_shelves t.state shelves) p → Prepares t time (events.DropShelf name) p
drop_prepared s t time name shelves p stays valid is h =
    let set : shelves ≡ without name t.state.shelves = is ∙ ap (λ (u : State). without name u.shelves) (sym stays) in
    moves_prepared t time (events.DropShelf name) p (subst IsValid (sym stays) valid) refl refl (λ a. refl) (λ a. refl)
    (subst (λ xs. PreparesMoves t time (with_shelves t.state xs) p) set h)

pub install_prepared : (t : TablesView) (time : ℕ) (inventory copy : InventoryView) (p : Prepared) → IsValid t.state → copy ≡ inventory → PreparesMoves t time (with_inventory t.state copy) p → Prepares t time (events.Install inventory) p
install_prepared t time inventory copy p valid is h =
    moves_prepared t time (events.Install inventory) p valid refl refl (λ a. refl) (λ a. refl) (subst (λ i. PreparesMoves t time (with_inventory t.state i) p) is h)

-- ---- the position of a shelf that is put

pub record IsPuttable (s : State) (shelf : Shelf) (at : ℕ) : Type 0 where
  pub few : length (without shelf.name s.shelves) < 64
  pub within : at ≤ length (without shelf.name s.shelves)

asked_within : (others : List Shelf) (shelf : Shelf) (at : ℕ) (request : Request) → asked_shelf others shelf at ≡ Some request → at ≤ length others
asked_within others shelf zero request h = omega arith
asked_within others shelf (suc before) request h = by (slice_get others before) refl h
  where
    by : (o : Option Shelf) → slice_get others before ≡ o → option_map (λ other. requests.PutShelf shelf (After other.name)) o ≡ Some request → suc before ≤ length others
    by None is h = absurd (cc)
    by (Some other) is h = let lt = slice_get_within others before other is in omega arith

pub puttable : (s : State) (time : ℕ) (shelf : Shelf) (at : ℕ) → Comes s time (events.PutShelf shelf at) → IsPuttable s shelf at
puttable s time shelf at c =
    let e : Entry = record { time = time; origin = c.origin; event = events.PutShelf shelf at } in
    let others = without shelf.name s.shelves in
    let within = asked_within others shelf at c.fits.request c.fits.asked in
    let room = (has_room s time (events.PutShelf shelf at) (fitting s e c.fits).room).shelves in
    record { few = omega (arith, length-insert others at shelf within); within = within }
