-- What a request would change, found without making the change.
use Rattle.std.proofs.Common.{◌≡◌, ℕ, ◌<◌, ◌==◌, ◌&&◌, ◌||◌, Bool, true, false, cond, not, Option, None, Some, List, [], ◌∷◌, length, refl, sym, ap, ◌∙◌, subst, arith}
use Rattle.std.specs.Bool.{Decides, nat_lt}
use Rattle.std.specs.List.{AllByRecursion, insert, list_any}
use Rattle.std.specs.List.Sorted.{IsStrictlySortedBy}
use Rattle.std.specs.Option.{is_none, is_some, option_eq, option_map_or}
use Rattle.std.specs.Ordering.{is_eq}
use Rattle.std.specs.declared.cmp.Ordering.TheVariants.{Less, Greater}
use Rattle.std.proofs.lemmas.Bool.Decides.{Decides-ltb}
use Rattle.al_base.specs.declared.severity.Severity.{Severity}
use Rattle.al_base.specs.declared.severity.Status.{Status}
use Rattle.al_base.specs.declared.severity.Status.TheVariants.{Cleared, Active}
use Rattle.al_base.specs.declared.text.Text.{Text}
use Rattle.al_ids.specs.Keys.{key_cmp}
use Rattle.al_ids.specs.declared.key.AlarmKey.{AlarmKey}
use Rattle.al_notify.specs.declared.rule.NotifyRule.{NotifyRule}
use Rattle.al_shelf.specs.Places.{without}
use Rattle.al_shelf.specs.declared.shelf.Shelf.{Shelf}
use Rattle.al_types.specs.Inventories.{InventoryView}
use Rattle.al_model.specs.Alarms.{alarm_of, is_of, move_entry, new_alarm, says_more}
use Rattle.al_model.specs.Decision.{changes, missing, unless}
use Rattle.al_model.specs.Events.{moves, newcomer, touches}
use Rattle.al_model.specs.Sames.{same_installed, same_rule, same_shelves}
use Rattle.al_model.specs.State.{AlarmState, State, is_listed, listed, shelf_name}
use Rattle.al_model.specs.Step.{is_news}
use Rattle.al_model.specs.Validity.{IsBounded, IsInOrder}
use Rattle.al_base.specs.declared.operator.OperatorState.{OperatorState}
use Rattle.al_model.specs.declared.decision.Refusal.TheVariants.{NoAlarm}
use Rattle.al_model.specs.declared.event.Event.TheVariants as events
use Rattle.al_model.specs.declared.request.Request.TheVariants as requests
use Rattle.al_contents.proofs.Sides.{find_side}
use Rattle.al_model.proofs.Moves.{no_move, of_key}
use Rattle.al_model.proofs.Order.{turned}
use Rattle.al_model.proofs.Sames.{decides_max, decides_shelves}

or_false : (b : Bool) → (b || false) ≡ b
or_false true = refl
or_false false = refl

-- ---- reports

-- no alarm after one of the key is of the key
others_of : (key : AlarmKey) (q : AlarmState → Bool) (x : AlarmState) (xs : List AlarmState) → is_of key x ≡ true → AllByRecursion (λ y. key_cmp x.key y.key ≡ Less) xs → list_any (λ a. is_of key a && q a) xs ≡ false
others_of key q x [] is h = refl
others_of key q x (y ∷ ys) is h =
    let below : key_cmp key y.key ≡ Less = subst (λ k. key_cmp k y.key ≡ Less) (of_key key x is) h.0 in
    let above : key_cmp y.key key ≡ Greater = turned key y.key Less below in
    ap (λ o. (is_eq o && q y) || list_any (λ a. is_of key a && q a) ys) above ∙ others_of key q x ys is h.1

-- what any alarm of the key passes is what the one of the key passes
pub any_of_key : (key : AlarmKey) (q : AlarmState → Bool) (xs : List AlarmState) → IsInOrder xs → list_any (λ a. is_of key a && q a) xs ≡ option_map_or q (alarm_of key xs) false
unfolding IsStrictlySortedBy
any_of_key key q [] order = refl
any_of_key key q (x ∷ xs) order = by (is_of key x) refl order.0 (any_of_key key q xs order.1)
  where
    by : (b : Bool) → is_of key x ≡ b → AllByRecursion (λ y. key_cmp x.key y.key ≡ Less) xs → list_any (λ a. is_of key a && q a) xs ≡ option_map_or q (alarm_of key xs) false → ((b && q x) || list_any (λ a. is_of key a && q a) xs) ≡ option_map_or q (cond b (Some x) (alarm_of key xs)) false
    by true is h more = ap (λ b. q x || b) (others_of key q x xs is h) ∙ or_false (q x)
    by false is h more = more

-- the alarm that an active report makes, where this one of its key stands
abbrev made_by : State → ℕ → AlarmKey → Severity → Text → Option AlarmState → Option AlarmState
made_by s time key severity text stands = cond (is_some stands) None (Some (new_alarm (shelf_name s key) time key severity text))

active_news : (s : State) (time : ℕ) (key : AlarmKey) (severity : Severity) (text : Text) (stands : Option AlarmState) → (option_map_or (λ a. says_more a (Active severity) text) stands false || is_some (made_by s time key severity text stands)) ≡ is_news stands (Active severity) text
active_news s time key severity text None = refl
active_news s time key severity text (Some a) = or_false (says_more a (Active severity) text)

clear_news : (text : Text) (stands : Option AlarmState) → (option_map_or (λ a. says_more a Cleared text) stands false || false) ≡ is_news stands Cleared text
clear_news text None = refl
clear_news text (Some a) = or_false (says_more a Cleared text)

-- A report changes something exactly where it is news of the alarm that stands.
pub report_changes : (s : State) (time : ℕ) (key : AlarmKey) (status : Status) (text : Text) → IsInOrder s.alarms → changes s time (events.Report key status text) ≡ is_news (alarm_of key s.alarms) status text
report_changes s time key (Active severity) text order =
    ap (λ b. b || is_some (newcomer s time (events.Report key (Active severity) text))) (any_of_key key (λ a. says_more a (Active severity) text) s.alarms order)
    ∙ active_news s time key severity text (alarm_of key s.alarms)
report_changes s time key Cleared text order =
    ap (λ b. b || false) (any_of_key key (λ a. says_more a Cleared text) s.alarms order) ∙ clear_news text (alarm_of key s.alarms)

-- It makes an alarm where it is news of none.
pub report_makes : (s : State) (time : ℕ) (key : AlarmKey) (status : Status) (text : Text) → is_none (newcomer s time (events.Report key status text)) ≡ not (is_none (alarm_of key s.alarms) && is_news (alarm_of key s.alarms) status text)
report_makes s time key (Active severity) text = by (alarm_of key s.alarms)
  where
    by : (stands : Option AlarmState) → is_none (made_by s time key severity text stands) ≡ not (is_none stands && is_news stands (Active severity) text)
    by None = refl
    by (Some a) = refl
report_makes s time key Cleared text = by (alarm_of key s.alarms)
  where
    by : (stands : Option AlarmState) → true ≡ not (is_none stands && is_news stands Cleared text)
    by None = refl
    by (Some a) = refl

-- ---- operator actions

-- The list has an alarm of the key where there is one, and no shelf takes it.
listed_some : (s : State) (key : AlarmKey) → is_some (alarm_of key (listed s)) ≡ (is_some (alarm_of key s.alarms) && is_listed s key)
listed_some s key = ap is_some (find_side (is_listed s) key s.alarms) ∙ by (is_listed s key) (alarm_of key s.alarms)
  where
    by : (b : Bool) (o : Option AlarmState) → is_some (cond b o None) ≡ (is_some o && b)
    by true None = refl
    by true (Some a) = refl
    by false None = refl
    by false (Some a) = refl

pub operate_missing : (s : State) (key : AlarmKey) (state : OperatorState) (operator : Text) (text : Option Text) (there : Bool) → is_some (alarm_of key (listed s)) ≡ there → missing s (requests.Operate key state operator text) ≡ unless there NoAlarm
operate_missing s key state operator text there is = ap (λ b. unless b NoAlarm) (sym (listed_some s key) ∙ is)

-- ---- settings

never_any : {X : Type 0} (xs : List X) → list_any (λ x. false) xs ≡ false
never_any [] = refl
never_any (x ∷ xs) = never_any xs

uncut : (max : ℕ) (alarms : List AlarmState) → AllByRecursion (IsBounded (Some max)) alarms → list_any (λ a. nat_lt max (length a.statuses)) alarms ≡ false
uncut max [] h = refl
uncut max (a ∷ rest) h = by (nat_lt max (length a.statuses)) (Decides-ltb max (length a.statuses)) ∙ uncut max rest h.1
  where
    by : (b : Bool) → Decides b (max < length a.statuses) → (b || list_any (λ x. nat_lt max (length x.statuses)) rest) ≡ list_any (λ x. nat_lt max (length x.statuses)) rest
    by true d = (let lt = d.0 refl in let le = h.0.statuses in absurd (omega arith))
    by false d = refl

untouched_by_max : (s : State) (time : ℕ) (max : Option ℕ) → AllByRecursion (IsBounded max) s.alarms → list_any (touches s time (events.SetMax max)) s.alarms ≡ false
untouched_by_max s time None h = never_any s.alarms
untouched_by_max s time (Some max) h = uncut max s.alarms h

-- The same maximum cuts nothing.
pub max_changes : (s : State) (time : ℕ) (max : Option ℕ) → AllByRecursion (IsBounded s.max) s.alarms → changes s time (events.SetMax max) ≡ not (option_eq ◌==◌ s.max max)
max_changes s time max h = by (option_eq ◌==◌ s.max max) (decides_max s.max max)
  where
    by : (b : Bool) → Decides b (s.max ≡ max) → ((not b || list_any (touches s time (events.SetMax max)) s.alarms) || false) ≡ not b
    by true d = ap (λ c. c || false) (untouched_by_max s time max (subst (λ m. AllByRecursion (IsBounded m) s.alarms) (d.0 refl) h))
    by false d = refl

pub rule_changes : (s : State) (time : ℕ) (rule : NotifyRule) → changes s time (events.SetNotify rule) ≡ not (same_rule s.rule rule)
rule_changes s time rule = by (not (same_rule s.rule rule)) (never_any s.alarms)
  where
    by : (b : Bool) → list_any (λ (a : AlarmState). false) s.alarms ≡ false → ((b || list_any (λ (a : AlarmState). false) s.alarms) || false) ≡ b
    by true h = refl
    by false h = ap (λ c. c || false) h

-- ---- shelves

-- no alarm moves where the shelves stay
unmoved_any : (s : State) (shelves : List Shelf) (time : ℕ) (xs : List AlarmState) → s.shelves ≡ shelves → list_any (moves s (record s { shelves = shelves }) time) xs ≡ false
unmoved_any s shelves time [] same = refl
unmoved_any s shelves time (x ∷ xs) same =
    let after : State = record s { shelves = shelves } in
    let stays : shelf_name s x.key ≡ shelf_name after x.key = ap (λ l. shelf_name (record s { shelves = l }) x.key) same in
    ap (λ n. is_some (move_entry time (shelf_name s x.key) n) || list_any (moves s after time) xs) (sym stays)
    ∙ ap (λ m. is_some m || list_any (moves s after time) xs) (no_move time (shelf_name s x.key)) ∙ unmoved_any s shelves time xs same

-- other shelves are a change, whether an alarm moves or not
shelves_change : (s : State) (shelves : List Shelf) (time : ℕ) → ((not (same_shelves s.shelves shelves) || list_any (moves s (record s { shelves = shelves }) time) s.alarms) || false) ≡ not (same_shelves s.shelves shelves)
shelves_change s shelves time = by (same_shelves s.shelves shelves) (decides_shelves s.shelves shelves)
  where
    by : (b : Bool) → Decides b (s.shelves ≡ shelves) → ((not b || list_any (moves s (record s { shelves = shelves }) time) s.alarms) || false) ≡ not b
    by true d = ap (λ c. c || false) (unmoved_any s shelves time s.alarms (d.0 refl))
    by false d = refl

pub put_changes : (s : State) (time : ℕ) (shelf : Shelf) (at : ℕ) → changes s time (events.PutShelf shelf at) ≡ not (same_shelves s.shelves (insert (without shelf.name s.shelves) at shelf))
put_changes s time shelf at = shelves_change s (insert (without shelf.name s.shelves) at shelf) time

pub drop_changes : (s : State) (time : ℕ) (name : Text) → changes s time (events.DropShelf name) ≡ not (same_shelves s.shelves (without name s.shelves))
drop_changes s time name = shelves_change s (without name s.shelves) time

-- ---- inventories

pub install_changes : (s : State) (time : ℕ) (inventory : InventoryView) → s.inventory ≡ None → changes s time (events.Install inventory) ≡ true
install_changes s time inventory none =
    ap (λ o. (not (same_installed o (Some inventory)) || list_any (touches s time (events.Install inventory)) s.alarms) || false) none
