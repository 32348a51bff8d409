-- An event changes an alarm exactly where it touches it.
use Rattle.std.proofs.Common.{◌≡◌, ◌≢◌, ℕ, ◌<◌, ◌≤◌, Bool, true, false, cond, ◌&&◌, Option, None, Some, length, refl, sym, ap, ◌∙◌, arith, length-take, take_all}
use Rattle.std.specs.Bool.{nat_lt}
use Rattle.std.specs.Option.{IfSome, is_some, option_map}
use Rattle.std.proofs.lemmas.Bool.Decides.{Decides-ltb}
use Rattle.std.proofs.lemmas.Option.{same_Some}
use Rattle.al_base.specs.declared.operator.OperatorState.TheVariants.{Shelved}
use Rattle.al_base.specs.declared.severity.Status.{Status}
use Rattle.al_base.specs.declared.severity.Status.TheVariants.{Cleared, Active}
use Rattle.al_base.specs.declared.text.Text.{Text}
use Rattle.al_select.specs.Filters.{compress_takes}
use Rattle.al_base.specs.Texts.{same_text}
use Rattle.al_model.specs.Alarms.{bounded, move_entry, own_entry, reported, with_operator}
use Rattle.al_model.specs.Events.{after_event, fate, set_by, touches}
use Rattle.al_model.specs.State.{AlarmState, State, is_on, shelf_name}
use Rattle.al_model.specs.Step.{moved}
use Rattle.al_model.specs.declared.entry.OperatorEntry.{OperatorEntry}
use Rattle.al_model.specs.declared.event.Event.{Event}
use Rattle.al_model.specs.declared.event.Event.TheVariants as events
use Rattle.al_model.proofs.Moves.{unmoved}
use Rattle.al_model.proofs.Tools.{both_true, either, is_none_at}

-- what becomes of an alarm by an event and the moves after it
abbrev pub life : State → ℕ → Event → AlarmState → Option AlarmState
life s time event a = option_map (moved s (after_event s time event) time) (fate s time event a)

-- ---- what isn't touched stays

-- no alarm moves at an event that leaves shelves and inventory
stays : (s after : State) (time : ℕ) (a : AlarmState) → shelf_name s a.key ≡ shelf_name after a.key → moved s after time a ≡ a
stays s after time a same = unmoved (λ b. b ≡ a) s after time a same refl

not_less : (m n : ℕ) → nat_lt m n ≡ false → n ≤ m
not_less m n h = by (nat_lt m n) (Decides-ltb m n) h
  where
    by : (b : Bool) → ((b ≡ true → m < n) × (m < n → b ≡ true)) → b ≡ false → n ≤ m
    by true d e = absurd (cc)
    by false d e = let not : m < n → ⊥ = λ lt. (let t : false ≡ true = d.1 lt in cc) in omega arith

uncut : (n : ℕ) (a : AlarmState) → length a.statuses ≤ n → bounded (Some n) a ≡ a
uncut n a le = ap (λ statuses. let b : AlarmState = record a { statuses = statuses } in b) (take_all n a.statuses le)

-- an alarm that may move, and doesn't
unmoved_at : (s after : State) (time : ℕ) (a : AlarmState) → is_some (move_entry time (shelf_name s a.key) (shelf_name after a.key)) ≡ false → moved s after time a ≡ a
unmoved_at s after time a h = ap (λ m. with_operator m a) (is_none_at (move_entry time (shelf_name s a.key) (shelf_name after a.key)) h)

pub untouched : (s : State) (time : ℕ) (event : Event) (a : AlarmState) → touches s time event a ≡ false → life s time event a ≡ Some a
untouched s time (events.Report key status text) a h =
    let after = after_event s time (events.Report key status text) in
    ap (λ b. Some (moved s after time (cond b (reported s.max time status text a) a))) h ∙ ap Some (stays s after time a refl)
untouched s time (events.Operate key state operator text) a h =
    let after = after_event s time (events.Operate key state operator text) in
    ap (λ b. Some (moved s after time (cond b (with_operator (Some (record { time = time; state = state; operator = operator; text = text })) a) a))) h
    ∙ ap Some (stays s after time a refl)
untouched s time (events.SetMax None) a h = ap Some (stays s (after_event s time (events.SetMax None)) time a refl)
untouched s time (events.SetMax (Some n)) a h =
    let after = after_event s time (events.SetMax (Some n)) in
    ap (λ b. Some (moved s after time b)) (uncut n a (not_less n (length a.statuses) h)) ∙ ap Some (stays s after time a refl)
untouched s time (events.SetNotify rule) a h = ap Some (stays s (after_event s time (events.SetNotify rule)) time a refl)
untouched s time (events.PutShelf shelf at) a h = ap Some (unmoved_at s (set_by s (events.PutShelf shelf at)) time a h)
untouched s time (events.DropShelf name) a h = ap Some (unmoved_at s (set_by s (events.DropShelf name)) time a h)
untouched s time (events.Purge side filter) a h =
    let after = after_event s time (events.Purge side filter) in
    ap (λ b. option_map (moved s after time) (cond b None (Some a))) h ∙ ap Some (stays s after time a refl)
untouched s time (events.Compress side filter) a h =
    let after = after_event s time (events.Compress side filter) in
    let taken : Bool = is_on s side a.key && compress_takes filter a.key in
    ap (λ b. Some (moved s after time b)) (by taken h) ∙ ap Some (stays s after time a refl)
  where
    by : (b : Bool) → (b && nat_lt 1 (length a.statuses)) ≡ false → cond b (bounded (Some 1) a) a ≡ a
    by true h = uncut 1 a (not_less 1 (length a.statuses) h)
    by false h = refl
untouched s time (events.Install inventory) a h = ap Some (unmoved_at s (set_by s (events.Install inventory)) time a h)

-- ---- what is touched changes

-- an alarm whose changed time is later isn't the same
later_differs : (time : ℕ) (a b : AlarmState) → a.changed < time → b.changed ≡ time → Some b ≢ Some a
later_differs time a b lt is h = let same = ap (λ x. x.changed) (same_Some b a h) in omega arith

-- nor is one with fewer entries
fewer_differs : (n : ℕ) (a : AlarmState) → n < length a.statuses → Some (bounded (Some n) a) ≢ Some a
fewer_differs n a lt h =
    let same = ap (λ x. length x.statuses) (same_Some (bounded (Some n) a) a h) in
    omega (arith, length-take n a.statuses)

reported_changed : (max : Option ℕ) (time : ℕ) (status : Status) (text : Text) (a : AlarmState) → (reported max time status text a).changed ≡ time
reported_changed max time (Active severity) text a = refl
reported_changed max time Cleared text a = refl

pub entry_time_is : (time : ℕ) (before after : Option Text) → IfSome (move_entry time before after) (λ e. e.time ≡ time)
entry_time_is time None None = tt
entry_time_is time None (Some new) = refl
entry_time_is time (Some old) None = refl
entry_time_is time (Some old) (Some new) =
    either (λ m. IfSome m (λ e. e.time ≡ time)) (same_text old new) None (Some (own_entry time Shelved new)) (λ _. tt) (λ _. refl)

operated_differs : (time : ℕ) (m : Option OperatorEntry) (a : AlarmState) → a.changed < time → IfSome m (λ e. e.time ≡ time) → is_some m ≡ true → Some (with_operator m a) ≢ Some a
operated_differs time None a lt is h e = cc
operated_differs time (Some entry) a lt is h e = later_differs time a (with_operator (Some entry) a) lt is e

moved_differs : (s after : State) (time : ℕ) (a : AlarmState) → a.changed < time → is_some (move_entry time (shelf_name s a.key) (shelf_name after a.key)) ≡ true → Some (moved s after time a) ≢ Some a
moved_differs s after time a lt h =
    operated_differs time (move_entry time (shelf_name s a.key) (shelf_name after a.key)) a lt (entry_time_is time (shelf_name s a.key) (shelf_name after a.key)) h

pub touched : (s : State) (time : ℕ) (event : Event) (a : AlarmState) → a.changed < time → touches s time event a ≡ true → life s time event a ≢ Some a
touched s time (events.Report key status text) a lt h e =
    let after = after_event s time (events.Report key status text) in
    let b = reported s.max time status text a in
    let is = ap (λ c. Some (moved s after time (cond c b a))) h in
    later_differs time a (moved s after time b) lt (unmoved (λ x. x.changed ≡ time) s after time b refl (reported_changed s.max time status text a)) (sym is ∙ e)
touched s time (events.Operate key state operator text) a lt h e =
    let after = after_event s time (events.Operate key state operator text) in
    let b = with_operator (Some (record { time = time; state = state; operator = operator; text = text })) a in
    let is = ap (λ c. Some (moved s after time (cond c b a))) h in
    later_differs time a (moved s after time b) lt (unmoved (λ x. x.changed ≡ time) s after time b refl refl) (sym is ∙ e)
touched s time (events.SetMax None) a lt h e = cc
touched s time (events.SetMax (Some n)) a lt h e =
    let after = after_event s time (events.SetMax (Some n)) in
    fewer_differs n a ((Decides-ltb n (length a.statuses)).0 h) (sym (ap Some (stays s after time (bounded (Some n) a) refl)) ∙ e)
touched s time (events.SetNotify rule) a lt h e = cc
touched s time (events.PutShelf shelf at) a lt h e = moved_differs s (set_by s (events.PutShelf shelf at)) time a lt h e
touched s time (events.DropShelf name) a lt h e = moved_differs s (set_by s (events.DropShelf name)) time a lt h e
touched s time (events.Purge side filter) a lt h e =
    let after = after_event s time (events.Purge side filter) in
    let is : None ≡ Some a = sym (ap (λ b. option_map (moved s after time) (cond b None (Some a))) h) ∙ e in
    cc
touched s time (events.Compress side filter) a lt h e =
    let after = after_event s time (events.Compress side filter) in
    let parts = both_true (is_on s side a.key && compress_takes filter a.key) (nat_lt 1 (length a.statuses)) h in
    let is = ap (λ c. Some (moved s after time (cond c (bounded (Some 1) a) a))) parts.0 in
    fewer_differs 1 a ((Decides-ltb 1 (length a.statuses)).0 parts.1)
    (sym (ap Some (stays s after time (bounded (Some 1) a) refl)) ∙ sym is ∙ e)
touched s time (events.Install inventory) a lt h e = moved_differs s (set_by s (events.Install inventory)) time a lt h e
