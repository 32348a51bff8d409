-- A repeat leaves all but the time.
use Rattle.std.proofs.Common.{◌≡◌, ℕ, ◌≤◌, Bool, true, false, cond, not, ◌&&◌, ◌||◌, Option, None, Some, List, [], ◌∷◌, ◌++◌, map, length, take, drop, refl, sym, ap, ◌∙◌, arith, length-take, take-append-drop}
use Rattle.std.specs.Bool.{⊤, nat_lt}
use Rattle.std.specs.List.{AllByRecursion, cons_option, filter, filter_map, insert, list_any}
use Rattle.std.specs.Option.{IfSome, is_some}
use Rattle.std.specs.Ordering.{is_eq}
use Rattle.std.proofs.lemmas.Bool.Decides.{Decides-eqb, Decides-ltb}
use Rattle.al_base.specs.Names.{rank_of}
use Rattle.al_base.specs.declared.severity.Severity.{Severity}
use Rattle.al_base.specs.declared.severity.Status.{Status}
use Rattle.al_base.specs.declared.severity.Status.TheVariants.{Cleared, Active}
use Rattle.al_base.specs.declared.text.Text.{Text}
use Rattle.al_ids.specs.Keys.{key_cmp}
use Rattle.al_ids.specs.declared.key.AlarmKey.{AlarmKey}
use Rattle.al_select.specs.Filters.{Facts, compress_takes, purge_takes}
use Rattle.al_base.specs.Texts.{same_text}
use Rattle.al_select.specs.declared.purge.PurgeFilter.{PurgeFilter}
use Rattle.al_shelf.specs.Places.{is_named, without}
use Rattle.al_shelf.specs.declared.shelf.Shelf.{Shelf}
use Rattle.al_model.specs.Alarms.{alarm_of, bounded, facts_of, is_of, move_entry, new_alarm, reported, says_more, with_newcomer}
use Rattle.al_model.specs.Decision.{changes, sets}
use Rattle.al_model.specs.Events.{after_event, fate, newcomer, set_by, touches}
use Rattle.al_model.specs.Laws.{IsRepeatable}
use Rattle.al_model.specs.State.{AlarmState, State, is_on, shelf_name}
use Rattle.al_model.specs.Step.{IsSameButTime, moved, step}
use Rattle.al_model.specs.declared.entry.Entry.{Entry}
use Rattle.al_model.specs.declared.event.Event.{Event}
use Rattle.al_model.specs.declared.event.Event.TheVariants as events
use Rattle.al_model.specs.declared.event.Side.{Side}
use Rattle.al_model.specs.declared.event.Side.TheVariants as sides
use Rattle.al_model.proofs.Lifting.{each_after}
use Rattle.al_model.proofs.Living.{any_map, found}
use Rattle.al_model.proofs.Moves.{fate_key, moved_key, no_move, same_itself, unmoved}
use Rattle.al_model.proofs.Sameness.{found_in, same_leaves, set_nothing}
use Rattle.al_model.proofs.Sames.{decides_installed, decides_max, decides_rule, decides_shelves}
use Rattle.al_model.proofs.Tools.{either}

-- ---- tests

and_false : (a : Bool) → (a && false) ≡ false
and_false true = refl
and_false false = refl

not_more : (m n : ℕ) → n ≤ m → nat_lt m n ≡ false
not_more m n le = by (nat_lt m n) refl
  where
    by : (b : Bool) → nat_lt m n ≡ b → nat_lt m n ≡ false
    by true is = let lt = (Decides-ltb m n).0 is in absurd (omega arith)
    by false is = is

none_of_all : {X : Type 0} (p : X → Bool) (xs : List X) → AllByRecursion (λ x. p x ≡ false) xs → list_any p xs ≡ false
none_of_all p [] h = refl
none_of_all p (x ∷ xs) h = ap (λ b. b || list_any p xs) h.0 ∙ none_of_all p xs h.1

all_of : {X : Type 0} (xs : List X) → AllByRecursion (λ x. ⊤) xs
all_of [] = tt
all_of (x ∷ xs) = (tt, all_of xs)

-- ---- what a report, a bound and a filter leave

-- A report says no more of the alarm that it left.
said : (max : Option ℕ) (time : ℕ) (status : Status) (text : Text) (a : AlarmState) → says_more (reported max time status text a) status text ≡ false
said max time (Active severity) text a =
    ap (λ b. not b || not (same_text text text)) ((Decides-eqb (rank_of severity) (rank_of severity)).1 refl) ∙ ap not (same_itself text)
said max time Cleared text a = refl

said_new : (name : Option Text) (time : ℕ) (key : AlarmKey) (severity : Severity) (text : Text) → says_more (new_alarm name time key severity text) (Active severity) text ≡ false
said_new name time key severity text =
    ap (λ b. not b || not (same_text text text)) ((Decides-eqb (rank_of severity) (rank_of severity)).1 refl) ∙ ap not (same_itself text)

-- without an age the time doesn't matter
ageless : (filter : PurgeFilter) (facts : Facts) (time later : ℕ) → filter.age ≡ None → purge_takes filter facts later ≡ purge_takes filter facts time
unfolding purge_takes
ageless filter facts time later none =
    ap (λ age. purge_takes (record filter { age = age }) facts later) none ∙ sym (ap (λ age. purge_takes (record filter { age = age }) facts time) none)

-- ---- shelves

filter_cut : {X : Type 0} (p : X → Bool) (xs ys : List X) → filter p (xs ++ ys) ≡ filter p xs ++ filter p ys
filter_cut p [] ys = refl
filter_cut {X} p (x ∷ xs) ys = by (p x) (filter_cut p xs ys)
  where
    by : (b : Bool) → filter p (xs ++ ys) ≡ filter p xs ++ filter p ys → cond b (x ∷ filter p (xs ++ ys)) (filter p (xs ++ ys)) ≡ cond b (x ∷ filter p xs) (filter p xs) ++ filter p ys
    by true same = ap (λ zs. x ∷ zs) same
    by false same = same

filter_again : {X : Type 0} (p : X → Bool) (xs : List X) → filter p (filter p xs) ≡ filter p xs
filter_again p [] = refl
filter_again {X} p (x ∷ xs) = by (p x) refl (filter_again p xs)
  where
    by : (b : Bool) → p x ≡ b → filter p (filter p xs) ≡ filter p xs → filter p (cond b (x ∷ filter p xs) (filter p xs)) ≡ cond b (x ∷ filter p xs) (filter p xs)
    by true is same = ap (λ b. cond b (x ∷ filter p (filter p xs)) (filter p (filter p xs))) is ∙ ap (λ zs. x ∷ zs) same
    by false is same = same

-- the others of a shelf that was put are the others still
others_stay : (shelf : Shelf) (at : ℕ) (shelves : List Shelf) → without shelf.name (insert (without shelf.name shelves) at shelf) ≡ without shelf.name shelves
others_stay shelf at shelves =
    let other : Shelf → Bool = λ x. not (is_named shelf.name x) in
    let others = filter other shelves in
    let own : other shelf ≡ false = ap not (same_itself shelf.name) in
    filter_cut other (take at others) (shelf ∷ drop at others)
    ∙ ap (λ b. filter other (take at others) ++ cond b (shelf ∷ filter other (drop at others)) (filter other (drop at others))) own
    ∙ sym (filter_cut other (take at others) (drop at others)) ∙ ap (filter other) (take-append-drop at others) ∙ filter_again other shelves

-- ---- the event again

-- what it sets is set
set_again : (s t : State) (event : Event) → t.inventory ≡ (set_by s event).inventory → t.max ≡ (set_by s event).max → t.rule ≡ (set_by s event).rule → t.shelves ≡ (set_by s event).shelves → IsRepeatable s event → sets t event ≡ false
set_again s t (events.Report key status text) i m r x ok = refl
set_again s t (events.Operate key state operator text) i m r x ok = absurd ok
set_again s t (events.SetMax max) i m r x ok = ap not ((decides_max t.max max).1 m)
set_again s t (events.SetNotify rule) i m r x ok = ap not ((decides_rule t.rule rule).1 r)
set_again s t (events.PutShelf shelf at) i m r x ok =
    ap not ((decides_shelves t.shelves (insert (without shelf.name t.shelves) at shelf)).1
    (x ∙ ap (λ others. insert others at shelf) (sym (ap (without shelf.name) x ∙ others_stay shelf at s.shelves))))
set_again s t (events.DropShelf name) i m r x ok =
    ap not ((decides_shelves t.shelves (without name t.shelves)).1 (x ∙ sym (ap (without name) x ∙ filter_again (λ y. not (is_named name y)) s.shelves)))
set_again s t (events.Purge side filter) i m r x ok = refl
set_again s t (events.Compress side filter) i m r x ok = refl
set_again s t (events.Install inventory) i m r x ok = ap not ((decides_installed t.inventory (Some inventory)).1 i)

-- the state after an event of a time
abbrev after : State → ℕ → ℕ → Event → State
after s time origin event = step s (record { time = time; origin = origin; event = event })

set_after : (s : State) (time origin : ℕ) (event : Event) → IsRepeatable s event → sets (after s time origin event) event ≡ false
unfolding step
set_after s time origin event ok = set_again s (after s time origin event) event refl refl refl refl ok

-- no shelf changes again, so no alarm moves
still : (s t : State) (later : ℕ) (b : AlarmState) → t ≡ s → is_some (move_entry later (shelf_name s b.key) (shelf_name t b.key)) ≡ false
still s t later b same =
    ap (λ u. is_some (move_entry later (shelf_name s b.key) (shelf_name u b.key))) same ∙ ap is_some (no_move later (shelf_name s b.key))

-- no alarm that is left is touched again
touch_again : (s : State) (time origin later : ℕ) (event : Event) → IsRepeatable s event → (a : AlarmState) → IfSome (fate s time event a) (λ b. touches (after s time origin event) later event (moved s (after_event s time event) time b) ≡ false)
unfolding step
touch_again s time origin later (events.Report key status text) ok a =
    let event = events.Report key status text in
    let same : AlarmState → Type 0 = λ b. touches (after s time origin event) later event b ≡ false in
    either (λ b. same (moved s (after_event s time event) time b)) (is_of key a && says_more a status text) (reported s.max time status text a) a
    (λ _. unmoved same s (after_event s time event) time (reported s.max time status text a) refl
    (ap (λ c. is_of key (reported s.max time status text a) && c) (said s.max time status text a) ∙ and_false (is_of key (reported s.max time status text a))))
    (λ not_more. unmoved same s (after_event s time event) time a refl not_more)
touch_again s time origin later (events.Operate key state operator text) ok a = absurd ok
touch_again s time origin later (events.SetMax None) ok a = refl
touch_again s time origin later (events.SetMax (Some n)) ok a =
    unmoved (λ b. nat_lt n (length b.statuses) ≡ false) s (after_event s time (events.SetMax (Some n))) time (bounded (Some n) a) refl
    (not_more n (length (take n a.statuses)) (omega (arith, length-take n a.statuses)))
touch_again s time origin later (events.SetNotify rule) ok a = refl
touch_again s time origin later (events.PutShelf shelf at) ok a =
    let event = events.PutShelf shelf at in
    let t = after s time origin event in
    still t (set_by t event) later (moved s (after_event s time event) time a) (set_nothing t event (set_after s time origin event ok))
touch_again s time origin later (events.DropShelf name) ok a =
    let event = events.DropShelf name in
    let t = after s time origin event in
    still t (set_by t event) later (moved s (after_event s time event) time a) (set_nothing t event (set_after s time origin event ok))
touch_again s time origin later (events.Purge side filter) ok a =
    let event = events.Purge side filter in
    let same : AlarmState → Type 0 = λ b. touches (after s time origin event) later event b ≡ false in
    either (λ o. IfSome o (λ b. same (moved s (after_event s time event) time b))) (is_on s side a.key && purge_takes filter (facts_of a) time) None (Some a) (λ _. tt)
    (λ left. unmoved same s (after_event s time event) time a refl
    (by side left))
  where
    by : (side : Side) → (is_on s side a.key && purge_takes filter (facts_of a) time) ≡ false → (is_on (after s time origin (events.Purge side filter)) side a.key && purge_takes filter (facts_of a) later) ≡ false
    by sides.List left = ap (λ c. is_on s sides.List a.key && c) (ageless filter (facts_of a) time later ok) ∙ left
    by sides.Shelf left = ap (λ c. is_on s sides.Shelf a.key && c) (ageless filter (facts_of a) time later ok) ∙ left
touch_again s time origin later (events.Compress side filter) ok a =
    let event = events.Compress side filter in
    let same : AlarmState → Type 0 = λ b. touches (after s time origin event) later event b ≡ false in
    either (λ b. same (moved s (after_event s time event) time b)) (is_on s side a.key && compress_takes filter a.key) (bounded (Some 1) a) a
    (λ _. unmoved same s (after_event s time event) time (bounded (Some 1) a) refl
    (ap (λ c. (is_on (after s time origin event) side a.key && compress_takes filter a.key) && c)
    (not_more 1 (length (take 1 a.statuses)) (omega (arith, length-take 1 a.statuses)))
    ∙ and_false (is_on (after s time origin event) side a.key && compress_takes filter a.key)))
    (λ left. unmoved same s (after_event s time event) time a refl (ap (λ c. c && nat_lt 1 (length a.statuses)) (by side left)))
  where
    by : (side : Side) → (is_on s side a.key && compress_takes filter a.key) ≡ false → (is_on (after s time origin (events.Compress side filter)) side a.key && compress_takes filter a.key) ≡ false
    by sides.List left = left
    by sides.Shelf left = left
touch_again s time origin later (events.Install inventory) ok a =
    let event = events.Install inventory in
    let t = after s time origin event in
    still t (set_by t event) later (moved s (after_event s time event) time a) (set_nothing t event (set_after s time origin event ok))

-- nor is the one that was made
new_again : (s : State) (time origin later : ℕ) (event : Event) → IfSome (newcomer s time event) (λ b. touches (after s time origin event) later event (moved s (after_event s time event) time b) ≡ false)
unfolding step
new_again s time origin later (events.Report key (Active severity) text) =
    let event = events.Report key (Active severity) text in
    let same : AlarmState → Type 0 = λ b. touches (after s time origin event) later event b ≡ false in
    let new = new_alarm (shelf_name s key) time key severity text in
    either (λ o. IfSome o (λ b. same (moved s (after_event s time event) time b))) (is_some (alarm_of key s.alarms)) None (Some new) (λ _. tt)
    (λ _. unmoved same s (after_event s time event) time new refl
    (ap (λ c. is_of key new && c) (said_new (shelf_name s key) time key severity text) ∙ and_false (is_of key new)))
new_again s time origin later (events.Report key Cleared text) = tt
new_again s time origin later (events.Operate key state operator text) = tt
new_again s time origin later (events.SetMax max) = tt
new_again s time origin later (events.SetNotify rule) = tt
new_again s time origin later (events.PutShelf shelf at) = tt
new_again s time origin later (events.DropShelf name) = tt
new_again s time origin later (events.Purge side filter) = tt
new_again s time origin later (events.Compress side filter) = tt
new_again s time origin later (events.Install inventory) = tt

untouched_again : (s : State) (time origin later : ℕ) (event : Event) → IsRepeatable s event → list_any (touches (after s time origin event) later event) (after s time origin event).alarms ≡ false
untouched_again s time origin later event ok =
    none_of_all (touches (after s time origin event) later event) (after s time origin event).alarms
    (each_after (λ a. ⊤) (λ b. touches (after s time origin event) later event b ≡ false) s (record { time = time; origin = origin; event = event })
    (λ a _. touch_again s time origin later event ok a) (new_again s time origin later event) (all_of s.alarms))

-- ---- a report on a known key makes no alarm again

-- the alarms of a key are found still
found_still : (f : AlarmState → Option AlarmState) (key : AlarmKey) → ((a : AlarmState) → f a ≡ None → ⊥) → ((a : AlarmState) → IfSome (f a) (λ b. b.key ≡ a.key)) → (xs : List AlarmState) → list_any (is_of key) (filter_map f xs) ≡ list_any (is_of key) xs
found_still f key lives same [] = refl
found_still f key lives same (x ∷ xs) = by (f x) refl (same x) (found_still f key lives same xs)
  where
    by : (o : Option AlarmState) → f x ≡ o → IfSome o (λ b. b.key ≡ x.key) → list_any (is_of key) (filter_map f xs) ≡ list_any (is_of key) xs → list_any (is_of key) (cons_option o (filter_map f xs)) ≡ (is_of key x || list_any (is_of key) xs)
    by None gone is more = absurd (lives x gone)
    by (Some y) gone is more = ap (λ k. is_eq (key_cmp k key) || list_any (is_of key) (filter_map f xs)) is ∙ ap (λ b. is_of key x || b) more

known_again : (s : State) (time origin : ℕ) (key : AlarmKey) (severity : Severity) (text : Text) → is_some (alarm_of key (after s time origin (events.Report key (Active severity) text)).alarms) ≡ true
unfolding step
known_again s time origin key severity text = by (is_some (alarm_of key s.alarms)) refl
  where
    event : Event
    event = events.Report key (Active severity) text

    g : AlarmState → AlarmState
    g = moved s (after_event s time event) time

    same : (a : AlarmState) → (g a).key ≡ a.key
    same = moved_key s (after_event s time event) time

    standing : List AlarmState
    standing = filter_map (fate s time event) s.alarms

    by : (b : Bool) → is_some (alarm_of key s.alarms) ≡ b → is_some (alarm_of key (map g (with_newcomer (cond b None (Some (new_alarm (shelf_name s key) time key severity text))) standing))) ≡ true
    by true is =
        found (is_of key) (map g standing) ∙ any_map (is_of key) (is_of key) g (λ a. ap (λ k. is_eq (key_cmp k key)) (same a)) standing
        ∙ found_still (fate s time event) key (λ a gone. (cc)) (fate_key s time event) s.alarms ∙ sym (found (is_of key) s.alarms) ∙ is
    by false is = found_in (new_alarm (shelf_name s key) time key severity text) standing g same

none_new_again : (s : State) (time origin later : ℕ) (event : Event) → newcomer (after s time origin event) later event ≡ None
none_new_again s time origin later (events.Report key (Active severity) text) =
    let t = after s time origin (events.Report key (Active severity) text) in
    ap (λ b. cond b None (Some (new_alarm (shelf_name t key) later key severity text))) (known_again s time origin key severity text)
none_new_again s time origin later (events.Report key Cleared text) = refl
none_new_again s time origin later (events.Operate key state operator text) = refl
none_new_again s time origin later (events.SetMax max) = refl
none_new_again s time origin later (events.SetNotify rule) = refl
none_new_again s time origin later (events.PutShelf shelf at) = refl
none_new_again s time origin later (events.DropShelf name) = refl
none_new_again s time origin later (events.Purge side filter) = refl
none_new_again s time origin later (events.Compress side filter) = refl
none_new_again s time origin later (events.Install inventory) = refl

-- ---- the state

unchanged_again : (s : State) (time origin later : ℕ) (event : Event) → IsRepeatable s event → changes (after s time origin event) later event ≡ false
unchanged_again s time origin later event ok =
    let t = after s time origin event in
    ap (λ b. b || list_any (touches t later event) t.alarms || is_some (newcomer t later event)) (set_after s time origin event ok)
    ∙ ap (λ b. b || is_some (newcomer t later event)) (untouched_again s time origin later event ok)
    ∙ ap is_some (none_new_again s time origin later event)

pub repeat_leaves : (s : State) (e again : Entry) → IsRepeatable s e.event → again.event ≡ e.event → IsSameButTime (step s e) (step (step s e) again)
repeat_leaves s e again ok same =
    same_leaves (step s e) again (ap (λ event. changes (step s e) again.time event) same ∙ unchanged_again s e.time e.origin again.time e.event ok)
