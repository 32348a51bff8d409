-- A purge answers how many alarms go, a compression how many lose an entry.
use Rattle.std.proofs.Common.{◌≡◌, ℕ, ◌+◌, suc, Bool, true, false, cond, ◌&&◌, Option, None, Some, List, [], ◌∷◌, map, length, take, refl, sym, ap, ◌∙◌, arith, length-take}
use Rattle.std.specs.Bool.{nat_lt, one_answer}
use Rattle.std.specs.List.{count_by, cons_option, filter, filter_map, list_any, zip}
use Rattle.std.specs.Option.{option_map}
use Rattle.std.proofs.lemmas.Bool.Decides.{Decides-ltb}
use Rattle.std.proofs.lemmas.List.Sums.{length-filter}
use Rattle.al_select.specs.Filters.{compress_takes}
use Rattle.al_select.specs.declared.compress.CompressFilter.{CompressFilter}
use Rattle.al_select.specs.declared.purge.PurgeFilter.{PurgeFilter}
use Rattle.al_model.specs.Alarms.{bounded}
use Rattle.al_shelf.specs.Places.{place_of}
use Rattle.al_model.specs.Decision.{changes, decision_of, entry_of, entry_time, event_of, made_or_replaced, reply_of}
use Rattle.al_model.specs.Events.{after_event, fate, touches}
use Rattle.al_model.specs.Laws.{lost_entry}
use Rattle.al_model.specs.State.{AlarmState, State, is_on}
use Rattle.al_model.specs.Step.{moved, step}
use Rattle.al_model.specs.declared.decision.Decision.TheVariants.{Same, Change}
use Rattle.al_model.specs.declared.decision.Reply.TheVariants.{Count}
use Rattle.al_model.specs.declared.entry.Entry.{Entry}
use Rattle.al_model.specs.declared.event.Event.{Event}
use Rattle.al_model.specs.declared.event.Event.TheVariants as events
use Rattle.al_model.specs.declared.event.Side.{Side}
use Rattle.al_model.specs.declared.request.Request.{Request}
use Rattle.al_model.specs.declared.request.Request.TheVariants as requests
use Rattle.al_model.proofs.Living.{map-filter_map}
use Rattle.al_model.proofs.Moves.{unmoved}
use Rattle.al_model.proofs.Refusing.{change_reply, same_reply}
use Rattle.al_model.proofs.Tools.{none_true}
use Rattle.al_model.proofs.Touched.{life, untouched}

-- ---- counts

-- those that go and those that are left
gone_or_left : (f : AlarmState → Option AlarmState) (t : AlarmState → Bool) → ((x : AlarmState) → t x ≡ true → f x ≡ None) → ((x : AlarmState) → t x ≡ false → f x ≡ Some x) → (xs : List AlarmState) → length (filter t xs) + length (filter_map f xs) ≡ length xs
gone_or_left f t goes stays [] = refl
gone_or_left f t goes stays (x ∷ xs) = by (t x) refl (gone_or_left f t goes stays xs)
  where
    by : (b : Bool) → t x ≡ b → length (filter t xs) + length (filter_map f xs) ≡ length xs → length (cond b (x ∷ filter t xs) (filter t xs)) + length (cons_option (f x) (filter_map f xs)) ≡ length (x ∷ xs)
    by true is more =
        let left = ap (λ o. length (cons_option o (filter_map f xs))) (goes x is) in
        omega (arith, left)
    by false is more =
        let left = ap (λ o. length (cons_option o (filter_map f xs))) (stays x is) in
        omega (arith, left)

-- pairs of what was and what is, as many as those that pass a test
counted : (p : AlarmState × AlarmState → Bool) (t : AlarmState → Bool) (h : AlarmState → AlarmState) → ((x : AlarmState) → p (x, h x) ≡ t x) → (xs : List AlarmState) → length (filter p (zip xs (map h xs))) ≡ length (filter t xs)
counted p t h same [] = refl
counted p t h same (x ∷ xs) = by (p (x, h x)) (t x) (same x) (counted p t h same xs)
  where
    by : (b c : Bool) → b ≡ c → length (filter p (zip xs (map h xs))) ≡ length (filter t xs) → length (cond b ((x, h x) ∷ filter p (zip xs (map h xs))) (filter p (zip xs (map h xs)))) ≡ length (cond c (x ∷ filter t xs) (filter t xs))
    by true true is more = ap (λ n. suc n) more
    by true false is more = absurd (cc)
    by false true is more = absurd (cc)
    by false false is more = more

filter_map_some : (h : AlarmState → AlarmState) (xs : List AlarmState) → filter_map (λ x. Some (h x)) xs ≡ map h xs
filter_map_some h [] = refl
filter_map_some h (x ∷ xs) = ap (λ ys. h x ∷ ys) (filter_map_some h xs)

-- ---- a purge

purged : (s : State) (time : ℕ) (side : Side) (filter : PurgeFilter) (a : AlarmState) → touches s time (events.Purge side filter) a ≡ true → life s time (events.Purge side filter) a ≡ None
purged s time side filter a h = ap (λ b. option_map (moved s (after_event s time (events.Purge side filter)) time) (cond b None (Some a))) h

pub purge_counts : (s : State) (time origin : ℕ) (side : Side) (filter : PurgeFilter) → (let e : Entry = record { time = time; origin = origin; event = events.Purge side filter } in count_by (touches s time (events.Purge side filter)) s.alarms + length (step s e).alarms ≡ length s.alarms)
unfolding step
purge_counts s time origin side chosen =
    let event = events.Purge side chosen in
    let after = moved s (after_event s time event) time in
    let all = gone_or_left (life s time event) (touches s time event) (purged s time side chosen) (untouched s time event) s.alarms in
    let left = ap length (map-filter_map after (fate s time event) s.alarms) in
    let count = length-filter (touches s time event) s.alarms in
    omega (arith, all, left, count)

-- ---- a compression

-- what a compression makes of an alarm
compressed : State → ℕ → Side → CompressFilter → AlarmState → AlarmState
compressed s time side filter a =
    moved s (after_event s time (events.Compress side filter)) time (cond (is_on s side a.key && compress_takes filter a.key) (bounded (Some 1) a) a)

loses : (s : State) (time : ℕ) (side : Side) (filter : CompressFilter) (a : AlarmState) → lost_entry (a, compressed s time side filter a) ≡ touches s time (events.Compress side filter) a
unfolding compressed
loses s time side filter a = by (is_on s side a.key && compress_takes filter a.key)
  where
    after : State
    after = after_event s time (events.Compress side filter)

    count : ℕ
    count = length a.statuses

    fewer : nat_lt (length (take 1 a.statuses)) count ≡ nat_lt 1 count
    fewer =
        one_answer (nat_lt (length (take 1 a.statuses)) count) (nat_lt 1 count) (
          λ h. let lt = (Decides-ltb (length (take 1 a.statuses)) count).0 h in omega (arith, length-take 1 a.statuses),
          λ lt. (Decides-ltb (length (take 1 a.statuses)) count).1 (omega (arith, length-take 1 a.statuses)),
        )
        (Decides-ltb 1 count)

    none : nat_lt count count ≡ false
    none = by_test (nat_lt count count) refl
      where
        by_test : (b : Bool) → nat_lt count count ≡ b → nat_lt count count ≡ false
        by_test true is = let lt = (Decides-ltb count count).0 is in absurd (omega arith)
        by_test false is = is

    by : (b : Bool) → nat_lt (length (moved s after time (cond b (bounded (Some 1) a) a)).statuses) count ≡ (b && nat_lt 1 count)
    by true = unmoved (λ c. nat_lt (length c.statuses) count ≡ nat_lt 1 count) s after time (bounded (Some 1) a) refl fewer
    by false = unmoved (λ c. nat_lt (length c.statuses) count ≡ false) s after time a refl none

pub compress_counts : (s : State) (time origin : ℕ) (side : Side) (filter : CompressFilter) → (let e : Entry = record { time = time; origin = origin; event = events.Compress side filter } in count_by (touches s time (events.Compress side filter)) s.alarms ≡ count_by lost_entry (zip s.alarms (step s e).alarms))
unfolding step compressed
compress_counts s time origin side chosen =
    let event = events.Compress side chosen in
    let after = moved s (after_event s time event) time in
    let h = compressed s time side chosen in
    let alarms : map after (filter_map (fate s time event) s.alarms) ≡ map h s.alarms = map-filter_map after (fate s time event) s.alarms ∙ filter_map_some h s.alarms in
    sym (length-filter (touches s time event) s.alarms) ∙ sym (counted lost_entry (touches s time event) h (loses s time side chosen) s.alarms)
    ∙ length-filter lost_entry (zip s.alarms (map h s.alarms)) ∙ ap (λ xs. count_by lost_entry (zip s.alarms xs)) (sym alarms)

-- ---- what is answered

none_counted : (t : AlarmState → Bool) (xs : List AlarmState) → list_any t xs ≡ false → count_by t xs ≡ 0
none_counted t xs h = sym (length-filter t xs) ∙ ap length (none_left xs h)
  where
    none_left : (ys : List AlarmState) → list_any t ys ≡ false → filter t ys ≡ []
    none_left [] h = refl
    none_left (y ∷ ys) h =
        let parts = none_true (t y) (list_any t ys) h in
        ap (λ b. cond b (y ∷ filter t ys) (filter t ys)) parts.0 ∙ none_left ys parts.1

-- what changes nothing counts none
unchanged_counts : (s : State) (time : ℕ) (request : Request) (n : ℕ) → Count n ≡ reply_of s time request → changes s time (event_of s request) ≡ false → n ≡ 0
unchanged_counts s time (requests.Report key status text) n is h = cc
unchanged_counts s time (requests.Operate key state operator text) n is h = cc
unchanged_counts s time (requests.SetMax max) n is h = cc
unchanged_counts s time (requests.SetMode mode) n is h = cc
unchanged_counts s time (requests.SetLevel level) n is h = cc
unchanged_counts s time (requests.CreateShelf shelf spot) n is h = cc
unchanged_counts s time (requests.PutShelf shelf spot) n is h = by (place_of shelf.name s.shelves) is
  where
    by : (o : Option ℕ) → Count n ≡ made_or_replaced o → n ≡ 0
    by None is = cc
    by (Some place) is = cc
unchanged_counts s time (requests.DropShelf name) n is h = cc
unchanged_counts s time (requests.Purge side filter) n is h =
    let none = none_true (list_any (touches s time (events.Purge side filter)) s.alarms) false h in
    let count : n ≡ count_by (touches s time (events.Purge side filter)) s.alarms = cc in
    count ∙ none_counted (touches s time (events.Purge side filter)) s.alarms none.0
unchanged_counts s time (requests.Compress side filter) n is h =
    let none = none_true (list_any (touches s time (events.Compress side filter)) s.alarms) false h in
    let count : n ≡ count_by (touches s time (events.Compress side filter)) s.alarms = cc in
    count ∙ none_counted (touches s time (events.Compress side filter)) s.alarms none.0
unchanged_counts s time (requests.Install inventory) n is h = cc

pub same_counts : (s : State) (request : Request) (now n : ℕ) → decision_of s request now ≡ Same (Count n) → n ≡ 0
same_counts s request now n h =
    let r = same_reply s request now (Count n) h in
    unchanged_counts s (entry_time s now) request n r.0 r.1

pub purge_answers : (s : State) (origin : ℕ) (side : Side) (filter : PurgeFilter) (now : ℕ) (event : Event) (n : ℕ) → decision_of s (requests.Purge side filter) now ≡ Change event (Count n) → n + length (step s (entry_of s origin event now)).alarms ≡ length s.alarms
purge_answers s origin side filter now event n h =
    let r = change_reply s (requests.Purge side filter) now event (Count n) h in
    let count : n ≡ count_by (touches s (entry_time s now) (events.Purge side filter)) s.alarms = cc (r.1) in
    let all = purge_counts s (entry_time s now) origin side filter in
    let same : length (step s (entry_of s origin event now)).alarms ≡ length (step s (entry_of s origin (events.Purge side filter) now)).alarms =
    ap (λ v. length (step s (entry_of s origin v now)).alarms) r.0 in
    omega (arith, count, all, same)

pub compress_answers : (s : State) (origin : ℕ) (side : Side) (filter : CompressFilter) (now : ℕ) (event : Event) (n : ℕ) → decision_of s (requests.Compress side filter) now ≡ Change event (Count n) → n ≡ count_by lost_entry (zip s.alarms (step s (entry_of s origin event now)).alarms)
compress_answers s origin side filter now event n h =
    let r = change_reply s (requests.Compress side filter) now event (Count n) h in
    let count : n ≡ count_by (touches s (entry_time s now) (events.Compress side filter)) s.alarms = cc (r.1) in
    count ∙ compress_counts s (entry_time s now) origin side filter
    ∙ ap (λ v. count_by lost_entry (zip s.alarms (step s (entry_of s origin v now)).alarms)) (sym r.0)
