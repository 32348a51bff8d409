-- How many alarms a purge or a compression changes.
use Rattle.std.proofs.Common.{◌≡◌, ℕ, suc, ◌≤◌, ◌&&◌, ◌||◌, Bool, true, false, cond, None, List, [], ◌∷◌, length, refl, sym, ap, ◌∙◌, arith}
use Rattle.std.specs.Bool.{nat_lt}
use Rattle.std.specs.List.{AllByRecursion, filter, list_any}
use Rattle.std.proofs.lemmas.Bool.Decides.{Decides-ltb}
use Rattle.std.proofs.lemmas.List.Sums.{length-filter}
use Rattle.al_base.specs.Limits.{most_alarms}
use Rattle.al_select.specs.Filters.{compress_takes, purge_takes}
use Rattle.al_select.specs.declared.compress.CompressFilter.{CompressFilter}
use Rattle.al_select.specs.declared.purge.PurgeFilter.{PurgeFilter}
use Rattle.al_model.specs.Alarms.{facts_of}
use Rattle.al_model.specs.Events.{touches}
use Rattle.al_model.specs.State.{AlarmState, State, is_on}
use Rattle.al_model.specs.Validity.{IsMarked, IsValid}
use Rattle.al_model.specs.declared.decision.Reply.TheVariants.{Count}
use Rattle.al_model.specs.declared.event.Event.TheVariants as events
use Rattle.al_model.specs.declared.event.Side.{Side}
use Rattle.al_model.specs.declared.event.Side.TheVariants as sides
use Rattle.al_model.specs.declared.request.Request.TheVariants as requests
use Rattle.al_model.proofs.Bounds.{length_filter}
use Rattle.al_model.proofs.Validity.{marked_alarms}
use Rattle.al_contents.proofs.Positions.{length_states}
use Rattle.al_contents.proofs.Sides.{filter_like, marks_list, marks_shelve}
use Rattle.al_contents.specs.Views.{AlarmView, goes, is_at, loses, states}
use Rattle.al_lists.specs.Verdicts.{judged, room_for, verdict_at}
use Rattle.al_lists.proofs.Judging.{plain_verdict}

-- ---- counts

-- some are counted where any passes
pub some_counted : (p : AlarmState → Bool) (xs : List AlarmState) → nat_lt 0 (length (filter p xs)) ≡ list_any p xs
some_counted p [] = refl
some_counted p (x ∷ xs) = by (p x) (some_counted p xs)
  where
    by : (b : Bool) → nat_lt 0 (length (filter p xs)) ≡ list_any p xs → nat_lt 0 (length (cond b (x ∷ filter p xs) (filter p xs))) ≡ (b || list_any p xs)
    by true more = (Decides-ltb 0 (length (x ∷ filter p xs))).1 (omega arith)
    by false more = more

-- the alarms of the tables that pass are as many as their states
kept_length : (p : AlarmState → Bool) (views : List AlarmView) → length (filter (λ v. p v.state) views) ≡ length (filter p (states views))
kept_length p [] = refl
kept_length p (v ∷ views) = by (p v.state) (kept_length p views)
  where
    by : (b : Bool) → length (filter (λ w. p w.state) views) ≡ length (filter p (states views)) → length (cond b (v ∷ filter (λ w. p w.state) views) (filter (λ w. p w.state) views)) ≡ length (cond b (v.state ∷ filter p (states views)) (filter p (states views)))
    by true more = ap suc more
    by false more = more

all_like : (p q : AlarmState → Bool) (rest : AlarmState → Bool) (xs : List AlarmState) → AllByRecursion (λ x. p x ≡ q x) xs → AllByRecursion (λ x. (p x && rest x) ≡ (q x && rest x)) xs
all_like p q rest [] h = tt
all_like p q rest (x ∷ xs) h = (ap (λ b. b && rest x) h.0, all_like p q rest xs h.1)

-- the newest operator entries tell the sides of the alarms
at_sides : (s : State) (side : Side) (alarms : List AlarmState) → AllByRecursion (IsMarked s) alarms → AllByRecursion (λ a. is_at side a ≡ is_on s side a.key) alarms
at_sides s sides.List alarms h = marks_list s alarms h
at_sides s sides.Shelf alarms h = marks_shelve s alarms h

-- ---- purges and compressions

-- the alarms that pass the tables' test are those that the event touches
record AreCounted (s : State) (views : List AlarmView) (test touched : AlarmState → Bool) : Type 0 where
  same : AllByRecursion (λ a. test a ≡ touched a) s.alarms
  all : states views ≡ s.alarms

counted : (s : State) (views : List AlarmView) (test touched : AlarmState → Bool) → AreCounted s views test touched → length (filter (λ v. test v.state) views) ≡ length (filter touched s.alarms)
counted s views test touched h =
    kept_length test views ∙ ap (λ alarms. length (filter test alarms)) h.all ∙ ap length (filter_like test touched s.alarms h.same)

purge_counted : (s : State) (time : ℕ) (side : Side) (chosen : PurgeFilter) (views : List AlarmView) → IsValid s → states views ≡ s.alarms → AreCounted s views (goes side chosen time) (touches s time (events.Purge side chosen))
purge_counted s time side chosen views valid all =
    record {
      same = all_like (is_at side) (λ a. is_on s side a.key) (λ a. purge_takes chosen (facts_of a) time) s.alarms (at_sides s side s.alarms (marked_alarms s valid));
      all = all;
    }

compression_counted : (s : State) (time : ℕ) (side : Side) (chosen : CompressFilter) (views : List AlarmView) → IsValid s → states views ≡ s.alarms → AreCounted s views (loses side chosen) (touches s time (events.Compress side chosen))
compression_counted s time side chosen views valid all =
    record {
      same = all_like (λ a. is_at side a && compress_takes chosen a.key) (λ a. is_on s side a.key && compress_takes chosen a.key)
          (λ a. nat_lt 1 (length a.statuses)) s.alarms
          (all_like (is_at side) (λ a. is_on s side a.key) (λ a. compress_takes chosen a.key) s.alarms (at_sides s side s.alarms (marked_alarms s valid)));
      all = all;
    }

any_or : (b : Bool) → (b || false) ≡ b
any_or true = refl
any_or false = refl

-- It changes something where it counts any, and answers how many.
counts_change : (s : State) (touched : AlarmState → Bool) (count : ℕ) → count ≡ length (filter touched s.alarms) → nat_lt 0 count ≡ (list_any touched s.alarms || false)
counts_change s touched count is = ap (nat_lt 0) is ∙ some_counted touched s.alarms ∙ sym (any_or (list_any touched s.alarms))

pub purge_verdict : (s : State) (time : ℕ) (side : Side) (chosen : PurgeFilter) (views : List AlarmView) (count : ℕ) → IsValid s → states views ≡ s.alarms → count ≡ length (filter (λ v. goes side chosen time v.state) views) → judged None (nat_lt 0 count) (room_for true true s.time) (Count count) ≡ verdict_at s time (requests.Purge side chosen)
purge_verdict s time side chosen views count valid all is =
    let touched = touches s time (events.Purge side chosen) in
    let so : count ≡ length (filter touched s.alarms) = is ∙ counted s views (goes side chosen time) touched (purge_counted s time side chosen views valid all) in
    plain_verdict s time (requests.Purge side chosen) (nat_lt 0 count) (Count count) (record {
      exists = refl;
      changing_is = counts_change s touched count so;
      no_newcomer = refl;
      few = valid.shelves.few;
      reply_is = ap Count (so ∙ length-filter touched s.alarms);
    })

pub compression_verdict : (s : State) (time : ℕ) (side : Side) (chosen : CompressFilter) (views : List AlarmView) (count : ℕ) → IsValid s → states views ≡ s.alarms → count ≡ length (filter (λ v. loses side chosen v.state) views) → judged None (nat_lt 0 count) (room_for true true s.time) (Count count) ≡ verdict_at s time (requests.Compress side chosen)
compression_verdict s time side chosen views count valid all is =
    let touched = touches s time (events.Compress side chosen) in
    let so : count ≡ length (filter touched s.alarms) = is ∙ counted s views (loses side chosen) touched (compression_counted s time side chosen views valid all) in
    plain_verdict s time (requests.Compress side chosen) (nat_lt 0 count) (Count count) (record {
      exists = refl;
      changing_is = counts_change s touched count so;
      no_newcomer = refl;
      few = valid.shelves.few;
      reply_is = ap Count (so ∙ length-filter touched s.alarms);
    })

-- it counts no more than there may be
pub count_few : (s : State) (test : AlarmView → Bool) (views : List AlarmView) (count : ℕ) → IsValid s → states views ≡ s.alarms → count ≡ length (filter test views) → count ≤ most_alarms
count_few s test views count valid all is =
    let few = valid.few in
    let fewer = length_filter test views in
    let same : length views ≡ length s.alarms = sym (length_states views) ∙ ap length all in
    omega arith
