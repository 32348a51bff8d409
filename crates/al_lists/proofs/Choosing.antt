-- Events that choose among all alarms are what is prepared for them.
use Rattle.std.proofs.Common.{◌≡◌, ℕ, Bool, true, false, cond, not, ◌&&◌, ◌||◌, List, [], ◌∷◌, length, map, Option, None, Some, refl, ap, sym, ◌∙◌}
use Rattle.std.specs.Bool.{nat_lt}
use Rattle.std.specs.List.{AllByRecursion, cons_option, filter as kept, filter_map, list_any}
use Rattle.std.specs.Option.{option_map}
use Rattle.al_model.specs.Alarms.{bounded, facts_of, with_newcomer}
use Rattle.al_model.specs.Decision.{changes}
use Rattle.al_model.specs.Events.{after_event, fate, newcomer, set_by, touches}
use Rattle.al_model.specs.State.{AlarmState, State, is_on, shelf_name}
use Rattle.al_model.specs.Step.{moved, touches_side}
use Rattle.al_model.specs.Validity.{IsMarked}
use Rattle.al_model.specs.declared.event.Event.{Event}
use Rattle.al_model.specs.declared.event.Event.TheVariants as events
use Rattle.al_model.specs.declared.event.Side.{Side}
use Rattle.al_model.specs.declared.event.Side.TheVariants as sides
use Rattle.al_model.proofs.Living.{map-filter_map}
use Rattle.al_model.proofs.Moves.{unmoved}
use Rattle.al_model.proofs.Sameness.{alarms_after, alarms_stay, no_side}
use Rattle.al_model.proofs.Touched.{life}
use Rattle.al_notify.specs.declared.rule.NotifyRule.{NotifyRule}
use Rattle.al_select.specs.Filters.{compress_takes, purge_takes}
use Rattle.al_select.specs.declared.compress.CompressFilter.{CompressFilter}
use Rattle.al_select.specs.declared.purge.PurgeFilter.{PurgeFilter}
use Rattle.al_lists.specs.Moves.{is_cut, is_in}
use Rattle.al_contents.specs.Views.{compressed, goes, is_at}
use Rattle.al_lists.proofs.Moving.{any_like}
use Rattle.al_lists.proofs.Placing.{or_false}
use Rattle.al_contents.proofs.Sides.{at_is_on}

-- ---- lists

filter_map_map : {X Y : Type 0} (P : X → Type 0) (f : X → Option Y) (g : X → Y) → ((x : X) → P x → f x ≡ Some (g x)) → (xs : List X) → AllByRecursion P xs → filter_map f xs ≡ map g xs
filter_map_map P f g is [] h = refl
filter_map_map P f g is (x ∷ xs) h =
    ap (λ o. cons_option o (filter_map f xs)) (is x h.0) ∙ ap (λ ys. g x ∷ ys) (filter_map_map P f g is xs h.1)

filter_map_filter : {X : Type 0} (P : X → Type 0) (f : X → Option X) (p : X → Bool) → ((x : X) → P x → f x ≡ cond (p x) None (Some x)) → (xs : List X) → AllByRecursion P xs → filter_map f xs ≡ kept (λ x. not (p x)) xs
filter_map_filter P f p is [] h = refl
filter_map_filter {X} P f p is (x ∷ xs) h =
    ap (λ o. cons_option o (filter_map f xs)) (is x h.0) ∙ one (p x)
    ∙ ap (λ ys. cond (not (p x)) (x ∷ ys) ys) (filter_map_filter P f p is xs h.1)
  where
    one : (b : Bool) → cons_option (cond b None (Some x)) (filter_map f xs) ≡ cond (not b) (x ∷ filter_map f xs) (filter_map f xs)
    one true = refl
    one false = refl

any_alike : {X : Type 0} (P : X → Type 0) (p q : X → Bool) → ((x : X) → P x → p x ≡ q x) → (xs : List X) → AllByRecursion P xs → list_any p xs ≡ list_any q xs
any_alike P p q same [] h = refl
any_alike P p q same (x ∷ xs) h = ap (λ b. b || list_any p xs) (same x h.0) ∙ ap (λ b. q x || b) (any_alike P p q same xs h.1)

none_alike : {X : Type 0} (p : X → Bool) → ((x : X) → p x ≡ false) → (xs : List X) → list_any p xs ≡ false
none_alike p fails [] = refl
none_alike p fails (x ∷ xs) = ap (λ b. b || list_any p xs) (fails x) ∙ none_alike p fails xs

-- no alarm moves where shelves and inventory stay
still : (s after : State) (time : ℕ) (a : AlarmState) → shelf_name s a.key ≡ shelf_name after a.key → moved s after time a ≡ a
still s after time a same = unmoved (λ b. b ≡ a) s after time a same refl

lives_are : (s : State) (time : ℕ) (event : Event) → newcomer s time event ≡ None → alarms_after s time event ≡ filter_map (life s time event) s.alarms
lives_are s time event none =
    ap (λ o. map (moved s (after_event s time event) time) (with_newcomer o (filter_map (fate s time event) s.alarms))) none
    ∙ map-filter_map (moved s (after_event s time event) time) (fate s time event) s.alarms

-- ---- another maximum

pub max_alarms : (s : State) (time : ℕ) (max : Option ℕ) → AllByRecursion (IsMarked s) s.alarms → alarms_after s time (events.SetMax max) ≡ map (bounded max) s.alarms
max_alarms s time max marked =
    let event = events.SetMax max in
    lives_are s time event refl
    ∙ filter_map_map (IsMarked s) (life s time event) (bounded max)
    (λ a _. ap Some (still s (after_event s time event) time (bounded max a) refl)) s.alarms marked

-- an alarm that it cuts, on the side
cut_like : (s : State) (time : ℕ) (max : Option ℕ) (side : Side) (a : AlarmState) → IsMarked s a → (touches s time (events.SetMax max) a && (is_on s side a.key || is_on (set_by s (events.SetMax max)) side a.key)) ≡ (is_at side a && is_cut max a)
cut_like s time max side a marked = both max side (at_is_on s side a marked)
  where
    turned : (c b : Bool) → (c && (b || b)) ≡ (b && c)
    turned true true = refl
    turned true false = refl
    turned false true = refl
    turned false false = refl

    both : (max : Option ℕ) (side : Side) → is_at side a ≡ is_on s side a.key → (touches s time (events.SetMax max) a && (is_on s side a.key || is_on (set_by s (events.SetMax max)) side a.key)) ≡ (is_at side a && is_cut max a)
    both None sides.List at = turned false (is_on s sides.List a.key) ∙ ap (λ b. b && false) (sym at)
    both None sides.Shelf at = turned false (is_on s sides.Shelf a.key) ∙ ap (λ b. b && false) (sym at)
    both (Some most) sides.List at = turned (nat_lt most (length a.statuses)) (is_on s sides.List a.key) ∙ ap (λ b. b && nat_lt most (length a.statuses)) (sym at)
    both (Some most) sides.Shelf at = turned (nat_lt most (length a.statuses)) (is_on s sides.Shelf a.key) ∙ ap (λ b. b && nat_lt most (length a.statuses)) (sym at)

pub max_side : (s : State) (time : ℕ) (max : Option ℕ) (side : Side) → AllByRecursion (IsMarked s) s.alarms → touches_side s time (events.SetMax max) side ≡ list_any (λ a. is_at side a && is_cut max a) s.alarms
max_side s time max side marked =
    or_false (list_any (λ a. touches s time (events.SetMax max) a && (is_on s side a.key || is_on (set_by s (events.SetMax max)) side a.key)) s.alarms)
    ∙ any_alike (IsMarked s) (λ a. touches s time (events.SetMax max) a && (is_on s side a.key || is_on (set_by s (events.SetMax max)) side a.key)) (λ a. is_at side a && is_cut max a)
    (cut_like s time max side) s.alarms marked

-- ---- another rule

none_by_rule : (s : State) (time : ℕ) (rule : NotifyRule) → list_any (touches s time (events.SetNotify rule)) s.alarms ≡ false
none_by_rule s time rule = none_alike (touches s time (events.SetNotify rule)) (λ a. refl) s.alarms

pub rule_alarms : (s : State) (time : ℕ) (rule : NotifyRule) → alarms_after s time (events.SetNotify rule) ≡ s.alarms
rule_alarms s time rule = alarms_stay s time (events.SetNotify rule) (none_by_rule s time rule) refl

pub rule_side : (s : State) (time : ℕ) (rule : NotifyRule) (side : Side) → touches_side s time (events.SetNotify rule) side ≡ false
rule_side s time rule side = no_side s time (events.SetNotify rule) side (none_by_rule s time rule) refl

-- ---- purges and compressions

pub purge_alarms : (s : State) (time : ℕ) (side : Side) (filter : PurgeFilter) → AllByRecursion (IsMarked s) s.alarms → alarms_after s time (events.Purge side filter) ≡ kept (λ a. not (goes side filter time a)) s.alarms
purge_alarms s time side filter marked =
    let event = events.Purge side filter in
    lives_are s time event refl
    ∙ filter_map_filter (IsMarked s) (life s time event) (goes side filter time)
    (λ a is. ap (λ b. option_map (moved s (after_event s time event) time) (cond (b && purge_takes filter (facts_of a) time) None (Some a))) (sym (at_is_on s side a is))
    ∙ one a (goes side filter time a)) s.alarms marked
  where
    one : (a : AlarmState) (b : Bool) → option_map (moved s (after_event s time (events.Purge side filter)) time) (cond b None (Some a)) ≡ cond b None (Some a)
    one a true = refl
    one a false = ap Some (still s (after_event s time (events.Purge side filter)) time a refl)

pub compress_alarms : (s : State) (time : ℕ) (side : Side) (filter : CompressFilter) → AllByRecursion (IsMarked s) s.alarms → alarms_after s time (events.Compress side filter) ≡ map (compressed side filter) s.alarms
compress_alarms s time side filter marked =
    let event = events.Compress side filter in
    lives_are s time event refl
    ∙ filter_map_map (IsMarked s) (life s time event) (compressed side filter)
    (λ a is. ap (λ b. Some (moved s (after_event s time event) time (cond (b && compress_takes filter a.key) (bounded (Some 1) a) a))) (sym (at_is_on s side a is))
    ∙ ap Some (one a (is_at side a && compress_takes filter a.key))) s.alarms marked
  where
    one : (a : AlarmState) (b : Bool) → moved s (after_event s time (events.Compress side filter)) time (cond b (bounded (Some 1) a) a) ≡ cond b (bounded (Some 1) a) a
    one a true = still s (after_event s time (events.Compress side filter)) time (bounded (Some 1) a) refl
    one a false = still s (after_event s time (events.Compress side filter)) time a refl

-- the side of alarms that an event chooses on one side is that one
side_chosen : (s : State) (chosen side : Side) (t : AlarmState → Bool) (alarms : List AlarmState) → list_any (λ a. is_on s chosen a.key && t a) alarms ≡ true → list_any (λ a. (is_on s chosen a.key && t a) && (is_on s side a.key || is_on s side a.key)) alarms ≡ is_in chosen side
side_chosen s chosen side t alarms any = by chosen side any
  where
    same : (b c : Bool) → ((b && c) && (b || b)) ≡ (b && c)
    same true true = refl
    same true false = refl
    same false c = refl

    other : (b c : Bool) → ((b && c) && (not b || not b)) ≡ false
    other true true = refl
    other true false = refl
    other false c = refl

    another : (b c : Bool) → ((not b && c) && (b || b)) ≡ false
    another true c = refl
    another false true = refl
    another false false = refl

    by : (chosen side : Side) → list_any (λ a. is_on s chosen a.key && t a) alarms ≡ true → list_any (λ a. (is_on s chosen a.key && t a) && (is_on s side a.key || is_on s side a.key)) alarms ≡ is_in chosen side
    by sides.List sides.List any = any_like _ (λ a. is_on s sides.List a.key && t a) (λ a. same (is_on s sides.List a.key) (t a)) alarms ∙ any
    by sides.List sides.Shelf any = none_alike _ (λ a. another (is_on s sides.Shelf a.key) (t a)) alarms
    by sides.Shelf sides.List any = none_alike _ (λ a. other (is_on s sides.Shelf a.key) (t a)) alarms
    by sides.Shelf sides.Shelf any = any_like _ (λ a. is_on s sides.Shelf a.key && t a) (λ a. same (is_on s sides.Shelf a.key) (t a)) alarms ∙ any

pub purge_side : (s : State) (time : ℕ) (chosen : Side) (filter : PurgeFilter) (side : Side) → changes s time (events.Purge chosen filter) ≡ true → touches_side s time (events.Purge chosen filter) side ≡ is_in chosen side
purge_side s time chosen filter side changed =
    or_false (list_any (λ a. touches s time (events.Purge chosen filter) a && (is_on s side a.key || is_on s side a.key)) s.alarms)
    ∙ side_chosen s chosen side (λ a. purge_takes filter (facts_of a) time) s.alarms
    (sym (or_false (list_any (touches s time (events.Purge chosen filter)) s.alarms)) ∙ changed)

pub compress_side : (s : State) (time : ℕ) (chosen : Side) (filter : CompressFilter) (side : Side) → changes s time (events.Compress chosen filter) ≡ true → touches_side s time (events.Compress chosen filter) side ≡ is_in chosen side
compress_side s time chosen filter side changed =
    let p : AlarmState → Bool = touches s time (events.Compress chosen filter) in
    let q : AlarmState → Bool = λ a. is_on s chosen a.key && (compress_takes filter a.key && nat_lt 1 (length a.statuses)) in
    or_false (list_any (λ a. p a && (is_on s side a.key || is_on s side a.key)) s.alarms)
    ∙ any_like (λ a. p a && (is_on s side a.key || is_on s side a.key)) (λ a. q a && (is_on s side a.key || is_on s side a.key))
    (λ a. ap (λ b. b && (is_on s side a.key || is_on s side a.key)) (grouped (is_on s chosen a.key) (compress_takes filter a.key) (nat_lt 1 (length a.statuses)))) s.alarms
    ∙ side_chosen s chosen side (λ a. compress_takes filter a.key && nat_lt 1 (length a.statuses)) s.alarms
    (sym (any_like p q (λ a. grouped (is_on s chosen a.key) (compress_takes filter a.key) (nat_lt 1 (length a.statuses))) s.alarms)
    ∙ sym (or_false (list_any p s.alarms)) ∙ changed)
  where
    grouped : (a b c : Bool) → ((a && b) && c) ≡ (a && (b && c))
    grouped true b c = refl
    grouped false b c = refl
