-- Events of one alarm: what they make of a list in the order of keys, where that alarm's place is known.
use Rattle.std.proofs.Common.{◌≡◌, ℕ, zero, suc, Bool, true, false, ◌&&◌, ◌||◌, List, [], ◌∷◌, map, Option, None, Some, refl, ap, sym, ◌∙◌, subst}
use Rattle.std.specs.List.{AllByRecursion, cons_option, filter_map, list_any, slice_get}
use Rattle.std.specs.List.Sorted.{IsStrictlySortedBy}
use Rattle.std.specs.Option.{option_to_list}
use Rattle.std.specs.Ordering.{is_eq}
use Rattle.std.specs.declared.cmp.Ordering.TheVariants.{Less}
use Rattle.al_ids.proofs.Keyed.{equal_key}
use Rattle.al_ids.specs.Keys.{key_cmp}
use Rattle.al_ids.specs.declared.key.AlarmKey.{AlarmKey}
use Rattle.al_model.specs.Alarms.{is_of, with_newcomer}
use Rattle.al_model.specs.Events.{after_event, fate, newcomer, set_by, touches}
use Rattle.al_model.specs.State.{AlarmState, State, is_on}
use Rattle.al_model.specs.Step.{moved, touches_side}
use Rattle.al_model.specs.Validity.{IsInOrder}
use Rattle.al_model.specs.declared.event.Event.{Event}
use Rattle.al_model.specs.declared.event.Side.{Side}
use Rattle.al_model.proofs.Living.{map-filter_map}
use Rattle.al_model.proofs.Order.{turned}
use Rattle.al_model.proofs.Sameness.{alarms_after}
use Rattle.al_model.proofs.Touched.{life, untouched}
use Rattle.al_contents.specs.Edits.{at_place}

-- ---- alarms of other keys

above_other : (key other : AlarmKey) → key_cmp key other ≡ Less → is_eq (key_cmp other key) ≡ false
above_other key other less = ap is_eq (turned key other Less less)

below_other : (key : AlarmKey) (a : AlarmState) → key_cmp a.key key ≡ Less → is_of key a ≡ false
below_other key a less = ap is_eq less

pub own_key : (key : AlarmKey) (x : AlarmState) → x.key ≡ key → is_of key x ≡ true
own_key key x is = ap is_eq (equal_key x.key key is)

pub all_at : {X : Type 0} (P : X → Type 0) (xs : List X) (i : ℕ) (x : X) → slice_get xs i ≡ Some x → AllByRecursion P xs → P x
all_at P [] i x is h = absurd (cc)
all_at P (y ∷ ys) zero x is h = let first : y ≡ x = cc in subst P first h.0
all_at P (y ∷ ys) (suc i) x is h = all_at P ys i x is h.1

-- ---- what becomes of the list

live_above : (f : AlarmState → Option AlarmState) (key : AlarmKey) (xs : List AlarmState) → AllByRecursion (λ a. key_cmp key a.key ≡ Less) xs → ((a : AlarmState) → is_of key a ≡ false → f a ≡ Some a) → filter_map f xs ≡ xs
live_above f key [] h others = refl
live_above f key (x ∷ xs) h others =
    ap (λ o. cons_option o (filter_map f xs)) (others x (above_other key x.key h.0)) ∙ ap (λ ys. x ∷ ys) (live_above f key xs h.1 others)

-- Where all but the alarm at the place stay, the list changes there.
pub fates_at : (f : AlarmState → Option AlarmState) (g : AlarmState → AlarmState) (xs : List AlarmState) (i : ℕ) (x : AlarmState) → IsInOrder xs → slice_get xs i ≡ Some x → f x ≡ Some (g x) → ((a : AlarmState) → is_of x.key a ≡ false → f a ≡ Some a) → filter_map f xs ≡ at_place i g xs
unfolding IsStrictlySortedBy
fates_at f g [] i x order is here others = absurd (cc)
fates_at f g (y ∷ ys) zero x order is here others =
    let first : y ≡ x = cc in
    let above : AllByRecursion (λ b. key_cmp x.key b.key ≡ Less) ys = subst (λ (a : AlarmState). AllByRecursion (λ b. key_cmp a.key b.key ≡ Less) ys) first order.0 in
    ap (λ a. cons_option (f a) (filter_map f ys)) first ∙ ap (λ o. cons_option o (filter_map f ys)) here
    ∙ ap (λ zs. g x ∷ zs) (live_above f x.key ys above others) ∙ sym (ap (λ a. g a ∷ ys) first)
fates_at f g (y ∷ ys) (suc i) x order is here others =
    let less = all_at (λ b. key_cmp y.key b.key ≡ Less) ys i x is order.0 in
    ap (λ o. cons_option o (filter_map f ys)) (others y (below_other x.key y less)) ∙ ap (λ zs. y ∷ zs) (fates_at f g ys i x order.1 is here others)

none_above : (p : AlarmState → Bool) (key : AlarmKey) (xs : List AlarmState) → AllByRecursion (λ a. key_cmp key a.key ≡ Less) xs → ((a : AlarmState) → is_of key a ≡ false → p a ≡ false) → list_any p xs ≡ false
none_above p key [] h others = refl
none_above p key (x ∷ xs) h others =
    ap (λ b. b || list_any p xs) (others x (above_other key x.key h.0)) ∙ none_above p key xs h.1 others

pub or_false : (b : Bool) → (b || false) ≡ b
or_false true = refl
or_false false = refl

-- Where no other alarm passes the test, any does where the one at the place does.
pub any_at : (p : AlarmState → Bool) (xs : List AlarmState) (i : ℕ) (x : AlarmState) → IsInOrder xs → slice_get xs i ≡ Some x → ((a : AlarmState) → is_of x.key a ≡ false → p a ≡ false) → list_any p xs ≡ p x
unfolding IsStrictlySortedBy
any_at p [] i x order is others = absurd (cc)
any_at p (y ∷ ys) zero x order is others =
    let first : y ≡ x = cc in
    let above : AllByRecursion (λ b. key_cmp x.key b.key ≡ Less) ys = subst (λ (a : AlarmState). AllByRecursion (λ b. key_cmp a.key b.key ≡ Less) ys) first order.0 in
    ap (λ a. p a || list_any p ys) first ∙ ap (λ b. p x || b) (none_above p x.key ys above others) ∙ or_false (p x)
any_at p (y ∷ ys) (suc i) x order is others =
    let less = all_at (λ b. key_cmp y.key b.key ≡ Less) ys i x is order.0 in
    ap (λ b. b || list_any p ys) (others y (below_other x.key y less)) ∙ any_at p ys i x order.1 is others

-- ---- what becomes of the alarms and of both sides

-- An event that touches the alarm at the place, and no other.
pub record IsOfOne (s : State) (time : ℕ) (event : Event) (i : ℕ) (x : AlarmState) : Type 0 where
  pub stands : slice_get s.alarms i ≡ Some x
  pub none_new : newcomer s time event ≡ None
  pub touched : touches s time event x ≡ true
  pub others : (a : AlarmState) → is_of x.key a ≡ false → touches s time event a ≡ false

pub one_alarm : (s : State) (time : ℕ) (event : Event) (i : ℕ) (x : AlarmState) (g : AlarmState → AlarmState) → IsInOrder s.alarms → IsOfOne s time event i x → life s time event x ≡ Some (g x) → alarms_after s time event ≡ at_place i g s.alarms
one_alarm s time event i x g order one here =
    ap (λ o. map (moved s (after_event s time event) time) (with_newcomer o (filter_map (fate s time event) s.alarms))) one.none_new
    ∙ map-filter_map (moved s (after_event s time event) time) (fate s time event) s.alarms
    ∙ fates_at (life s time event) g s.alarms i x order one.stands here (λ a h. untouched s time event a (one.others a h))

pub one_side : (s : State) (time : ℕ) (event : Event) (i : ℕ) (x : AlarmState) (side : Side) → IsInOrder s.alarms → IsOfOne s time event i x → is_on (set_by s event) side x.key ≡ is_on s side x.key → touches_side s time event side ≡ is_on s side x.key
one_side s time event i x side order one same =
    ap (λ o. list_any test s.alarms || list_any (λ a. is_on s side a.key) (option_to_list o)) one.none_new ∙ or_false (list_any test s.alarms)
    ∙ any_at test s.alarms i x order one.stands (λ a h. ap (λ b. b && (is_on s side a.key || is_on (set_by s event) side a.key)) (one.others a h))
    ∙ ap (λ b. b && (is_on s side x.key || is_on (set_by s event) side x.key)) one.touched ∙ ap (λ b. is_on s side x.key || b) same ∙ twice (is_on s side x.key)
  where
    test : AlarmState → Bool
    test a = touches s time event a && (is_on s side a.key || is_on (set_by s event) side a.key)

    twice : (b : Bool) → (b || b) ≡ b
    twice true = refl
    twice false = refl
