-- Alarms stand in the order of their keys.
use Rattle.std.proofs.Common.{◌≡◌, Bool, true, Option, None, Some, List, [], ◌∷◌, ◌++◌, map, refl, sym, ap, ◌∙◌, subst}
use Rattle.std.specs.Cmp.Lexicographic.{on_texts}
use Rattle.std.specs.Cmp.{IsTotalOrder}
use Rattle.std.specs.List.{AllByRecursion, cons_option, filter, filter_map}
use Rattle.std.specs.List.Sorted.{IsStrictlySortedBy}
use Rattle.std.specs.Option.{IfSome}
use Rattle.std.specs.Ordering.{is_lt, is_gt, ordering_reverse}
use Rattle.std.specs.declared.cmp.Ordering.{Ordering}
use Rattle.std.specs.declared.cmp.Ordering.TheVariants.{Less, Equal, Greater}
use Rattle.std.proofs.lemmas.Cmp.{then_total}
use Rattle.std.proofs.lemmas.List.Kept.{IsStrictlySortedBy-filter}
use Rattle.al_ids.specs.Keys.{key_cmp}
use Rattle.al_ids.specs.declared.key.AlarmKey.{AlarmKey}
use Rattle.al_model.specs.Alarms.{with_newcomer}
use Rattle.al_model.specs.Events.{after_event, fate, newcomer}
use Rattle.al_model.specs.State.{AlarmState, State}
use Rattle.al_model.specs.Step.{moved, step}
use Rattle.al_model.specs.Validity.{IsInOrder}
use Rattle.al_model.specs.declared.entry.Entry.{Entry}
use Rattle.al_model.proofs.Moves.{fate_key, moved_key}
use Rattle.al_model.proofs.Tools.{all_append, all_weaker, either}

pub keys_total : IsTotalOrder key_cmp
keys_total = then_total (on_texts (λ (k : AlarmKey). k.resource)) (then_total (on_texts (λ (k : AlarmKey). k.type_id)) (on_texts (λ (k : AlarmKey). k.qualifier)))

-- what is below and above
pub lower_is : (o : Ordering) → is_lt o ≡ true → o ≡ Less
lower_is Less h = refl
lower_is Equal h = absurd (cc)
lower_is Greater h = absurd (cc)

pub upper_is : (o : Ordering) → is_gt o ≡ true → o ≡ Greater
upper_is Less h = absurd (cc)
upper_is Equal h = absurd (cc)
upper_is Greater h = refl

pub turned : (a b : AlarmKey) (o : Ordering) → key_cmp a b ≡ o → key_cmp b a ≡ ordering_reverse o
turned a b o is = keys_total.antisymm b a ∙ ap ordering_reverse is

-- what a filter keeps has what the test gives
pub filtered : {X : Type 0} (p : X → Bool) (P : X → Type 0) → ((x : X) → p x ≡ true → P x) → (xs : List X) → AllByRecursion P (filter p xs)
filtered p P h [] = tt
filtered p P h (x ∷ xs) =
    either (AllByRecursion P) (p x) (x ∷ filter p xs) (filter p xs) (λ is. (h x is, filtered p P h xs)) (λ _. filtered p P h xs)

-- two lists in order, and one between them
in_order_around : (xs : List AlarmState) (a : AlarmState) (ys : List AlarmState) → IsInOrder xs → AllByRecursion (λ x. key_cmp x.key a.key ≡ Less) xs → IsInOrder ys → AllByRecursion (λ y. key_cmp a.key y.key ≡ Less) ys → IsInOrder (xs ++ a ∷ ys)
unfolding IsStrictlySortedBy
in_order_around [] a ys sx hx sy hy = (hy, sy)
in_order_around (x ∷ xs) a ys sx hx sy hy = (
  all_append (λ y. key_cmp x.key y.key ≡ Less) xs (a ∷ ys) sx.0
      (hx.0, all_weaker (λ y. key_cmp a.key y.key ≡ Less) (λ y. key_cmp x.key y.key ≡ Less) (λ y h. keys_total.trans x.key a.key y.key hx.0 h) ys hy),
  in_order_around xs a ys sx.1 hx.1 sy hy,
)

pub in_order_with : (new : Option AlarmState) (alarms : List AlarmState) → IsInOrder alarms → IsInOrder (with_newcomer new alarms)
in_order_with None alarms h = h
in_order_with (Some new) alarms h =
    in_order_around (filter (λ a. is_lt (key_cmp a.key new.key)) alarms) new (filter (λ a. is_gt (key_cmp a.key new.key)) alarms)
    (IsStrictlySortedBy-filter _ _ alarms h)
    (filtered _ (λ x. key_cmp x.key new.key ≡ Less) (λ x e. lower_is (key_cmp x.key new.key) e) alarms)
    (IsStrictlySortedBy-filter _ _ alarms h)
    (filtered _ (λ y. key_cmp new.key y.key ≡ Less) (λ y e. turned y.key new.key Greater (upper_is (key_cmp y.key new.key) e)) alarms)

-- what leaves keys leaves the order
above_map : (key : AlarmKey) (f : AlarmState → AlarmState) → ((a : AlarmState) → (f a).key ≡ a.key) → (xs : List AlarmState) → AllByRecursion (λ y. key_cmp key y.key ≡ Less) xs → AllByRecursion (λ y. key_cmp key y.key ≡ Less) (map f xs)
above_map key f same [] h = tt
above_map key f same (x ∷ xs) h = (ap (key_cmp key) (same x) ∙ h.0, above_map key f same xs h.1)

in_order_map : (f : AlarmState → AlarmState) → ((a : AlarmState) → (f a).key ≡ a.key) → (xs : List AlarmState) → IsInOrder xs → IsInOrder (map f xs)
unfolding IsStrictlySortedBy
in_order_map f same [] h = tt
in_order_map f same (x ∷ xs) h =
    (subst (λ key. AllByRecursion (λ y. key_cmp key y.key ≡ Less) (map f xs)) (sym (same x)) (above_map x.key f same xs h.0), in_order_map f same xs h.1)

pub above_filter_map : (key : AlarmKey) (f : AlarmState → Option AlarmState) → ((a : AlarmState) → IfSome (f a) (λ b. b.key ≡ a.key)) → (xs : List AlarmState) → AllByRecursion (λ y. key_cmp key y.key ≡ Less) xs → AllByRecursion (λ y. key_cmp key y.key ≡ Less) (filter_map f xs)
above_filter_map key f same [] h = tt
above_filter_map key f same (x ∷ xs) h = by (f x) (same x) (above_filter_map key f same xs h.1)
  where
    by : (o : Option AlarmState) → IfSome o (λ b. b.key ≡ x.key) → AllByRecursion (λ y. key_cmp key y.key ≡ Less) (filter_map f xs) → AllByRecursion (λ y. key_cmp key y.key ≡ Less) (cons_option o (filter_map f xs))
    by None is more = more
    by (Some b) is more = (ap (key_cmp key) is ∙ h.0, more)

in_order_filter_map : (f : AlarmState → Option AlarmState) → ((a : AlarmState) → IfSome (f a) (λ b. b.key ≡ a.key)) → (xs : List AlarmState) → IsInOrder xs → IsInOrder (filter_map f xs)
unfolding IsStrictlySortedBy
in_order_filter_map f same [] h = tt
in_order_filter_map f same (x ∷ xs) h = by (f x) (same x) (in_order_filter_map f same xs h.1)
  where
    by : (o : Option AlarmState) → IfSome o (λ b. b.key ≡ x.key) → IsInOrder (filter_map f xs) → IsInOrder (cons_option o (filter_map f xs))
    by None is more = more
    by (Some b) is more =
        (subst (λ key. AllByRecursion (λ y. key_cmp key y.key ≡ Less) (filter_map f xs)) (sym is) (above_filter_map x.key f same xs h.0), more)

pub step_order : (s : State) (e : Entry) → IsInOrder s.alarms → IsInOrder (step s e).alarms
unfolding step
step_order s e h =
    let after = after_event s e.time e.event in
    in_order_map (moved s after e.time) (moved_key s after e.time) after.alarms
    (in_order_with (newcomer s e.time e.event) (filter_map (fate s e.time e.event) s.alarms)
    (in_order_filter_map (fate s e.time e.event) (fate_key s e.time e.event) s.alarms h))

pub none_in_order : IsInOrder []
unfolding IsStrictlySortedBy
none_in_order = tt
