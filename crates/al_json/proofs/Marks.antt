-- Alarms of a valid state are marked with the shelf that takes them.
use Rattle.std.proofs.Common.{◌≡◌, ℕ, zero, suc, Bool, true, false, cond, List, [], ◌∷◌, Some, subst}
use Rattle.std.specs.List.{AllByRecursion, filter, find, slice_get}
use Rattle.al_ids.specs.declared.key.AlarmKey.{AlarmKey}
use Rattle.al_model.specs.Alarms.{alarm_of, is_of}
use Rattle.al_model.specs.State.{AlarmState, State, alarms_on, is_on}
use Rattle.al_model.specs.Validity.{IsMarked, IsValid}
use Rattle.al_model.specs.declared.event.Side.{Side}
use Rattle.al_model.proofs.Validity.{marked_alarms}

all_filtered : {X : Type 0} (P : X → Type 0) (p : X → Bool) (xs : List X) → AllByRecursion P xs → AllByRecursion P (filter p xs)
all_filtered P p [] h = h
all_filtered {X} P p (x ∷ xs) h = by (p x) (all_filtered P p xs h.1)
  where
    by : (b : Bool) → AllByRecursion P (filter p xs) → AllByRecursion P (cond b (x ∷ filter p xs) (filter p xs))
    by true more = (h.0, more)
    by false more = more

at_all : {X : Type 0} (P : X → Type 0) (xs : List X) (i : ℕ) (x : X) → AllByRecursion P xs → slice_get xs i ≡ Some x → P x
at_all P [] i x h is = absurd (cc)
at_all P (y ∷ ys) zero x h is = let same : y ≡ x = cc in subst P same h.0
at_all P (y ∷ ys) (suc i) x h is = at_all P ys i x h.1 is

found_all : {X : Type 0} (P : X → Type 0) (p : X → Bool) (xs : List X) (x : X) → AllByRecursion P xs → find p xs ≡ Some x → P x
found_all P p [] x h is = absurd (cc)
found_all {X} P p (y ∷ ys) x h is = by (p y) is (found_all P p ys x h.1)
  where
    by : (b : Bool) → cond b (Some y) (find p ys) ≡ Some x → (find p ys ≡ Some x → P x) → P x
    by true e more = let same : y ≡ x = cc in subst P same h.0
    by false e more = more e

pub at_marked : (s : State) (side : Side) (i : ℕ) (a : AlarmState) → IsValid s → slice_get (alarms_on s side) i ≡ Some a → IsMarked s a
at_marked s side i a valid is =
    at_all (IsMarked s) (alarms_on s side) i a (all_filtered (IsMarked s) (λ a. is_on s side a.key) s.alarms (marked_alarms s valid)) is

pub found_marked : (s : State) (side : Side) (key : AlarmKey) (a : AlarmState) → IsValid s → alarm_of key (alarms_on s side) ≡ Some a → IsMarked s a
found_marked s side key a valid is =
    found_all (IsMarked s) (is_of key) (alarms_on s side) a (all_filtered (IsMarked s) (λ a. is_on s side a.key) s.alarms (marked_alarms s valid)) is
