-- Histories of two parts, and of one more entry.
use Rattle.std.proofs.Common.{◌≡◌, ℕ, ◌≤◌, zero, suc, Some, List, [], ◌∷◌, ◌++◌, take, refl, subst}
use Rattle.std.specs.List.{AllByRecursion, slice_get}
use Rattle.std.proofs.lemmas.Option.{same_Some}
use Rattle.al_base.specs.Limits.{last_stamp}
use Rattle.al_model.specs.History.{Fits, IsLegal, IsLegalFrom, replay, replay_from}
use Rattle.al_model.specs.Limits.{IsEntryWithin}
use Rattle.al_model.specs.State.{State, start}
use Rattle.al_model.specs.Step.{step}
use Rattle.al_model.specs.declared.entry.Entry.{Entry}

pub replay_from-append : (s : State) (h k : List Entry) → replay_from s (h ++ k) ≡ replay_from (replay_from s h) k
replay_from-append s [] k = refl
replay_from-append s (e ∷ h) k = replay_from-append (step s e) h k

-- one more entry is one more step
pub replay-push : (h : List Entry) (e : Entry) → replay (h ++ e ∷ []) ≡ step (replay h) e
replay-push h e = replay_from-append start h (e ∷ [])

pub legal_parts : (s : State) (h k : List Entry) → IsLegalFrom s (h ++ k) → IsLegalFrom s h × IsLegalFrom (replay_from s h) k
legal_parts s [] k l = (tt, l)
legal_parts s (e ∷ h) k l = let more = legal_parts (step s e) h k l.1 in ((l.0, more.0), more.1)

pub legal_append : (s : State) (h k : List Entry) → IsLegalFrom s h → IsLegalFrom (replay_from s h) k → IsLegalFrom s (h ++ k)
legal_append s [] k a b = b
legal_append s (e ∷ h) k a b = (a.0, legal_append (step s e) h k a.1 b)

-- An entry that fits goes on with a legal history.
pub legal_push : (h : List Entry) (e : Entry) → IsLegal h → Fits (replay h) e → IsLegal (h ++ e ∷ [])
legal_push h e l f = legal_append start h (e ∷ []) l (f, tt)

-- each entry of a legal history fits what is before it
pub legal_at : (s : State) (h : List Entry) → IsLegalFrom s h → (n : ℕ) (e : Entry) → slice_get h n ≡ Some e → Fits (replay_from s (take n h)) e
legal_at s [] l n e at = cc
legal_at s (x ∷ h) l zero e at = subst (λ y. Fits s y) (same_Some x e at) l.0
legal_at s (x ∷ h) l (suc n) e at = legal_at (step s x) h l.1 n e at

-- where each does, the history is legal
pub legal_from_each : (s : State) (h : List Entry) → ((n : ℕ) (e : Entry) → slice_get h n ≡ Some e → Fits (replay_from s (take n h)) e) → IsLegalFrom s h
legal_from_each s [] each = tt
legal_from_each s (x ∷ h) each = (each zero x refl, legal_from_each (step s x) h (λ n e at. each (suc n) e at))

-- a front of a legal history is legal
pub legal_take : (s : State) (h : List Entry) (n : ℕ) → IsLegalFrom s h → IsLegalFrom s (take n h)
legal_take s h zero l = tt
legal_take s [] (suc n) l = tt
legal_take s (e ∷ h) (suc n) l = (l.0, legal_take (step s e) h n l.1)

-- ---- limits

pub all_within : (s : State) (h : List Entry) → IsLegalFrom s h → AllByRecursion IsEntryWithin h
all_within s [] l = tt
all_within s (e ∷ h) l = (l.0.within, all_within (step s e) h l.1)

pub time_from : (s : State) (h : List Entry) → s.time ≤ last_stamp → IsLegalFrom s h → (replay_from s h).time ≤ last_stamp
unfolding step
time_from s [] t l = t
time_from s (e ∷ h) t l = time_from (step s e) h l.0.within.time l.1
