-- A fact on each alarm, over a step; and a fact on the state, over a legal history.
use Rattle.std.proofs.Common.{Option, None, Some, List, [], ◌∷◌}
use Rattle.std.specs.List.{AllByRecursion, filter, filter_map}
use Rattle.std.specs.Option.{IfSome}
use Rattle.std.specs.Ordering.{is_lt, is_gt}
use Rattle.al_ids.specs.Keys.{key_cmp}
use Rattle.al_model.specs.Alarms.{with_newcomer}
use Rattle.al_model.specs.Events.{after_event, fate, newcomer}
use Rattle.al_model.specs.History.{Fits, IsLegalFrom, replay_from}
use Rattle.al_model.specs.State.{AlarmState, State}
use Rattle.al_model.specs.Step.{moved, step}
use Rattle.al_model.specs.declared.entry.Entry.{Entry}
use Rattle.al_model.proofs.Tools.{all_append, all_filter, all_filter_map, all_map}

pub all_with_newcomer : (P : AlarmState → Type 0) (new : Option AlarmState) (alarms : List AlarmState) → IfSome new P → AllByRecursion P alarms → AllByRecursion P (with_newcomer new alarms)
all_with_newcomer P None alarms h k = k
all_with_newcomer P (Some new) alarms h k =
    all_append P (filter (λ a. is_lt (key_cmp a.key new.key)) alarms) (new ∷ filter (λ a. is_gt (key_cmp a.key new.key)) alarms)
    (all_filter P _ alarms k) (h, all_filter P _ alarms k)

-- What holds of each alarm before a step, of what becomes of it, and of a new one, holds of each alarm after it.
pub each_after : (P Q : AlarmState → Type 0) (s : State) (e : Entry) → ((a : AlarmState) → P a → IfSome (fate s e.time e.event a) (λ b. Q (moved s (after_event s e.time e.event) e.time b))) → IfSome (newcomer s e.time e.event) (λ b. Q (moved s (after_event s e.time e.event) e.time b)) → AllByRecursion P s.alarms → AllByRecursion Q (step s e).alarms
unfolding step
each_after P Q s e fates new all =
    let becomes : AlarmState → Type 0 = λ b. Q (moved s (after_event s e.time e.event) e.time b) in
    all_map (moved s (after_event s e.time e.event) e.time) becomes Q (λ b h. h) (after_event s e.time e.event).alarms
    (all_with_newcomer becomes (newcomer s e.time e.event) (filter_map (fate s e.time e.event) s.alarms) new
    (all_filter_map (fate s e.time e.event) P becomes fates s.alarms all))

-- What each step keeps holds after a legal history.
pub after_legal : (P : State → Type 0) → ((s : State) (e : Entry) → Fits s e → P s → P (step s e)) → (s : State) (h : List Entry) → IsLegalFrom s h → P s → P (replay_from s h)
after_legal P keeps s [] legal p = p
after_legal P keeps s (e ∷ h) legal p = after_legal P keeps (step s e) h legal.1 (keeps s e legal.0 p)
