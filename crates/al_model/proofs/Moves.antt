-- What moves an alarm, and what leaves it.
use Rattle.std.proofs.Common.{◌≡◌, ℕ, true, cond, Option, None, Some, refl, sym, ap, ◌∙◌, subst}
use Rattle.std.specs.Cmp.Lexicographic.{bytes_decides}
use Rattle.std.specs.Option.{IfSome}
use Rattle.std.specs.Ordering.{is_eq}
use Rattle.std.specs.declared.cmp.Ordering.{Ordering}
use Rattle.std.specs.declared.cmp.Ordering.TheVariants.{Less, Equal, Greater}
use Rattle.al_base.specs.declared.operator.OperatorState.TheVariants.{Shelved}
use Rattle.al_base.specs.declared.severity.Status.{Status}
use Rattle.al_base.specs.declared.severity.Status.TheVariants.{Cleared, Active}
use Rattle.al_base.specs.declared.text.Text.{Text}
use Rattle.al_ids.proofs.Keyed.{exact_key}
use Rattle.al_ids.specs.Keys.{key_cmp}
use Rattle.al_ids.specs.declared.key.AlarmKey.{AlarmKey}
use Rattle.al_base.specs.Texts.{same_text}
use Rattle.al_model.specs.Alarms.{bounded, is_of, move_entry, own_entry, reported, with_operator}
use Rattle.al_model.specs.Events.{fate}
use Rattle.al_model.specs.State.{AlarmState, State, shelf_name}
use Rattle.al_model.specs.Step.{moved}
use Rattle.al_model.specs.declared.entry.OperatorEntry.{OperatorEntry}
use Rattle.al_model.specs.declared.event.Event.{Event}
use Rattle.al_model.specs.declared.event.Event.TheVariants as events
use Rattle.al_model.proofs.Tools.{either}

-- a text is the same as itself, and no other
pub same_itself : (x : Text) → same_text x x ≡ true
same_itself x = (bytes_decides x x).1 refl

pub same_is : (x y : Text) → same_text x y ≡ true → x ≡ y
same_is x y h = (bytes_decides x y).0 h

equal_from : (o : Ordering) → is_eq o ≡ true → o ≡ Equal
equal_from Less h = absurd (cc)
equal_from Equal h = refl
equal_from Greater h = absurd (cc)

-- an alarm of a key has just this key
pub of_key : (key : AlarmKey) (a : AlarmState) → is_of key a ≡ true → a.key ≡ key
of_key key a h = exact_key a.key key (equal_from (key_cmp a.key key) h)

-- ---- moves

pub no_move : (time : ℕ) (name : Option Text) → move_entry time name name ≡ None
no_move time None = refl
no_move time (Some name) = ap (λ b. cond b None (Some (own_entry time Shelved name))) (same_itself name)

-- what holds of an alarm holds where its first shelf stays
pub unmoved : (P : AlarmState → Type 0) (before after : State) (time : ℕ) (a : AlarmState) → shelf_name before a.key ≡ shelf_name after a.key → P a → P (moved before after time a)
unmoved P before after time a same h =
    subst (λ m. P (with_operator m a)) (sym (no_move time (shelf_name before a.key)) ∙ ap (move_entry time (shelf_name before a.key)) same) h

pub operated_key : (m : Option OperatorEntry) (a : AlarmState) → (with_operator m a).key ≡ a.key
operated_key None a = refl
operated_key (Some e) a = refl

pub moved_key : (before after : State) (time : ℕ) (a : AlarmState) → (moved before after time a).key ≡ a.key
moved_key before after time a = operated_key (move_entry time (shelf_name before a.key) (shelf_name after a.key)) a

-- ---- what an event leaves of an alarm

pub reported_key : (max : Option ℕ) (time : ℕ) (status : Status) (text : Text) (a : AlarmState) → (reported max time status text a).key ≡ a.key
reported_key max time (Active severity) text a = refl
reported_key max time Cleared text a = refl

-- its key
pub fate_key : (s : State) (time : ℕ) (event : Event) (a : AlarmState) → IfSome (fate s time event a) (λ b. b.key ≡ a.key)
fate_key s time (events.Report key status text) a =
    either (λ b. b.key ≡ a.key) _ (reported s.max time status text a) a (λ _. reported_key s.max time status text a) (λ _. refl)
fate_key s time (events.Operate key state operator text) a =
    either (λ b. b.key ≡ a.key) (is_of key a) (with_operator (Some (record { time = time; state = state; operator = operator; text = text })) a) a (λ _. refl) (λ _. refl)
fate_key s time (events.SetMax max) a = refl
fate_key s time (events.SetNotify rule) a = refl
fate_key s time (events.PutShelf shelf at) a = refl
fate_key s time (events.DropShelf name) a = refl
fate_key s time (events.Purge side filter) a = either (λ o. IfSome o (λ b. b.key ≡ a.key)) _ None (Some a) (λ _. tt) (λ _. refl)
fate_key s time (events.Compress side filter) a = either (λ b. b.key ≡ a.key) _ (bounded (Some 1) a) a (λ _. refl) (λ _. refl)
fate_key s time (events.Install inventory) a = refl
