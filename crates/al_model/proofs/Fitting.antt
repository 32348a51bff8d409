-- What it tells of an entry that it fits.
use Rattle.std.proofs.Common.{◌≡◌, ℕ, ◌<◌, Bool, true, false, Option, None, Some, refl, subst, arith}
use Rattle.std.specs.Option.{option_or}
use Rattle.al_model.specs.Decision.{changes, decided, decision_of, entry_time, event_of, full, missing, reply_of, undeclared}
use Rattle.al_model.specs.History.{Fits}
use Rattle.al_model.specs.State.{State}
use Rattle.al_model.specs.declared.decision.Decision.TheVariants.{Change}
use Rattle.al_model.specs.declared.decision.Refusal.{Refusal}
use Rattle.al_model.specs.declared.decision.Reply.{Reply}
use Rattle.al_model.specs.declared.entry.Entry.{Entry}
use Rattle.al_model.specs.declared.event.Event.{Event}
use Rattle.al_model.specs.declared.request.Request.{Request}

-- a decision that is a change by this event
pub record IsChange (refused : Option Refusal) (changing : Bool) (room : Option Refusal) (event : Event) (reply : Reply) (made : Event) (gives : Reply) : Type 0 where
  pub allowed : refused ≡ None
  pub changed : changing ≡ true
  pub bounded : room ≡ None
  pub made_is : event ≡ made
  pub gives_is : reply ≡ gives

pub change_is : (refused : Option Refusal) (changing : Bool) (room : Option Refusal) (event : Event) (reply : Reply) (made : Event) (gives : Reply) → decided refused changing room event reply ≡ Change made gives → IsChange refused changing room event reply made gives
change_is (Some r) changing room event reply made gives h = absurd (cc)
change_is None false room event reply made gives h = absurd (cc)
change_is None true (Some r) event reply made gives h = absurd (cc)
change_is None true None event reply made gives h = record { allowed = refl; changed = refl; bounded = refl; made_is = cc; gives_is = cc }

pub changes_to : (refused : Option Refusal) (changing : Bool) (room : Option Refusal) (event : Event) (reply : Reply) → refused ≡ None → changing ≡ true → room ≡ None → decided refused changing room event reply ≡ Change event reply
changes_to (Some r) changing room event reply a b c = absurd (cc)
changes_to None false room event reply a b c = absurd (cc)
changes_to None true (Some r) event reply a b c = absurd (cc)
changes_to None true None event reply a b c = refl

-- the entry's time is that of the decision
pub time_stays : (s : State) (time : ℕ) → s.time < time → entry_time s time ≡ time
time_stays s time later = omega arith

-- what is known of an entry that fits
pub record Fitting (s : State) (e : Entry) (request : Request) : Type 0 where
  pub exists : missing s request ≡ None
  pub is_declared : undeclared s request ≡ None
  pub changed : changes s e.time e.event ≡ true
  pub room : full s e.time e.event ≡ None
  pub event_is : event_of s request ≡ e.event

none_first : {X : Type 0} (a b : Option X) → option_or a b ≡ None → (a ≡ None) × (b ≡ None)
none_first None b h = (refl, h)
none_first (Some x) b h = absurd (cc)

pub fitting : (s : State) (e : Entry) (f : Fits s e) → Fitting s e f.request
unfolding decision_of
fitting s e f =
    let time = entry_time s e.time in
    let event = event_of s f.request in
    let change = change_is (option_or (missing s f.request) (undeclared s f.request)) (changes s time event) (full s time event) event (reply_of s time f.request) e.event f.reply f.decided in
    let allowed = none_first (missing s f.request) (undeclared s f.request) change.allowed in
    let at : time ≡ e.time = time_stays s e.time f.later in
    record {
      exists = allowed.0;
      is_declared = allowed.1;
      changed = subst (λ t. changes s t e.event ≡ true) at (subst (λ v. changes s time v ≡ true) change.made_is change.changed);
      room = subst (λ t. full s t e.event ≡ None) at (subst (λ v. full s time v ≡ None) change.made_is change.bounded);
      event_is = change.made_is;
    }
