-- The verdict on a request, point by point, is the decision on it.
use Rattle.std.proofs.Common.{◌≡◌, ℕ, ◌≤◌, ◌||◌, Bool, true, false, not, Option, None, Some, length, refl, sym, ap, ◌∙◌, subst, arith}
use Rattle.std.specs.Bool.{Decides, nat_le, nat_lt}
use Rattle.std.specs.List.{slice_get}
use Rattle.std.specs.Option.{IfSome, is_none, is_some, option_copied, option_map, option_or, unwrap_or}
use Rattle.std.proofs.lemmas.Bool.{le-leb}
use denote.Ref.{Bor}
use Rattle.al_base.specs.Limits.{most_alarms, most_shelves}
use Rattle.al_model.specs.Decision.{changes, decided, decision_of, entry_time, event_of, full, missing, reply_of, undeclared}
use Rattle.al_model.specs.Events.{newcomer, set_by}
use Rattle.al_model.specs.Sames.{same_rule}
use Rattle.al_model.specs.State.{State}
use Rattle.al_model.specs.declared.decision.Reply.TheVariants.{Done}
use Rattle.al_model.specs.declared.event.Event.TheVariants as events
use Rattle.al_notify.specs.declared.rule.NotifyRule.{NotifyRule}
use Rattle.al_shelf.specs.Places.{AreShelves, place_of, without}
use Rattle.al_shelf.specs.declared.shelf.Shelf.{Shelf}
use Rattle.al_model.specs.declared.decision.Refusal.{Refusal}
use Rattle.al_model.specs.declared.decision.Reply.{Reply}
use Rattle.al_model.specs.declared.event.Event.{Event}
use Rattle.al_model.specs.declared.request.Request.{Request}
use Rattle.al_lists.specs.Verdicts.{judged, room_for, verdict_at, with_event}
use Rattle.al_lists.specs.declared.verdict.Verdict.TheVariants.{Refuse}
use Rattle.al_lists.proofs.Changing.{put_changes, rule_changes}
use Rattle.al_lists.proofs.Shelving.{put_fits, put_same}

judged_decides : (event : Event) (refused : Option Refusal) (changing : Bool) (room : Option Refusal) (reply : Reply) → with_event event (judged refused changing room reply) ≡ decided refused changing room event reply
judged_decides event (Some refusal) changing room reply = refl
judged_decides event None false room reply = refl
judged_decides event None true (Some refusal) reply = refl
judged_decides event None true None reply = refl

pub verdict_decides : (s : State) (request : Request) (now : ℕ) → with_event (event_of s request) (verdict_at s (entry_time s now) request) ≡ decision_of s request now
unfolding verdict_at decision_of
verdict_decides s request now =
    let time = entry_time s now in
    let event = event_of s request in
    judged_decides event (option_or (missing s request) (undeclared s request)) (changes s time event) (full s time event) (reply_of s time request)

-- what a request is about isn't there, or isn't allowed
pub refused_is : (s : State) (time : ℕ) (request : Request) (refusal : Refusal) → option_or (missing s request) (undeclared s request) ≡ Some refusal → Refuse refusal ≡ verdict_at s time request
unfolding verdict_at
refused_is s time request refusal is =
    ap (λ (o : Option Refusal). judged o (changes s time (event_of s request)) (full s time (event_of s request)) (reply_of s time request)) (sym is)

-- each point on its own
pub record HasPoints (s : State) (time : ℕ) (request : Request) (refused : Option Refusal) (changing alarms_fit shelves_fit : Bool) (reply : Reply) : Type 0 where
  pub refused_is : refused ≡ option_or (missing s request) (undeclared s request)
  pub changing_is : changing ≡ changes s time (event_of s request)
  pub alarms_is : alarms_fit ≡ (is_none (newcomer s time (event_of s request)) || nat_lt (length s.alarms) most_alarms)
  pub shelves_is : shelves_fit ≡ nat_le (length (set_by s (event_of s request)).shelves) most_shelves
  pub reply_is : reply ≡ reply_of s time request

pub verdict_is : (s : State) (time : ℕ) (request : Request) (refused : Option Refusal) (changing alarms_fit shelves_fit : Bool) (reply : Reply) → HasPoints s time request refused changing alarms_fit shelves_fit reply → judged refused changing (room_for alarms_fit shelves_fit s.time) reply ≡ verdict_at s time request
unfolding verdict_at
verdict_is s time request refused changing alarms_fit shelves_fit reply h =
    let event = event_of s request in
    let first = option_or (missing s request) (undeclared s request) in
    ap (λ (o : Option Refusal). judged o changing (room_for alarms_fit shelves_fit s.time) reply) h.refused_is
    ∙ ap (λ (b : Bool). judged first b (room_for alarms_fit shelves_fit s.time) reply) h.changing_is
    ∙ ap (λ (b : Bool). judged first (changes s time event) (room_for b shelves_fit s.time) reply) h.alarms_is
    ∙ ap (λ (b : Bool). judged first (changes s time event) (room_for (is_none (newcomer s time event) || nat_lt (length s.alarms) most_alarms) b s.time) reply) h.shelves_is
    ∙ ap (λ (r : Reply). judged first (changes s time event) (full s time event) r) h.reply_is

-- ---- parts of the answers

-- there are few enough
pub few_fit : (n most : ℕ) → n ≤ most → true ≡ nat_le n most
few_fit n most le = sym (le-leb n most le)

-- a reference that is there, and what it points to
pub none_copied : {X Y : Type 0} (f : X → Y) (o : Option (Bor X)) → is_none o ≡ is_none (option_map f (option_copied o))
none_copied f None = refl
none_copied f (Some x) = refl

-- what `is_none` answers
pub none_by : {X : Type 0} (o : Option X) (b : Bool) → is_some o ≡ not b → b ≡ is_none o
none_by None true h = refl
none_by None false h = absurd (cc)
none_by (Some x) true h = absurd (cc)
none_by (Some x) false h = refl

-- a change without refusals for what it is about, of whatever alarms there are
pub record IsPlain (s : State) (time : ℕ) (request : Request) (changing : Bool) (reply : Reply) : Type 0 where
  pub exists : option_or (missing s request) (undeclared s request) ≡ None
  pub changing_is : changing ≡ changes s time (event_of s request)
  pub no_newcomer : newcomer s time (event_of s request) ≡ None
  pub few : length (set_by s (event_of s request)).shelves ≤ most_shelves
  pub reply_is : reply ≡ reply_of s time request

pub plain_verdict : (s : State) (time : ℕ) (request : Request) (changing : Bool) (reply : Reply) → IsPlain s time request changing reply → judged None changing (room_for true true s.time) reply ≡ verdict_at s time request
plain_verdict s time request changing reply h =
    verdict_is s time request None changing true true reply (record {
      refused_is = sym h.exists;
      changing_is = h.changing_is;
      alarms_is = sym (ap (λ o. is_none o || nat_lt (length s.alarms) most_alarms) h.no_newcomer);
      shelves_is = few_fit (length (set_by s (event_of s request)).shelves) most_shelves h.few;
      reply_is = h.reply_is;
    })

-- a new rule of notifications
pub rule_verdict : (s : State) (time : ℕ) (request : Request) (rule : NotifyRule) → event_of s request ≡ events.SetNotify rule → option_or (missing s request) (undeclared s request) ≡ None → reply_of s time request ≡ Done → length s.shelves ≤ most_shelves → judged None (not (same_rule s.rule rule)) (room_for true true s.time) Done ≡ verdict_at s time request
rule_verdict s time request rule is exists done few =
    plain_verdict s time request (not (same_rule s.rule rule)) Done (record {
      exists = exists;
      changing_is = sym (rule_changes s time rule) ∙ sym (ap (changes s time) is);
      no_newcomer = ap (newcomer s time) is;
      few = subst (λ event. length (set_by s event).shelves ≤ most_shelves) (sym is) few;
      reply_is = sym done;
    })

-- a shelf that is to stand at a position, among others that are there
pub place_verdict : (s : State) (time : ℕ) (request : Request) (shelf : Shelf) (place : ℕ) (reply : Reply) → event_of s request ≡ events.PutShelf shelf place → option_or (missing s request) (undeclared s request) ≡ None → reply ≡ reply_of s time request → judged None (changes s time (events.PutShelf shelf place)) (full s time (events.PutShelf shelf place)) reply ≡ verdict_at s time request
unfolding verdict_at
place_verdict s time request shelf place reply is exists answers =
    ap (λ event. judged None (changes s time event) (full s time event) reply) (sym is)
    ∙ ap (λ o. judged o (changes s time (event_of s request)) (full s time (event_of s request)) reply) (sym exists)
    ∙ ap (λ r. judged (option_or (missing s request) (undeclared s request)) (changes s time (event_of s request)) (full s time (event_of s request)) r) answers

pub place_judged : (s : State) (time : ℕ) (shelf : Shelf) (place : ℕ) (there fits : Bool) (reply : Reply) → AreShelves s.shelves → place ≤ length (without shelf.name s.shelves) → Decides there (slice_get s.shelves place ≡ Some shelf) → fits ≡ (is_some (place_of shelf.name s.shelves) || nat_lt (length s.shelves) most_shelves) → judged None (not there) (room_for true fits s.time) reply ≡ judged None (changes s time (events.PutShelf shelf place)) (full s time (events.PutShelf shelf place)) reply
place_judged s time shelf place there fits reply sound within stands fits_is =
    ap (λ b. judged None b (room_for true fits s.time) reply) (sym (put_changes s time shelf place ∙ ap not (put_same shelf s.shelves place there sound within stands)))
    ∙ ap (λ b. judged None (changes s time (events.PutShelf shelf place)) (room_for true b s.time) reply) (fits_is ∙ put_fits shelf s.shelves place sound within)

-- the positions of spots are small
pub spot_small : (place : Option ℕ) (n : ℕ) → IfSome place (λ p. p ≤ n) → n ≤ most_shelves → unwrap_or place 0 ≤ most_shelves
spot_small None n h few = omega arith
spot_small (Some p) n h few = omega arith
