-- What is to become of a request, all but the event that carries it out.
use Rattle.std.specs.Prelude.{ℕ, ◌==◌, Bool, true, false, not, Option, None, Some, is_some}
use Rattle.std.specs.Option.{option_or}
use Rattle.al_base.specs.Limits.{last_stamp}
use Rattle.al_base.specs.declared.severity.Status.{Status}
use Rattle.al_types.specs.declared.row.Row.{Row}
use Rattle.al_model.specs.Decision.{allows_status, changes, event_of, full, missing, reply_of, undeclared, unless}
use Rattle.al_model.specs.State.{State}
use Rattle.al_model.specs.declared.decision.Decision.{Decision}
use Rattle.al_model.specs.declared.decision.Decision.TheVariants as decisions
use Rattle.al_model.specs.declared.decision.Refusal.{Refusal}
use Rattle.al_model.specs.declared.decision.Refusal.TheVariants.{NotInInventory, SeverityNotInInventory, AlarmsFull, ShelvesFull, ClockEnd}
use Rattle.al_model.specs.declared.decision.Reply.{Reply}
use Rattle.al_model.specs.declared.event.Event.{Event}
use Rattle.al_model.specs.declared.request.Request.{Request}
use Rattle.al_lists.specs.declared.verdict.Verdict.{Verdict}
use Rattle.al_lists.specs.declared.verdict.Verdict.TheVariants as verdicts

-- the order of the points: refused for what it is about, the same, refused for want of room, and else a change
abbrev pub judged : Option Refusal → Bool → Option Refusal → Reply → Verdict
judged (Some refusal) changing room reply = verdicts.Refuse refusal
judged None false room reply = verdicts.Same reply
judged None true (Some refusal) reply = verdicts.Refuse refusal
judged None true None reply = verdicts.Change reply

-- the verdict on a request that would be carried out at the time
unfoldable pub verdict_at : State → ℕ → Request → Verdict
verdict_at s time request =
    judged (option_or (missing s request) (undeclared s request)) (changes s time (event_of s request)) (full s time (event_of s request)) (reply_of s time request)

-- the decision that a verdict and an event are together
abbrev pub with_event : Event → Verdict → Decision
with_event event (verdicts.Refuse refusal) = decisions.Refuse refusal
with_event event (verdicts.Same reply) = decisions.Same reply
with_event event (verdicts.Change reply) = decisions.Change event reply

abbrev pub is_change : Verdict → Bool
is_change (verdicts.Refuse refusal) = false
is_change (verdicts.Same reply) = false
is_change (verdicts.Change reply) = true

-- whether the alarms, the shelves and the clock leave room, where the last entry was at the time
abbrev pub room_for : Bool → Bool → ℕ → Option Refusal
room_for alarms_fit shelves_fit time =
    option_or (unless alarms_fit AlarmsFull) (option_or (unless shelves_fit ShelvesFull) (unless (not (time == last_stamp)) ClockEnd))

-- what a row, or the want of one, has against a status that is reported
abbrev pub row_refusal : Option Row → Status → Option Refusal
row_refusal row status = option_or (unless (is_some row) NotInInventory) (unless (allows_status row status) SeverityNotInInventory)
