-- What a decision refuses for, and what it answers.
use Rattle.std.proofs.Common.{◌≡◌, ◌≢◌, ℕ, Bool, true, false, not, ◌&&◌, ◌||◌, ◌==◌, length, Option, None, Some, refl, ap, ◌∙◌, subst, inl, inr}
use Rattle.std.specs.Bool.{⊤, nat_le, nat_lt}
use Rattle.std.specs.Option.{IfSome, is_none, is_some, option_or}
use Rattle.std.specs.Prelude.{◌⊎◌}
use Rattle.al_base.specs.Limits.{last_stamp, most_alarms, most_shelves}
use Rattle.al_shelf.specs.Places.{place_for, place_of}
use Rattle.al_types.specs.Inventories.{row_of}
use Rattle.al_model.specs.Alarms.{alarm_of}
use Rattle.al_model.specs.Events.{newcomer, set_by}
use Rattle.al_model.specs.Decision.{allows_status, changes, decided, decision_of, entry_time, event_of, full, missing, reply_of, undeclared, unless}
use Rattle.al_model.specs.Laws.{IsRefused, IsSame}
use Rattle.al_model.specs.State.{State, inventory_of, is_listed}
use Rattle.al_model.specs.declared.decision.Decision.TheVariants.{Refuse, Same, Change}
use Rattle.al_model.specs.declared.decision.Refusal.{Refusal}
use Rattle.al_model.specs.declared.decision.Refusal.TheVariants.{NoAlarm, NoShelf, NoPoint, ShelfExists, Installed, NotInInventory, SeverityNotInInventory, AlarmsFull, ShelvesFull, ClockEnd, JournalFull, Disk, Memory}
use Rattle.al_model.specs.declared.decision.Reply.{Reply}
use Rattle.al_model.specs.declared.event.Event.{Event}
use Rattle.al_model.specs.declared.request.Request.{Request}
use Rattle.al_model.specs.declared.request.Request.TheVariants as requests

-- ---- the order of the five points

-- refused by one of the points, each of which is asked where those before it don't refuse
refused_by : (a b : Option Refusal) (changing : Bool) (room : Option Refusal) (event : Event) (reply : Reply) (r : Refusal) → decided (option_or a b) changing room event reply ≡ Refuse r → (a ≡ Some r) ⊎ ((a ≡ None) × (b ≡ Some r)) ⊎ ((a ≡ None) × (b ≡ None) × (changing ≡ true) × (room ≡ Some r))
refused_by (Some q) b changing room event reply r h = inl cc
refused_by None (Some q) changing room event reply r h = inr (inl (refl, cc))
refused_by None None false room event reply r h = absurd (cc)
refused_by None None true (Some q) event reply r h = inr (inr (refl, refl, refl, cc))
refused_by None None true None event reply r h = absurd (cc)

refuses : (a b : Option Refusal) (changing : Bool) (room : Option Refusal) (event : Event) (reply : Reply) (r : Refusal) → (a ≡ Some r) ⊎ ((a ≡ None) × (b ≡ Some r)) ⊎ ((a ≡ None) × (b ≡ None) × (changing ≡ true) × (room ≡ Some r)) → decided (option_or a b) changing room event reply ≡ Refuse r
refuses a b changing room event reply r (inl first) = ap (λ o. decided (option_or o b) changing room event reply) first
refuses a b changing room event reply r (inr (inl second)) =
    ap (λ o. decided (option_or o b) changing room event reply) second.0 ∙ ap (λ o. decided o changing room event reply) second.1
refuses a b changing room event reply r (inr (inr fourth)) =
    ap (λ o. decided (option_or o b) changing room event reply) fourth.0 ∙ ap (λ o. decided o changing room event reply) fourth.1
    ∙ ap (λ c. decided None c room event reply) fourth.2 ∙ ap (λ o. decided None true o event reply) fourth.3

pub refused_is : (s : State) (request : Request) (now : ℕ) (r : Refusal) → decision_of s request now ≡ Refuse r → IsRefused s request now r
unfolding decision_of
refused_is s request now r h =
    refused_by (missing s request) (undeclared s request) (changes s (entry_time s now) (event_of s request)) (full s (entry_time s now) (event_of s request))
    (event_of s request) (reply_of s (entry_time s now) request) r h

pub is_refused : (s : State) (request : Request) (now : ℕ) (r : Refusal) → IsRefused s request now r → decision_of s request now ≡ Refuse r
unfolding decision_of
is_refused s request now r h =
    refuses (missing s request) (undeclared s request) (changes s (entry_time s now) (event_of s request)) (full s (entry_time s now) (event_of s request))
    (event_of s request) (reply_of s (entry_time s now) request) r h

same_by : (a b : Option Refusal) (changing : Bool) (room : Option Refusal) (event : Event) (reply : Reply) → a ≡ None → b ≡ None → IsSame (decided (option_or a b) changing room event reply) → changing ≡ false
same_by (Some q) b changing room event reply none known h = absurd (cc)
same_by None (Some q) changing room event reply none known h = absurd (cc)
same_by None None false room event reply none known h = refl
same_by None None true (Some q) event reply none known h = absurd h
same_by None None true None event reply none known h = absurd h

same_so : (a b : Option Refusal) (changing : Bool) (room : Option Refusal) (event : Event) (reply : Reply) → a ≡ None → b ≡ None → changing ≡ false → IsSame (decided (option_or a b) changing room event reply)
same_so (Some q) b changing room event reply none known h = absurd (cc)
same_so None (Some q) changing room event reply none known h = absurd (cc)
same_so None None false room event reply none known h = tt
same_so None None true room event reply none known h = absurd (cc)

pub same_unchanged : (s : State) (request : Request) (now : ℕ) → missing s request ≡ None → undeclared s request ≡ None → IsSame (decision_of s request now) → changes s (entry_time s now) (event_of s request) ≡ false
unfolding decision_of
same_unchanged s request now there known h =
    same_by (missing s request) (undeclared s request) (changes s (entry_time s now) (event_of s request)) (full s (entry_time s now) (event_of s request))
    (event_of s request) (reply_of s (entry_time s now) request) there known h

pub unchanged_same : (s : State) (request : Request) (now : ℕ) → missing s request ≡ None → undeclared s request ≡ None → changes s (entry_time s now) (event_of s request) ≡ false → IsSame (decision_of s request now)
unfolding decision_of
unchanged_same s request now there known h =
    same_so (missing s request) (undeclared s request) (changes s (entry_time s now) (event_of s request)) (full s (entry_time s now) (event_of s request))
    (event_of s request) (reply_of s (entry_time s now) request) there known h

-- ---- what is answered

-- the answer of a request that changes nothing, and that nothing changes
same_answers : (refused : Option Refusal) (changing : Bool) (room : Option Refusal) (event : Event) (reply gives : Reply) → decided refused changing room event reply ≡ Same gives → (gives ≡ reply) × (changing ≡ false)
same_answers (Some q) changing room event reply gives h = absurd (cc)
same_answers None false room event reply gives h = (cc, refl)
same_answers None true (Some q) event reply gives h = absurd (cc)
same_answers None true None event reply gives h = absurd (cc)

pub same_reply : (s : State) (request : Request) (now : ℕ) (reply : Reply) → decision_of s request now ≡ Same reply → (reply ≡ reply_of s (entry_time s now) request) × (changes s (entry_time s now) (event_of s request) ≡ false)
unfolding decision_of
same_reply s request now reply h =
    same_answers (option_or (missing s request) (undeclared s request)) (changes s (entry_time s now) (event_of s request)) (full s (entry_time s now) (event_of s request))
    (event_of s request) (reply_of s (entry_time s now) request) reply h

change_answers : (refused : Option Refusal) (changing : Bool) (room : Option Refusal) (event : Event) (reply : Reply) (made : Event) (gives : Reply) → decided refused changing room event reply ≡ Change made gives → (made ≡ event) × (gives ≡ reply)
change_answers (Some q) changing room event reply made gives h = absurd (cc)
change_answers None false room event reply made gives h = absurd (cc)
change_answers None true (Some q) event reply made gives h = absurd (cc)
change_answers None true None event reply made gives h = (cc, cc)

pub change_reply : (s : State) (request : Request) (now : ℕ) (event : Event) (reply : Reply) → decision_of s request now ≡ Change event reply → (event ≡ event_of s request) × (reply ≡ reply_of s (entry_time s now) request)
unfolding decision_of
change_reply s request now event reply h =
    change_answers (option_or (missing s request) (undeclared s request)) (changes s (entry_time s now) (event_of s request)) (full s (entry_time s now) (event_of s request))
    (event_of s request) (reply_of s (entry_time s now) request) event reply h

-- ---- what a decision never refuses for

-- the refusals that a decision gives
abbrev IsDecisive : Refusal → Type 0
IsDecisive NoAlarm = ⊤
IsDecisive NoShelf = ⊤
IsDecisive NoPoint = ⊤
IsDecisive ShelfExists = ⊤
IsDecisive Installed = ⊤
IsDecisive NotInInventory = ⊤
IsDecisive SeverityNotInInventory = ⊤
IsDecisive AlarmsFull = ⊤
IsDecisive ShelvesFull = ⊤
IsDecisive ClockEnd = ⊤
IsDecisive JournalFull = ⊥
IsDecisive Disk = ⊥
IsDecisive Memory = ⊥

decisive_unless : (b : Bool) (r : Refusal) → IsDecisive r → IfSome (unless b r) IsDecisive
decisive_unless true r h = tt
decisive_unless false r h = h

decisive_or : (a b : Option Refusal) → IfSome a IsDecisive → IfSome b IsDecisive → IfSome (option_or a b) IsDecisive
decisive_or None b h k = k
decisive_or (Some r) b h k = h

decisive_missing : (s : State) (request : Request) → IfSome (missing s request) IsDecisive
decisive_missing s (requests.Report key status text) = tt
decisive_missing s (requests.Operate key state operator text) = decisive_unless (is_some (alarm_of key s.alarms) && is_listed s key) NoAlarm tt
decisive_missing s (requests.SetMax max) = tt
decisive_missing s (requests.SetMode mode) = tt
decisive_missing s (requests.SetLevel level) = tt
decisive_missing s (requests.CreateShelf shelf spot) =
    let there = is_some (place_for spot shelf.name s.shelves) in
    let fresh = is_none (place_of shelf.name s.shelves) in
    decisive_or (unless there NoPoint) (unless fresh ShelfExists) (decisive_unless there NoPoint tt) (decisive_unless fresh ShelfExists tt)
decisive_missing s (requests.PutShelf shelf spot) = decisive_unless (is_some (place_for spot shelf.name s.shelves)) NoPoint tt
decisive_missing s (requests.DropShelf name) = decisive_unless (is_some (place_of name s.shelves)) NoShelf tt
decisive_missing s (requests.Purge side filter) = tt
decisive_missing s (requests.Compress side filter) = tt
decisive_missing s (requests.Install inventory) = decisive_unless (is_none s.inventory) Installed tt

decisive_undeclared : (s : State) (request : Request) → IfSome (undeclared s request) IsDecisive
decisive_undeclared s (requests.Report key status text) =
    let row = row_of (inventory_of s) key.type_id key.qualifier in
    decisive_or (unless (is_some row) NotInInventory) (unless (allows_status row status) SeverityNotInInventory)
    (decisive_unless (is_some row) NotInInventory tt) (decisive_unless (allows_status row status) SeverityNotInInventory tt)
decisive_undeclared s (requests.Operate key state operator text) = tt
decisive_undeclared s (requests.SetMax max) = tt
decisive_undeclared s (requests.SetMode mode) = tt
decisive_undeclared s (requests.SetLevel level) = tt
decisive_undeclared s (requests.CreateShelf shelf spot) = tt
decisive_undeclared s (requests.PutShelf shelf spot) = tt
decisive_undeclared s (requests.DropShelf name) = tt
decisive_undeclared s (requests.Purge side filter) = tt
decisive_undeclared s (requests.Compress side filter) = tt
decisive_undeclared s (requests.Install inventory) = tt

decisive_full : (s : State) (time : ℕ) (event : Event) → IfSome (full s time event) IsDecisive
decisive_full s time event =
    let alarms = is_none (newcomer s time event) || nat_lt (length s.alarms) most_alarms in
    let shelves = nat_le (length (set_by s event).shelves) most_shelves in
    let early = not (s.time == last_stamp) in
    decisive_or (unless alarms AlarmsFull) (option_or (unless shelves ShelvesFull) (unless early ClockEnd)) (decisive_unless alarms AlarmsFull tt)
    (decisive_or (unless shelves ShelvesFull) (unless early ClockEnd) (decisive_unless shelves ShelvesFull tt) (decisive_unless early ClockEnd tt))

decisive_at : (o : Option Refusal) (r : Refusal) → o ≡ Some r → IfSome o IsDecisive → IsDecisive r
decisive_at o r is h = subst (λ p. IfSome p IsDecisive) is h

decisive_by : (s : State) (request : Request) (now : ℕ) (r : Refusal) → IsRefused s request now r → IsDecisive r
decisive_by s request now r (inl first) = decisive_at (missing s request) r first (decisive_missing s request)
decisive_by s request now r (inr (inl second)) = decisive_at (undeclared s request) r second.1 (decisive_undeclared s request)
decisive_by s request now r (inr (inr fourth)) =
    decisive_at (full s (entry_time s now) (event_of s request)) r fourth.3 (decisive_full s (entry_time s now) (event_of s request))

pub never_refuses : (s : State) (request : Request) (now : ℕ) → (decision_of s request now ≢ Refuse JournalFull) × (decision_of s request now ≢ Refuse Disk) × (decision_of s request now ≢ Refuse Memory)
never_refuses s request now = (
  λ h. decisive_by s request now JournalFull (refused_is s request now JournalFull h),
  λ h. decisive_by s request now Disk (refused_is s request now Disk h),
  λ h. decisive_by s request now Memory (refused_is s request now Memory h),
)
