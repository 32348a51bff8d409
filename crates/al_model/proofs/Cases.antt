-- Worked cases of the rules, by computation.
use Rattle.std.proofs.Common.{◌≡◌, ℕ, zero, suc, ◌+◌, true, None, Some, List, [], ◌∷◌, length, drop, refl, map}
use Rattle.std.specs.Prelude.{codes}
use Rattle.std.specs.Str.{chars}
use Rattle.al_base.specs.declared.operator.OperatorState.TheVariants.{None0, Ack, Closed, Shelved, UnShelved}
use Rattle.al_base.specs.declared.operator.OperatorState.{OperatorState}
use Rattle.al_base.specs.declared.severity.Severity.{Severity}
use Rattle.al_base.specs.declared.severity.Severity.TheVariants.{Warning, Minor, Major, Critical}
use Rattle.al_base.specs.declared.severity.Status.{Status}
use Rattle.al_base.specs.declared.severity.Status.TheVariants.{Cleared, Active}
use Rattle.al_base.specs.declared.text.Text.{Text}
use Rattle.al_ids.specs.declared.key.AlarmKey.{AlarmKey}
use Rattle.al_notify.specs.Rules.{sends}
use Rattle.al_notify.specs.declared.rule.Mode.TheVariants.{SeverityLevel}
use Rattle.al_pattern.specs.Membership.{is_in_language}
use Rattle.al_select.specs.Filters.{purge_takes}
use Rattle.al_select.specs.declared.purge.Clearance.TheVariants as clearances
use Rattle.al_select.specs.declared.purge.Compare.TheVariants as compares
use Rattle.al_select.specs.declared.purge.PurgeFilter.{PurgeFilter}
use Rattle.al_pattern.specs.Reading.{read_from, tree_of}
use Rattle.al_shelf.specs.Taking.{takes}
use Rattle.al_shelf.specs.declared.shelf.Shelf.{Shelf}
use Rattle.al_types.specs.Inventories.{InventoryView, derives_from}
use Rattle.al_model.specs.History.{replay}
use Rattle.al_model.specs.State.{AlarmState, shelved}
use Rattle.al_model.specs.Step.{step}
use Rattle.al_model.specs.declared.entry.Entry.{Entry}
use Rattle.al_model.specs.declared.entry.OperatorEntry.{OperatorEntry}
use Rattle.al_model.specs.declared.entry.StatusEntry.{StatusEntry}
use Rattle.al_model.specs.declared.event.Event.{Event}
use Rattle.al_model.specs.declared.event.Event.TheVariants as events
use Rattle.al_model.specs.declared.event.Side.TheVariants as sides

-- an alarm of this resource and of the type `ex:link`
abbrev link : Text → AlarmKey
link resource = record { resource = resource; type_id = codes "ex:link"; qualifier = [] }

abbrev eth1 : AlarmKey
eth1 = link (codes "eth1")

abbrev at : ℕ → Event → Entry
at time event = record { time = time; origin = 0; event = event }

abbrev raise : ℕ → Severity → Text → Entry
raise time severity text = at time (events.Report eth1 (Active severity) text)

abbrev clear : ℕ → Text → Entry
clear time text = at time (events.Report eth1 Cleared text)

abbrev had : ℕ → Status → Text → StatusEntry
had time status text = record { time = time; status = status; text = text }

abbrev by_server : ℕ → OperatorState → Text → OperatorEntry
by_server time state name = record { time = time; state = state; operator = codes "alarmd"; text = Some name }

-- ---- a raise, a change, a clear and a repeat of it

abbrev raised_changed_cleared : List Entry
raised_changed_cleared =
    raise 2000 Major (codes "down") ∷ raise 3000 Minor (codes "flaps") ∷ clear 4000 (codes "ok") ∷ clear 5000 (codes "again") ∷ []

pub one_alarm : (replay raised_changed_cleared).alarms
    ≡ (let a : AlarmState = record {
      key = eth1;
      created = 2000;
      raised = 2000;
      changed = 4000;
      cleared = true;
      severity = Minor;
      text = codes "ok";
      statuses =
          had 4000 Cleared (codes "ok") ∷ had 3000 (Active Minor) (codes "flaps") ∷ had 2000 (Active Major) (codes "down") ∷ [];
      operators = [];
    } in a) ∷ []
unfolding step sends
one_alarm = refl

-- The repeat moves the time alone.
pub times_stay : (replay raised_changed_cleared).list_time ≡ Some 4000
unfolding step sends
times_stay = refl

pub three_notes : (replay raised_changed_cleared).log.sent ≡ 3
unfolding step sends
three_notes = refl

-- ---- a shelf for a type that the alarm's derives from

-- one identity on the root, one on that, and a row of the latter
abbrev declared : InventoryView
declared =
    record {
      identities =
          (record { name = codes "ex:port"; base = codes "ietf-alarms:alarm-type-id" }) ∷ (record { name = codes "ex:link"; base = codes "ex:port" })
          ∷ [];
      rows = [];
    }

-- a shelf of this name for the types that derive from a base, without a qualifier
abbrev shelf_for : Text → Text → Shelf
shelf_for name base =
    record { name = name; resources = []; types = (record { type_id = base; qualifier = [] }) ∷ []; description = None }

abbrev put_shelf : ℕ → Text → Entry
put_shelf time name = at time (events.PutShelf (shelf_for name (codes "ex:port")) 0)

abbrev drop_shelf : ℕ → Text → Entry
drop_shelf time name = at time (events.DropShelf name)

-- put, dropped, and put again before another one
abbrev shelved_twice : List Entry
shelved_twice =
    at 1000 (events.Install declared) ∷ raise 2000 Major (codes "down") ∷ put_shelf 3000 (codes "a") ∷ drop_shelf 4000 (codes "a")
    ∷ put_shelf 5000 (codes "b") ∷ put_shelf 6000 (codes "a") ∷ []

-- The newest entry is the shelving from shelf to shelf.
pub four_moves : map (λ a. a.operators) (replay shelved_twice).alarms
    ≡ (by_server 6000 Shelved (codes "a") ∷ by_server 5000 Shelved (codes "b") ∷ by_server 4000 UnShelved (codes "a")
    ∷ by_server 3000 Shelved (codes "a") ∷ [])
    ∷ []
unfolding step sends takes derives_from is_in_language tree_of read_from chars
four_moves = refl

pub now_on_shelf : map (λ a. a.changed) (shelved (replay shelved_twice)) ≡ 6000 ∷ []
unfolding step sends takes derives_from is_in_language tree_of read_from chars
now_on_shelf = refl

-- A shelving moves the times of both sides, and a note comes from the raise alone.
pub both_times : (replay shelved_twice).list_time ≡ Some 5000
unfolding step sends takes derives_from is_in_language tree_of read_from chars
both_times = refl

-- ---- what an operator says, and what a purge takes

abbrev operate : ℕ → OperatorState → Text → Entry
operate time state operator = at time (events.Operate eth1 state operator None)

abbrev closed_by_ann : List Entry
closed_by_ann = raise 2000 Major (codes "down") ∷ clear 3000 (codes "ok") ∷ operate 4000 Closed (codes "ann") ∷ []

-- how many alarms are left by a purge of the list at the time
abbrev left_at : ℕ → PurgeFilter → ℕ
left_at time filter = length (step (replay closed_by_ann) (at time (events.Purge sides.List filter))).alarms

abbrev any : PurgeFilter
any = record { clearance = clearances.Any; age = None; severity = None; state = None; user = None }

-- by age, strictly: the last change was the operator's
pub as_old : left_at 10000 (record any { age = Some 6000 }) ≡ 1
unfolding step sends purge_takes
as_old = refl

pub older : left_at 10001 (record any { age = Some 6000 }) ≡ 0
unfolding step sends purge_takes
older = refl

-- by clearance, by severity, which a clear leaves, by state and by operator
pub not_cleared : left_at 9000 (record any { clearance = clearances.NotCleared }) ≡ 1
unfolding step sends purge_takes
not_cleared = refl

pub below_major : left_at 9000 (record any { severity = Some (compares.Below, Major) }) ≡ 1
unfolding step sends purge_takes
below_major = refl

pub is_major : left_at 9000 (record any { severity = Some (compares.Equal, Major) }) ≡ 0
unfolding step sends purge_takes
is_major = refl

pub in_no_state : left_at 9000 (record any { state = Some None0 }) ≡ 1
unfolding step sends purge_takes
in_no_state = refl

pub by_another : left_at 9000 (record any { state = Some Closed; user = Some (codes "bob") }) ≡ 1
unfolding step sends purge_takes
by_another = refl

pub by_ann : left_at 9000 (record any { state = Some Closed; user = Some (codes "ann") }) ≡ 0
unfolding step sends purge_takes
by_ann = refl

-- ---- a rule by level

-- At the level major, these of the reports are told: 1st, 2nd, 5th, 6th, 7th and 8th.
abbrev by_level : List Entry
by_level =
    at 1000 (events.SetNotify (record { mode = SeverityLevel; level = Major })) ∷ raise 2001 Major [] ∷ raise 2002 Minor [] ∷ raise 2003 Warning []
    ∷ raise 2004 Minor [] ∷ raise 2005 Major [] ∷ raise 2006 Critical [] ∷ raise 2007 Major [] ∷ clear 2008 [] ∷ []

pub told : map (λ n. n.time) (replay by_level).log.notes ≡ 2001 ∷ 2002 ∷ 2005 ∷ 2006 ∷ 2007 ∷ 2008 ∷ []
unfolding step sends
told = refl

-- ---- bounds of histories

-- so many acknowledgements, one a second
abbrev acknowledged : ℕ → ℕ → List Entry
acknowledged zero time = []
acknowledged (suc n) time = operate time Ack (codes "ann") ∷ acknowledged n (time + 1000)

-- 65 operator entries leave the 64 newest.
abbrev acknowledged_often : List Entry
acknowledged_often = raise 2000 Major [] ∷ acknowledged 65 3000

pub operators_bounded : map (λ a. length a.operators) (replay acknowledged_often).alarms ≡ 64 ∷ []
unfolding step sends
operators_bounded = refl

pub oldest_kept : map (λ a. map (λ e. e.time) (drop 63 a.operators)) (replay acknowledged_often).alarms ≡ (4000 ∷ []) ∷ []
unfolding step sends
oldest_kept = refl

-- A lowered maximum cuts at once, leaves the changed time, and moves the list's.
abbrev lowered : List Entry
lowered = raise 2000 Warning [] ∷ raise 3000 Minor [] ∷ raise 4000 Major [] ∷ at 5000 (events.SetMax (Some 2)) ∷ []

pub cut : map (λ a. map (λ e. e.time) a.statuses) (replay lowered).alarms ≡ (4000 ∷ 3000 ∷ []) ∷ []
unfolding step sends
cut = refl

pub cut_leaves_changed : map (λ a. a.changed) (replay lowered).alarms ≡ 4000 ∷ []
unfolding step sends
cut_leaves_changed = refl

pub cut_moves_time : (replay lowered).list_time ≡ Some 5000
unfolding step sends
cut_moves_time = refl

-- One that cuts nothing moves no time.
pub higher_stays : (step (replay lowered) (at 6000 (events.SetMax (Some 3)))).list_time ≡ Some 5000
unfolding step sends
higher_stays = refl
