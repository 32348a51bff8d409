-- What it means to be taken by a filter.
use Rattle.std.specs.Prelude.{◌≡◌, ℕ, ◌+◌, ◌<◌, ⊤, Bool, true, false, IfSome, Some}
use Rattle.al_base.specs.Names.{rank_of}
use Rattle.al_base.specs.declared.severity.Severity.{Severity}
use Rattle.al_ids.specs.Matches.{Matches}
use Rattle.al_ids.specs.declared.key.AlarmKey.{AlarmKey}
use Rattle.al_select.specs.Filters.{Facts, state_of, operator_of}
use Rattle.al_select.specs.declared.compress.CompressFilter.{CompressFilter}
use Rattle.al_select.specs.declared.purge.Clearance.{Clearance}
use Rattle.al_select.specs.declared.purge.Clearance.TheVariants.{Any, Cleared, NotCleared}
use Rattle.al_select.specs.declared.purge.Compare.{Compare}
use Rattle.al_select.specs.declared.purge.Compare.TheVariants.{Below, Equal, Above}
use Rattle.al_select.specs.declared.purge.PurgeFilter.{PurgeFilter}

abbrev pub HasClearance : Clearance → Bool → Type 0
HasClearance Any cleared = ⊤
HasClearance Cleared cleared = cleared ≡ true
HasClearance NotCleared cleared = cleared ≡ false

abbrev pub Stands : Compare → Severity → Severity → Type 0
Stands Below severity given = rank_of severity < rank_of given
Stands Equal severity given = severity ≡ given
Stands Above severity given = rank_of given < rank_of severity

-- An alarm meets all of a purge's filter at the time: its last change is longer ago than the age, its state is the filter's, and so on.
pub record MeetsPurge (filter : PurgeFilter) (facts : Facts) (time : ℕ) : Type 0 where
  pub clearance : HasClearance filter.clearance facts.cleared
  pub age : IfSome filter.age (λ age. facts.changed + age < time)
  pub severity : IfSome filter.severity (λ s. Stands s.0 facts.severity s.1)
  pub state : IfSome filter.state (λ state. state_of facts ≡ state)
  pub user : IfSome filter.user (λ user. operator_of facts ≡ Some user)

-- The alarms of the key meet all of a compression's filter.
pub record MeetsCompress (filter : CompressFilter) (key : AlarmKey) : Type 0 where
  pub resource : IfSome filter.resource (λ m. Matches m key.resource)
  pub type_id : IfSome filter.type_id (λ type_id. key.type_id ≡ type_id)
  pub qualifier : IfSome filter.qualifier (λ qualifier. key.qualifier ≡ qualifier)
