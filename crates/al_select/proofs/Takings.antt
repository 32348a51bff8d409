-- What filters take, as functions and as relations.
use Rattle.std.proofs.Common.{◌≡◌, ℕ, ◌+◌, ◌-◌, ◌<◌, Bool, true, false, cond, ◌&&◌, ◌==◌, Option, None, Some, List, refl, sym, ap, ◌∙◌, arith}
use Rattle.std.specs.Bool.{Decides}
use Rattle.std.specs.Cmp.Lexicographic.{bytes_decides}
use Rattle.std.specs.Option.{IfSome, option_map_or}
use Rattle.std.proofs.lemmas.Bool.Decides.{Decides-eqb, Decides-ltb}
use Rattle.std.proofs.lemmas.Option.{same_Some}
use Rattle.al_base.specs.Names.{rank_of, state_number}
use Rattle.al_base.specs.declared.operator.OperatorState.{OperatorState}
use Rattle.al_base.specs.declared.operator.OperatorState.TheVariants.{None0, Ack, Closed, Shelved, UnShelved}
use Rattle.al_base.specs.declared.severity.Severity.{Severity}
use Rattle.al_base.specs.declared.severity.Severity.TheVariants.{Indeterminate, Warning, Minor, Major, Critical}
use Rattle.al_ids.specs.declared.key.AlarmKey.{AlarmKey}
use Rattle.al_ids.proofs.MatchingLaws.{decides_match}
use Rattle.al_select.specs.Filters.{Facts, compress_takes, has_clearance, is_by, is_older, operator_of, purge_takes, same_state, stands, state_of}
use Rattle.al_base.specs.Texts.{same_text}
use Rattle.al_select.specs.Meets.{HasClearance, MeetsCompress, MeetsPurge, Stands}
use Rattle.al_select.specs.declared.compress.CompressFilter.{CompressFilter}
use Rattle.al_select.specs.declared.purge.Clearance.{Clearance}
use Rattle.al_select.specs.declared.purge.Clearance.TheVariants.{Any, Cleared, NotCleared}
use Rattle.al_select.specs.declared.purge.Compare.{Compare}
use Rattle.al_select.specs.declared.purge.Compare.TheVariants.{Below, Equal, Above}
use Rattle.al_select.specs.declared.purge.PurgeFilter.{PurgeFilter}

-- a test of two tests
pub decides_both : {P Q : Type 0} (a b : Bool) → Decides a P → Decides b Q → Decides (a && b) (P × Q)
decides_both true b p q = (λ h. (p.0 refl, q.0 h), λ h. q.1 h.1)
decides_both false b p q = (λ h. absurd (cc), λ h. p.1 h.0)

-- what is asked for, if anything
decides_asked : {X : Type 0} (p : X → Bool) (P : X → Type 0) → ((x : X) → Decides (p x) (P x)) → (o : Option X) → Decides (option_map_or p o true) (IfSome o P)
decides_asked p P each None = (λ h. tt, λ h. refl)
decides_asked p P each (Some x) = each x

pub decides_text : (a b : List ℕ) → Decides (same_text a b) (a ≡ b)
decides_text a b = bytes_decides a b

-- ---- equal states and severities

-- values that are told apart by numbers
pub decides_by_number : {X : Type 0} (number : X → ℕ) (at : ℕ → X) → ((x : X) → at (number x) ≡ x) → (a b : X) → Decides (number a == number b) (a ≡ b)
decides_by_number number at back a b =
    (λ h. sym (back a) ∙ ap at ((Decides-eqb (number a) (number b)).0 h) ∙ back b, λ e. (Decides-eqb (number a) (number b)).1 (ap number e))

pub decides_state : (a b : OperatorState) → Decides (same_state a b) (a ≡ b)
decides_state a b = decides_by_number state_number at back a b
  where
    at : ℕ → OperatorState
    at n = cond (n == 0) None0 (cond (n == 1) Ack (cond (n == 2) Closed (cond (n == 3) Shelved UnShelved)))

    back : (x : OperatorState) → at (state_number x) ≡ x
    back None0 = refl
    back Ack = refl
    back Closed = refl
    back Shelved = refl
    back UnShelved = refl

pub decides_severity : (a b : Severity) → Decides (rank_of a == rank_of b) (a ≡ b)
decides_severity a b = decides_by_number rank_of at back a b
  where
    at : ℕ → Severity
    at n = cond (n == 0) Indeterminate (cond (n == 1) Warning (cond (n == 2) Minor (cond (n == 3) Major Critical)))

    back : (x : Severity) → at (rank_of x) ≡ x
    back Indeterminate = refl
    back Warning = refl
    back Minor = refl
    back Major = refl
    back Critical = refl

-- ---- the filter of a purge

decides_clearance : (clearance : Clearance) (cleared : Bool) → Decides (has_clearance clearance cleared) (HasClearance clearance cleared)
decides_clearance Any cleared = (λ h. tt, λ h. refl)
decides_clearance Cleared cleared = (λ h. h, λ h. h)
decides_clearance NotCleared true = (λ h. sym h, λ h. sym h)
decides_clearance NotCleared false = (λ h. refl, λ h. refl)

decides_age : (time changed age : ℕ) → Decides (is_older time changed age) (changed + age < time)
decides_age time changed age =
    let d = Decides-ltb age (time - changed) in
    (λ h. let lt = d.0 h in omega arith, λ h. d.1 (omega arith))

decides_stands : (compare : Compare) (severity given : Severity) → Decides (stands compare severity given) (Stands compare severity given)
decides_stands Below severity given = Decides-ltb (rank_of severity) (rank_of given)
decides_stands Equal severity given = decides_severity severity given
decides_stands Above severity given = Decides-ltb (rank_of given) (rank_of severity)

decides_operator : (operator : Option (List ℕ)) (user : List ℕ) → Decides (is_by operator user) (operator ≡ Some user)
decides_operator None user = (λ h. cc, λ h. cc)
decides_operator (Some operator) user =
    let d = decides_text operator user in
    (λ h. ap Some (d.0 h), λ h. d.1 (same_Some operator user h))

-- A purge takes just the alarms that meet all of its filter.
pub decides_purge : (filter : PurgeFilter) (facts : Facts) (time : ℕ) → Decides (purge_takes filter facts time) (MeetsPurge filter facts time)
unfolding purge_takes
decides_purge filter facts time =
    let d1 = decides_both _ _ (decides_clearance filter.clearance facts.cleared) (decides_asked _ _ (decides_age time facts.changed) filter.age) in
    let d2 = decides_both _ _ d1 (decides_asked _ _ (λ s. decides_stands s.0 facts.severity s.1) filter.severity) in
    let d3 = decides_both _ _ d2 (decides_asked _ _ (decides_state (state_of facts)) filter.state) in
    let d4 = decides_both _ _ d3 (decides_asked _ _ (decides_operator (operator_of facts)) filter.user) in (
      λ h. let m = d4.0 h in record { clearance = m.0.0.0.0; age = m.0.0.0.1; severity = m.0.0.1; state = m.0.1; user = m.1 },
      λ m. d4.1 ((((m.clearance, m.age), m.severity), m.state), m.user),
    )

-- A compression takes just the alarms of the keys that meet all of its filter.
pub decides_compress : (filter : CompressFilter) (key : AlarmKey) → Decides (compress_takes filter key) (MeetsCompress filter key)
unfolding compress_takes
decides_compress filter key =
    let d1 = decides_both _ _ (decides_asked _ _ (λ m. decides_match m key.resource) filter.resource) (decides_asked _ _ (decides_text key.type_id) filter.type_id) in
    let d2 = decides_both _ _ d1 (decides_asked _ _ (decides_text key.qualifier) filter.qualifier) in (
      λ h. let m = d2.0 h in record { resource = m.0.0; type_id = m.0.1; qualifier = m.1 },
      λ m. d2.1 ((m.resource, m.type_id), m.qualifier),
    )
