-- How a run of `serve` ends.
use Rattle.std.proofs.Common.{◌≡◌, ◌⊎◌, inl, inr, ℕ, ◌+◌, ◌-◌, Bool, true, false, Option, List, [], ◌∷◌, length, map, refl, sym, ap, ◌∙◌, subst, arith}
use Rattle.std.specs.Prelude.{◌||◌}
use Rattle.al_base.specs.Outside.{Rose}
use Rattle.al_disk.proofs.Going.{stays}
use Rattle.al_disk.specs.States.{DiskState, Goes}
use Rattle.al_journal.specs.Walks.{LeavesAsBefore}
use Rattle.al_model.specs.History.{IsLegal}
use Rattle.al_model.specs.declared.kept.Mark.{Mark}
use Rattle.al_office.specs.Journaled.{JournaledView}
use Rattle.al_office.specs.Opening.{OpensOffice, RefusesOffice}
use Rattle.al_office.specs.declared.fault.OfficeFault.{OfficeFault}
use Rattle.al_office.specs.declared.fault.OfficeFault.TheVariants as offices
use Rattle.al_serve.specs.Doors.{DoorState}
use Rattle.al_server.proofs.Keeping.{leaves_same}
use Rattle.al_server.proofs.Fronts.{appends_same}
use Rattle.al_commands.specs.Lines.{Tells, fault_line}
use Rattle.al_server.specs.Serving.{EndsShift, HasNotServed, HasServed, HaveServedDoors, OneRose, Posts, Station, has_failed, served_by, served_line, status_by}
use Rattle.al_commands.specs.Sessions.{Disks, KeepsJournal}
use Rattle.al_commands.specs.Statuses.{status_door_fault, status_of_fault, status_out_of_memory}

-- ---- nothing served

-- there was no memory, and no call was made on the disk
pub no_memory : (disk : Option DiskState) (faults : ℕ) (output : Option (List ℕ)) → HasNotServed (record { old_disk = disk; new_disk = disk; old_faults = faults; new_faults = faults }) output output status_out_of_memory
no_memory disk faults output = record {
  told_status = status_out_of_memory;
  not_begun = record {
    fault = offices.Memory;
    status_is = refl;
    disk = stays _ disk disk refl (λ s is. inl refl);
    moments = stays _ disk disk refl (λ s is. leaves_same s);
    cause = λ is. absurd (cc);
  };
  told = inl (refl, appends_same output);
}

-- the journal wasn't opened
pub not_opened : (fault : OfficeFault) (disks : Disks) (old_output new_output : Option (List ℕ)) (status : ℕ) → Goes (RefusesOffice fault) disks.old_disk disks.new_disk → Goes LeavesAsBefore disks.old_disk disks.new_disk
    → (fault ≡ offices.Disk → Rose disks.old_faults disks.new_faults) → Tells (fault_line fault) (status_of_fault fault) old_output new_output status → HasNotServed disks old_output new_output status
not_opened fault disks old_output new_output status refuses moments cause told = record {
  told_status = status_of_fault fault;
  not_begun = record { fault = fault; status_is = refl; disk = refuses; moments = moments; cause = cause };
  told = told;
}

-- an office that was opened and not served leaves what opening left
refuses_memory : {D : Type 0} (office : JournaledView D) (old new : Option DiskState) → Goes (OpensOffice office) old new → Goes (RefusesOffice offices.Memory) old new
refuses_memory office old new opens = record {
  silent = opens.silent;
  goes = λ s is. (let there = opens.goes s is in (there.0, there.1, inr there.2.syncs));
}

pub only_opened : {D : Type 0} (office : JournaledView D) (disks : Disks) (output : Option (List ℕ)) → Goes (OpensOffice office) disks.old_disk disks.new_disk → Goes LeavesAsBefore disks.old_disk disks.new_disk
    → HasNotServed disks output output status_out_of_memory
only_opened office disks output opens moments = record {
  told_status = status_out_of_memory;
  not_begun = record {
    fault = offices.Memory;
    status_is = refl;
    disk = refuses_memory office disks.old_disk disks.new_disk opens;
    moments = moments;
    cause = λ is. absurd (cc);
  };
  told = inl (refl, appends_same output);
}

-- ---- all served

-- what was served is told with the length that the history had at first
pub told_so : (served entries count last : ℕ) (done : ℕ) (old_output new_output : Option (List ℕ)) (status told_status : ℕ) → entries ≡ last - count → done ≡ told_status
    → Tells (served_line served entries) done old_output new_output status → Tells (served_line served (last - count)) told_status old_output new_output status
told_so served entries count last done old_output new_output status told_status counted is told =
    let a = subst (λ (n : ℕ). Tells (served_line served n) done old_output new_output status) counted told in
    subst (λ (n : ℕ). Tells (served_line served (last - count)) n old_output new_output status) is a

pub all_ended : (connections : ℕ) (posts : Posts) (disks : Disks) (old_output new_output : Option (List ℕ)) (status : ℕ) (before after : Mark) (served count : ℕ) (failed : Bool) → IsLegal before.entries → IsLegal after.entries
    → EndsShift connections posts before after served failed → KeepsJournal before after disks → count ≡ length before.entries
    → Tells (served_line served (length after.entries - count)) (status_by failed) old_output new_output status → HasServed connections posts disks old_output new_output status
all_ended connections posts disks old_output new_output status before after served count failed legal_before legal_after ends keeps counted told =
    let a = subst (λ (n : ℕ). Tells (served_line served (length after.entries - n)) (status_by failed) old_output new_output status) counted told in
    let b = subst (λ (n : ℕ). Tells (served_line n (length after.entries - length before.entries)) (status_by failed) old_output new_output status) ends.served_is a in
    let c = subst (λ (f : Bool). Tells (served_line (served_by ends.stations) (length after.entries - length before.entries)) (status_by f) old_output new_output status) ends.failed_is b in
    record {
      before = before;
      after = after;
      legal_before = legal_before;
      legal_after = legal_after;
      stations = ends.stations;
      all = ends.all;
      journal = keeps;
      told = c;
    }

-- ---- a door that failed

by_flag : (station : Station) (failed flag : Bool) (P : Type 0) → (station.faulted ≡ true → Rose station.given.faults station.left.faults) → (failed ≡ true → P) → station.faulted ≡ flag → (station.faulted || failed) ≡ true
    → Rose station.given.faults station.left.faults ⊎ P
by_flag station failed true P first rest is all = inl (first is)
by_flag station failed false P first rest is all = inr (rest (sym (ap (λ (b : Bool). b || failed) is) ∙ all))

or_rose : (connections : ℕ) (before after : Mark) (number : ℕ) (stations : List Station) → HaveServedDoors connections before after number stations → has_failed stations ≡ true
    → OneRose (map (λ (station : Station). station.given) stations) (map (λ (station : Station). station.left) stations)
or_rose connections before after number [] served failed = absurd (cc)
or_rose connections before after number (station ∷ stations) served failed =
    by_flag station (has_failed stations) station.faulted (OneRose (map (λ (s : Station). s.given) stations) (map (λ (s : Station). s.left) stations)) served.0.faulted
    (λ more. or_rose connections before after (number + 1) stations served.1 more) refl failed

failed_by : (failed : Bool) → status_by failed ≡ status_door_fault → failed ≡ true
failed_by true is = refl
failed_by false is = absurd (omega (arith, is))

-- status 11 tells of one
pub one_rose : (connections : ℕ) (posts : Posts) (before after : Mark) (served : ℕ) (failed : Bool) (text : List ℕ) (old_output new_output : Option (List ℕ)) (status : ℕ) → EndsShift connections posts before after served failed
    → Tells text (status_by failed) old_output new_output status → status ≡ status_door_fault → OneRose posts.old_doors posts.new_doors
one_rose connections posts before after served failed text old_output new_output status ends told is =
    elim told [
      | inl whole ↦
          let faulted : has_failed ends.stations ≡ true = sym ends.failed_is ∙ failed_by failed (sym whole.0 ∙ is) in
          subst (λ (doors : List DoorState). OneRose posts.old_doors doors) ends.all.left
          (subst (λ (doors : List DoorState). OneRose doors (map (λ (s : Station). s.left) ends.stations)) ends.all.given (or_rose connections before after 1 ends.stations ends.all.served faulted))
      | inr cut ↦ absurd (let s = cut.0 in omega (arith, s, is))
    ]
