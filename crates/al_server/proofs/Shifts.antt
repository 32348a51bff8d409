-- What all workers leave, from what each of them did.
use Rattle.std.proofs.Common.{◌≡◌, ℕ, ◌*◌, ◌^◌, ◌<◌, ◌≤◌, Bool, Option, List, ◌++◌, length, map, take, drop, sym, ap, ◌∙◌, subst, arith}
use Rattle.std.proofs.Math.Nat.{mul-le-mul_left}
use Rattle.std.proofs.Math.Seq.{take-length}
use Rattle.std.proofs.lemmas.List.{take-append-le}
use Rattle.std.specs.Prelude.{slice_index_or}
use Rattle.std.specs.List.{AllZip}
use Rattle.al_base.specs.Readings.{Readings}
use Rattle.al_model.specs.declared.kept.Mark.{Mark}
use Rattle.al_restconf.specs.Machine.{IsAnswer}
use Rattle.al_serve.proofs.Sums.{passes_put_all_entries}
use Rattle.al_serve.specs.Doors.{DoorState}
use Rattle.al_serve.specs.Workers.{HasWorked, Work}
use Rattle.al_turn.specs.Histories.{Numbered, further}
use Rattle.al_turn.specs.Passes.{Closed, LockState, PassState}
use Rattle.al_server.proofs.Stations.{all_served}
use Rattle.al_server.proofs.Workers.{zip_of}
use Rattle.al_server.specs.Crews.{AreDismissed, AreHired, ArePasses}
use Rattle.al_server.specs.Serving.{EndsShift}

-- a slice of a whole vector, written back
pub written_back : {W : Type 0} (count : ℕ) (items slice done : List W) → slice ≡ items → length slice ≡ count → length done ≡ length slice → take count (done ++ drop (length done) items) ≡ done
written_back {W} count items slice done same counted lengths =
    let least : count ≤ length done = omega (arith, counted, lengths) in
    let all : count ≡ length done = omega (arith, counted, lengths) in
    take-append-le count done (drop (length done) items) least ∙ ap (λ (n : ℕ). take n done) all ∙ take-length done

module _ {W : Type 0} (f : W → Work) where
  pub zip_worked : (items slice done : List W) → slice ≡ items → length done ≡ length slice
      → ((k : ℕ) (d : W) → k < length slice → HasWorked IsAnswer (f (slice_index_or slice k d)) (f (slice_index_or done k d))) → AllZip (HasWorked IsAnswer) (map f items) (map f done)
  zip_worked items slice done same lengths each =
      subst (λ (ws : List W). AllZip (HasWorked IsAnswer) (map f ws) (map f done)) same (zip_of f (HasWorked IsAnswer) slice done lengths each)

-- so many connections can be counted
pub served_fits : (workers connections served : ℕ) → served ≤ workers * connections → workers < 65 → connections ≤ 1000000 → served < 2 ^ 64
served_fits workers connections served most few within =
    let scaled = mul-le-mul_left workers within in
    omega (arith, most, few, scaled)

pub shift_ends : (lock : LockState) (connections count : ℕ) (start after : Mark) (passes seen : List PassState) (works dones : List Work) (doors last_doors : List DoorState) (clocks : List (Option Readings)) (served : ℕ) (failed : Bool)
    → lock.start ≡ start → ArePasses lock count passes → AreHired connections passes doors clocks works → AllZip (HasWorked IsAnswer) works dones → AreDismissed dones seen last_doors served failed → Closed lock.start seen after
    → EndsShift connections (record { old_doors = doors; new_doors = last_doors; clocks = clocks }) start after served failed
shift_ends lock connections count start after passes seen works dones doors last_doors clocks served failed is are hired worked dismissed closed =
    let s = all_served lock connections after 1 passes seen works dones are.fresh hired.passes_are dismissed.passes_are hired.begun worked closed.each in
    let there : EndsShift connections (record { old_doors = doors; new_doors = last_doors; clocks = clocks }) lock.start after served failed = record {
      stations = s.stations;
      all = record {
        goes_on = closed.goes_on;
        given = s.given ∙ hired.doors_are;
        left = s.left ∙ dismissed.doors_are;
        clocks = s.clocks ∙ hired.clocks_are;
        served = s.served;
        origins = subst (λ (n : ℕ). Numbered n (further after.entries lock.start.entries)) (sym s.as_many) closed.origins;
        added = s.added ∙ passes_put_all_entries lock.start after seen closed s.numbered;
      };
      served_is = dismissed.connections_are ∙ sym s.counted;
      failed_is = dismissed.faulted_is ∙ sym s.failed;
    } in
    subst (λ (m : Mark). EndsShift connections (record { old_doors = doors; new_doors = last_doors; clocks = clocks }) m after served failed) is there
