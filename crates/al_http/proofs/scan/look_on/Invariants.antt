use Rattle.std.proofs.Common.{ℕ, List, ◌++◌, ◌-◌, ◌≤◌, take, length}
use Rattle.al_http.specs.Scans.{IsAfter}
use Rattle.al_http.proofs.scan.look_on.Given as goal

abbrev pub invariant-lines : goal.invariant-lines
invariant-lines l = record {
  within : l.at ≤ length l.bytes;
  seen : (front : List ℕ) → IsAfter l.fn.seen front → IsAfter l.now (front ++ take l.at l.bytes);
}

abbrev pub decreases-lines : goal.decreases-lines
decreases-lines l = length l.bytes - l.at
