use Rattle.std.proofs.Common.{ℕ, List, ◌++◌, take}
use Rattle.al_http.specs.Scans.{IsAfter}
use Rattle.al_http.proofs.scan.Seen.after_part.Given as goal

abbrev pub invariant-loop-byte : goal.invariant-loop-byte
invariant-loop-byte l = (front : List ℕ) → IsAfter l.fn.self front → IsAfter l.now (front ++ take l.byte-index l.bytes)
