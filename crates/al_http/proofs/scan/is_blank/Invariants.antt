use Rattle.std.proofs.Common.{◌≡◌, false, drop}
use Rattle.al_http.specs.Scans.{are_line_ends}
use Rattle.al_http.proofs.scan.is_blank.Given as goal

abbrev pub invariant-loop-byte : goal.invariant-loop-byte
invariant-loop-byte l = are_line_ends l.after_return (drop l.byte-index l.bytes) ≡ are_line_ends false l.bytes
