use Rattle.std.proofs.Common.{◌≡◌, map, drop}
use Rattle.httparse.specs.Spans.{header_bytes}
use Rattle.al_http.specs.Requests.{values_of}
use Rattle.al_http.proofs.head.first_value.Given as goal

-- what is left of the fields has all of the values
abbrev pub invariant-loop-i : goal.invariant-loop-i
invariant-loop-i l =
    values_of l.name (map (header_bytes l.block) l.headers) ≡ values_of l.name (map (header_bytes l.block) (drop l.i l.headers))
