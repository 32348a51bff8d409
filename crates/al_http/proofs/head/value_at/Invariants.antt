use Rattle.std.proofs.Common.{◌≡◌, map, drop}
use Rattle.std.specs.List.{slice_get}
use Rattle.httparse.specs.Spans.{header_bytes}
use Rattle.al_http.specs.Requests.{values_of}
use Rattle.al_http.proofs.head.value_at.Given as goal

-- what is left of the fields holds the value that is left to find
abbrev pub invariant-loop-header : goal.invariant-loop-header
invariant-loop-header l =
    slice_get (values_of l.name (map (header_bytes l.block) l.headers)) l.n
    ≡ slice_get (values_of l.name (map (header_bytes l.block) (drop l.header-index l.headers))) l.left
