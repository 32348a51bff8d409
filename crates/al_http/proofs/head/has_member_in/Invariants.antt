use Rattle.std.proofs.Common.{◌≡◌, map, drop}
use Rattle.std.specs.List.{list_any}
use Rattle.httparse.specs.Spans.{header_bytes}
use Rattle.al_http.specs.Requests.{values_of, has_member}
use Rattle.al_http.proofs.head.has_member_in.Given as goal

-- what is left of the fields has the member where all of them have it
abbrev pub invariant-loop-header : goal.invariant-loop-header
invariant-loop-header l =
    list_any (has_member l.member) (values_of l.name (map (header_bytes l.block) l.headers))
    ≡ list_any (has_member l.member) (values_of l.name (map (header_bytes l.block) (drop l.header-index l.headers)))
