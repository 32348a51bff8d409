use Rattle.std.proofs.Common.{◌≡◌, ◌≤◌, ◌+◌, map, drop, length}
use Rattle.httparse.specs.Spans.{header_bytes}
use Rattle.al_http.specs.Requests.{values_of}
use Rattle.al_http.proofs.head.value_count.Given as goal

-- those that are counted and those that are left are all
abbrev pub invariant-loop-header : goal.invariant-loop-header
invariant-loop-header l = record {
  bound : l.count ≤ l.header-index;
  all : l.count + length (values_of l.name (map (header_bytes l.block) (drop l.header-index l.headers))) ≡ length (values_of l.name (map (header_bytes l.block) l.headers));
}
