use Rattle.std.proofs.Common.{◌≡◌, ◌-◌, ◌≤◌, length, reverse, slice_range}
use Rattle.httparse.specs.Grammar.{skip_ows, trim_ows}
use Rattle.al_http.proofs.member.trimmed.Given as goal

-- what is skipped at the front changes nothing
abbrev pub invariant-loop-start : goal.invariant-loop-start
invariant-loop-start l = record {
  within : (l.start ≤ l.end) × (l.end ≤ length l.bytes);
  same : skip_ows l.bytes ≡ skip_ows (slice_range l.bytes l.start l.end);
}

abbrev pub decreases-loop-start : goal.decreases-loop-start
decreases-loop-start l = l.end - l.start

-- nor does what is skipped at the end
abbrev pub invariant-loop-end : goal.invariant-loop-end
invariant-loop-end l = record {
  within : (l.start ≤ l.end) × (l.end ≤ length l.bytes);
  same : trim_ows l.bytes ≡ reverse (skip_ows (reverse (slice_range l.bytes l.start l.end)));
}

abbrev pub decreases-loop-end : goal.decreases-loop-end
decreases-loop-end l = l.end - l.start
