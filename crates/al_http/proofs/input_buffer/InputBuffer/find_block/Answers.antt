use Rattle.std.proofs.Common.{◌≡◌, ◌-◌, ◌<◌, ◌≤◌, length, take, drop, min, inl, lit<, arith}
use Rattle.std.proofs.lemmas.List.{length-append, take-append-le, length-take, length-drop}
use Rattle.std.proofs.Math.Seq.{take-length}
use Rattle.al_http.specs.declared.rejection.Rejection.TheVariants.{HeadTooBig}
use Rattle.al_http.specs.Ends.{IsRejected}
use Rattle.al_http.specs.InputBuffers.{held_bytes}
use Rattle.al_http.proofs.ScanLemmas.{after_none}
use Rattle.al_http.proofs.StreamLemmas.{keeps_same, keeps_both, kept_has, stream_all, take_on, take_to, front_kept}
use Rattle.al_http.proofs.RequestLemmas.{ends_so}
use Rattle.al_http.proofs.input_buffer.InputBuffer.find_block.Goals as goal

pub reading-init : goal.reading-init
reading-init g c = record {
  stream = keeps_same _;
  later = omega arith;
  seen = after_none;
  held = omega arith;
  short = lit< tt;
}

pub returns-in-Ends-clause-finds : goal.returns-in-Ends-clause-finds
returns-in-Ends-clause-finds g c =
    let held = held_bytes c.reading.self in
    let looks = rw c.held.ensures at (c.in-Ends.ensures _ c.reading.invariant.seen) in
    let part : length (take (c.look_end-end.result - c.reading.done) (drop c.reading.done held)) ≡ min (c.look_end-end.result - c.reading.done) (length (drop c.reading.done held)) = length-take _ (drop c.reading.done held) in
    let size = length-drop c.reading.done held in (
      omega (arith, looks.0, c.look_end-end.ensures),
      omega (arith, looks.0, c.look_end-end.ensures),
      rw (take_on held c.reading.done c.look_end-end.result c.in-Ends.count looks.0) at looks.1,
    )

pub returns-then-done-eq-MAX_HEAD-clause-finds : goal.returns-then-done-eq-MAX_HEAD-clause-finds
returns-then-done-eq-MAX_HEAD-clause-finds g c =
    let held = held_bytes c.reading.self in
    let from : c.reading.done ≤ c.look_end-end.result = omega arith in
    let seen = rw (c.held.ensures, take_to held c.reading.done c.look_end-end.result from, c.if-done-eq-MAX_HEAD.true) at (c.in-Goes.ensures _ c.reading.invariant.seen) in
    let long : 16384 ≤ length held = omega arith in
    kept_has (IsRejected HeadTooBig) _ _ c.reading.invariant.stream (stream_all (IsRejected HeadTooBig) held _ (λ more. inl (record {
      long = omega (arith, length-append held more);
      no_block = rw (take-append-le 16384 held more long) seen.no_block;
    })))

pub reading-preserved : goal.reading-preserved
reading-preserved g c =
    let held = held_bytes c.reading.self in
    let from : c.reading.done ≤ c.look_end-end.result = omega arith in
    let within : c.look_end-end.result ≤ length held = omega arith in
    let seen = rw (c.held.ensures, take_to held c.reading.done c.look_end-end.result from) at (c.in-Goes.ensures _ c.reading.invariant.seen) in
    let more : length held < length (held_bytes c.read_more.new.self) = c.read_more.ensures.more (cc) in
    record {
      stream = keeps_both _ _ _ c.reading.invariant.stream c.read_more.ensures.stream;
      later = omega (arith, c.reading.invariant.later, c.read_more.ensures.later);
      seen = rw (front_kept held (held_bytes c.read_more.new.self) c.look_end-end.result within c.read_more.ensures.kept) seen;
      held = omega arith;
      short = omega arith;
    }

pub returns-in-Ok-false-clause-finds : goal.returns-in-Ok-false-clause-finds
returns-in-Ok-false-clause-finds g c =
    let held = held_bytes c.reading.self in
    let ended = c.read_more.ensures.end (cc) in
    let from : c.reading.done ≤ c.look_end-end.result = omega arith in
    let whole : c.look_end-end.result ≡ length held = omega arith in
    let short : length held < 16384 = omega arith in
    let seen = rw (c.held.ensures, take_to held c.reading.done c.look_end-end.result from, whole, take-length held) at (c.in-Goes.ensures _ c.reading.invariant.seen) in
    rw ended.0
    (ends_so held _ _ (rw (c.held-in-Ok-false.ensures, ended.0) at c.end_of.ensures) short seen.no_block
    (kept_has (λ bytes. bytes ≡ held) _ _ c.reading.invariant.stream ended.1))
