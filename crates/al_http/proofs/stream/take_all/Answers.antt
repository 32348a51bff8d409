use Rattle.std.proofs.Common.{◌<◌, [], ◌∷◌, ◌++◌, length, sym, ◌∙◌, arith}
use Rattle.std.proofs.lemmas.List.{length_push}
use Rattle.al_http.specs.Shown.{message_of}
use Rattle.al_http.specs.Streams.{request_limit}
use Rattle.al_http.specs.Told.{ending_of}
use Rattle.al_http.proofs.StreamLaws.{given_more, go_on_more, ends_at, ends_closed}
use Rattle.al_http.proofs.stream.take_all.Goals as goal

pub loop-count-preserved : goal.loop-count-preserved
loop-count-preserved g c =
    let so_far = c.loop-count.invariant.given in
    let message = message_of c.in-Ok-Some.request in
    record {
      few = omega arith;
      given = (
        so_far.0 ++ message ∷ [],
        omega (arith, so_far.1, length_push so_far.0 message),
        go_on_more so_far.0 message so_far.2 (sym c.last.ensures ∙ c.if-last.false),
        given_more _ _ _ so_far.0 c.in-Ok-Some.request so_far.3 (rw (c.in-Ok-Some.is, c.in-Ok-Some.field-0-is) at c.next.follows.holds-at-none),
      );
      later = omega (arith, c.loop-count.invariant.later, c.next.ensures.later);
    }

pub returns-then-last-clause-whole : goal.returns-then-last-clause-whole
returns-then-last-clause-whole g c =
    let so_far = c.loop-count.invariant.given in
    let message = message_of c.in-Ok-Some.request in
    let few : length so_far.0 < request_limit = omega (arith, so_far.1) in (
      so_far.0 ++ message ∷ [],
      omega (arith, so_far.1, length_push so_far.0 message),
      ends_closed _ _ so_far.0 message
          (given_more _ _ _ so_far.0 c.in-Ok-Some.request so_far.3 (rw (c.in-Ok-Some.is, c.in-Ok-Some.field-0-is) at c.next.follows.holds-at-none))
          so_far.2 (sym c.last.ensures ∙ c.if-last.true) few,
    )

pub returns-in-Ok-clause-whole : goal.returns-in-Ok-clause-whole
returns-in-Ok-clause-whole g c =
    let so_far = c.loop-count.invariant.given in
    let few : length so_far.0 < request_limit = omega (arith, so_far.1) in
    (so_far.0, so_far.1, ends_at _ _ _ so_far.0 c.in-Err.stop (ending_of c.in-Ok.end) so_far.3 so_far.2 few (rw c.in-Err.is at c.next.follows.holds-at-none) c.in-Ok.ensures.ends)
