use Rattle.std.proofs.Common.{◌∙◌, refl, arith, w64}
use Rattle.std.proofs.Math.Facts.{Fits-lt-pow, Fits-of_lt}
use Rattle.al_serve.proofs.Lefts.{enough_first, enough_for_rest}
use Rattle.al_serve.proofs.Serving.{added_fits, counted_after, serves_more, serves_none}
use Rattle.al_serve.proofs.worker.serve.Goals as goal

pub loop-served-init : goal.loop-served-init
loop-served-init g c = record {
  serves = serves_none _ _ _ _ _ _;
  idle = c.requires.idle;
  left = enough_first _ _ c.requires.left;
  counted = λ some. absurd (omega (arith, some));
  identity = refl;
  may_add = refl;
  same = refl;
}

pub overflow_add-added : goal.overflow_add-added
overflow_add-added g c =
    let s = c.loop-served.invariant.serves in
    let conversation = rw (c.loop-served.invariant.same, c.loop-served.invariant.may_add) at c.converse-ending.ensures.conversation in
    let fits = Fits-lt-pow {w = w64} c.loop-served.auto.added-fits in
    Fits-of_lt {w = w64} (added_fits _ _ _ _ _ _ _ _ _ _ c.requires.own s.goes_on s.added_is fits conversation c.converse-ending.ensures.counted)

pub loop-served-preserved : goal.loop-served-preserved
loop-served-preserved g c =
    let s = c.loop-served.invariant.serves in
    let conversation = rw (c.loop-served.invariant.same, c.loop-served.invariant.may_add) at c.converse-ending.ensures.conversation in
    let gives = rw c.in-Ok-Some.field-0-is at c.in-Ok-Some.ensures.gives in
    let ended = c.converse-ending.ensures in
    record {
      serves = serves_more _ _ _ _ _ _ _ _ _ _ _ _ _ _ _ _ _ _ c.requires.own s gives c.next_connection.ensures.later c.finish.ensures.takes c.finish.ensures.later conversation ended.read_fault ended.write_fault ended.later_source ended.later_sink;
      idle = ended.idle;
      left = enough_for_rest _ _ _ _ _ c.loop-served.invariant.left c.loop-served-test.true ended.few ended.left;
      counted = λ some. counted_after _ _ conversation.turns _ _ _ _ conversation.exchange.through conversation.requests conversation.entries c.loop-served.invariant.counted ended.counted some;
      identity = ended.identity ∙ c.loop-served.invariant.identity;
      may_add = ended.may_add ∙ c.loop-served.invariant.may_add;
      same = ended.same ∙ c.loop-served.invariant.same;
    }
