use Rattle.std.proofs.Common.{sym, ◌∙◌, refl, arith}
use Rattle.al_serve.proofs.Lefts.{one_fewer}
use Rattle.al_serve.proofs.Turning.{so_far_more, ends_by_close, ends_by_stop, ends_by_write_fault}
use Rattle.al_serve.proofs.conversation.converse.Goals as goal

pub returns-in-Err-written-clause-conversation : goal.returns-in-Err-written-clause-conversation
returns-in-Err-written-clause-conversation g c =
    let moves = rw (c.in-Ok-Some.is, c.in-Ok-Some.field-0-is) at c.next.follows.holds-at-none in
    let turn = rw (c.loop-served.invariant.same, c.loop-served.invariant.may_add, c.in-Err-written.is) at c.take_turn-added.ensures.turn in
    rw c.ending_of-in-Err-written.ensures
    (ends_by_write_fault _ _ _ _ _ _ _ _ _ _ _ _ _ _ c.in-Ok-Some.request _ (record { output = refl; clock = refl }) c.loop-served.invariant.so_far moves turn)

pub returns-in-Ok-true-clause-conversation : goal.returns-in-Ok-true-clause-conversation
returns-in-Ok-true-clause-conversation g c =
    let moves = rw (c.in-Ok-Some.is, c.in-Ok-Some.field-0-is) at c.next.follows.holds-at-none in
    let turn = rw (c.loop-served.invariant.same, c.loop-served.invariant.may_add, c.in-Ok-true.is, c.in-Ok-true.field-0-test) at c.take_turn-added.ensures.turn in
    let last = rw (c.in-Ok-true.is, c.in-Ok-true.field-0-test) at c.take_turn-added.ensures.last in
    rw c.ending_of.ensures
    (ends_by_close _ _ _ _ _ _ _ _ _ _ _ _ _ _ c.in-Ok-Some.request (record { output = refl; clock = refl }) c.loop-served.invariant.so_far c.loop-served-test.true moves (sym last) turn)

pub returns-in-Err-clause-conversation : goal.returns-in-Err-clause-conversation
returns-in-Err-clause-conversation g c =
    let moves = rw c.in-Err.is at c.next.follows.holds-at-none in
    rw c.ending_of-in-Err.ensures (ends_by_stop _ _ _ _ _ _ _ _ _ _ _ _ c.in-Err.stop _ c.loop-served.invariant.so_far c.loop-served-test.true moves c.end_at.ensures.ends)

pub loop-served-preserved : goal.loop-served-preserved
loop-served-preserved g c =
    let moves = rw (c.in-Ok-Some.is, c.in-Ok-Some.field-0-is) at c.next.follows.holds-at-none in
    let turn = rw (c.loop-served.invariant.same, c.loop-served.invariant.may_add, c.in-Ok-false.is, c.in-Ok-false.field-0-test) at c.take_turn-added.ensures.turn in
    let last = rw (c.in-Ok-false.is, c.in-Ok-false.field-0-test) at c.take_turn-added.ensures.last in
    let few = c.take_turn-added.ensures.few in
    record {
      so_far = so_far_more _ _ _ _ _ _ _ _ _ _ _ _ _ _ c.in-Ok-Some.request (record { output = refl; clock = refl }) c.loop-served.invariant.so_far moves (sym last) turn;
      few = omega (arith, few, c.loop-served.invariant.few);
      idle = c.take_turn-added.ensures.idle;
      left = c.take_turn-added.ensures.left ∙ one_fewer _ _ _ c.loop-served.invariant.left;
      counted = λ _. c.take_turn-added.ensures.counted;
      identity = c.take_turn-added.ensures.identity ∙ c.loop-served.invariant.identity;
      may_add = c.take_turn-added.ensures.may_add ∙ c.loop-served.invariant.may_add;
      same = c.take_turn-added.ensures.same ∙ c.loop-served.invariant.same;
      later_source = omega (arith, c.next.ensures.later, c.loop-served.invariant.later_source);
      later_sink = omega (arith, c.take_turn-added.ensures.later, c.loop-served.invariant.later_sink);
    }
