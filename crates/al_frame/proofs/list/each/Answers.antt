use Rattle.std.proofs.lemmas.Result.{err_from_is_err_and}
use Rattle.al_frame.specs.Formats.{each_at}
use Rattle.al_frame.proofs.Loops.{goes_on, ends}
use Rattle.al_frame.proofs.list.each.Goals as goal

pub returns-in_err-value : goal.returns-in_err-value
returns-in_err-value g c =
    let p = err_from_is_err_and c.from_residual.result c.from_residual.ensures.1 in
    rw (p.1, p.2) (ends g.F.Field.format.read c.args.n c.loop.values.items c.args.count c.loop.counter c.loop.rest.now c.in_err-value.field-0.0 (each_at g.F.Field.format.read c.args.count c.args.n c.args.bytes.now) c.loop-test.true c.in_err-value.ensures c.loop.invariant)

pub loop-preserved : goal.loop-preserved
loop-preserved g c =
    let e = c.in_ok-push.ensures.items in
    rw e (goes_on g.F.Field.format.read c.args.n c.loop.values.items c.args.count c.loop.counter c.loop.rest.now c.in_ok-value.value c.in_ok-value.after.now (each_at g.F.Field.format.read c.args.count c.args.n c.args.bytes.now) c.loop-test.true c.in_ok-value.ensures c.loop.invariant)
