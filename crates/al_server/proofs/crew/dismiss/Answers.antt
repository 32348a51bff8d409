use Rattle.std.proofs.Common.{arith, refl}
use Rattle.al_serve.specs.Workers.{work_of}
use Rattle.al_server.proofs.Hiring.{dismissed_more, done_dismissing, none_left}
use Rattle.al_server.proofs.crew.dismiss.Goals as goal

pub loop-worker-preserved : goal.loop-worker-preserved
loop-worker-preserved g c =
    let inv = c.loop-worker.invariant in
    let popped = c.in-Some.ensures in
    let passes = c.push_back_reserved.ensures in
    let doors = c.push_back_reserved-in-Some.ensures in
    record {
      dismissing = dismissed_more (work_of g.N.Doors.state g.K.Clock.readings) g.N.Doors.state _ _ _ _ _ _ _ _ _ c.in-Some.worker c.unwrap.result c.in-Some.worker.door
          popped.items inv.dismissing c.unwrap.ensures refl passes.items doors.items;
      passes = omega (arith, inv.passes, popped.cases, passes.len, passes.capacity);
      doors = omega (arith, inv.doors, popped.cases, doors.len, doors.capacity);
    }

pub returns : goal.returns
returns g c =
    let none = c.in_default.ensures in
    done_dismissing (work_of g.N.Doors.state g.K.Clock.readings) g.N.Doors.state _ _ _ _ _ _ _ c.from_vec-workers.ensures.items
    (none_left _ _ none.items none.rest) c.loop-worker.invariant.dismissing
