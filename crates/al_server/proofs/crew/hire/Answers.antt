use Rattle.std.proofs.Common.{arith, refl, ◌∙◌}
use Rattle.std.proofs.lemmas.List.{length-map}
use Rattle.al_serve.specs.Workers.{work_of}
use Rattle.al_server.proofs.Hiring.{hired_more, popped, popped_len, pushed_len}
use Rattle.al_server.proofs.crew.hire.Goals as goal

pub loop-pass-preserved : goal.loop-pass-preserved
loop-pass-preserved g c =
    let inv = c.loop-pass.invariant in
    let passes = c.in-Some.ensures in
    let doors = c.pop_front-in-Some.ensures in
    let clocks = c.pop_front-in-Some-2.ensures in
    let workers = c.push_reserved.ensures in
    let doors_len = popped_len _ _ _ _ c.unwrap.ensures doors.len in
    let clocks_len = popped_len _ _ _ _ c.unwrap-in-Some.ensures clocks.len in
    let length_is = length-map c.loop-pass.workers.items (work_of g.N.Doors.state g.K.Clock.readings) in
    record {
      hiring = hired_more (work_of g.N.Doors.state g.K.Clock.readings) g.N.Doors.state g.K.Clock.readings _ _ _ _ _ _ _ _ _ _ _ _ _ c.in-Some.pass c.unwrap.result c.unwrap-in-Some.result
          passes.items (popped _ _ _ _ c.unwrap.ensures doors.items) (popped _ _ _ _ c.unwrap-in-Some.ensures clocks.items) workers.items inv.hiring refl refl refl
          (record { origin = omega (arith, inv.origin, length_is); due = refl; served = refl; added = refl });
      origin = pushed_len _ _ _ _ workers.items inv.origin;
      few = omega (arith, inv.few, passes.cases, workers.len);
      doors = omega (arith, inv.doors, passes.cases, doors_len);
      clocks = omega (arith, inv.clocks, passes.cases, clocks_len);
      framers = omega (arith, inv.framers, passes.cases, c.take_last.ensures.len);
      room = omega (arith, inv.room, workers.capacity);
      passes_room = passes.capacity ∙ inv.passes_room;
      doors_room = doors.capacity ∙ inv.doors_room;
    }
