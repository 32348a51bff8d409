use Rattle.std.proofs.Common.{◌<◌, length, ◌∙◌, arith}
use Rattle.al_contents.proofs.Sides.{sides_next}
use Rattle.al_contents.proofs.places.set_sides.Goals as goal

pub loop-place-preserved : goal.loop-place-preserved
loop-place-preserved c =
    let here = c.loop-place.invariant in
    let put = c.put_place.ensures in
    let within : c.loop-place.place < length c.args.alarms.now = omega arith in
    record {
      sides = sides_next c.args.alarms.now c.loop-place.place c.index-alarms-place.result c.loop-place.listed.items c.loop-place.shelved.items _ _ within c.index-alarms-place.is here.sides put.listed put.shelved;
      listed_few = omega (arith, put.listed_count);
      shelved_few = omega (arith, put.shelved_count);
      listed_room = put.listed_room ∙ here.listed_room;
      shelved_room = put.shelved_room ∙ here.shelved_room;
    }
