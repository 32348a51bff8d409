use Rattle.std.proofs.Common.{ap, not}
use Rattle.al_contents.specs.Views.{is_marked, is_unmarked}
use Rattle.al_contents.proofs.Editing.{put_side}
use Rattle.al_contents.proofs.places.put_in_place.Goals as goal

pub returns-clause-sides : goal.returns-clause-sides
returns-clause-sides c alarms within sides =
    let shelved = c.is_shelved-is_shelved.ensures in
    record {
      listed = put_side is_unmarked alarms c.args.place c.args.alarm.now _ _ _ within sides.listed (ap not shelved) c.put_in.ensures.items;
      shelved = put_side is_marked alarms c.args.place c.args.alarm.now _ _ _ within sides.shelved shelved c.put_in-2.ensures.items;
    }
