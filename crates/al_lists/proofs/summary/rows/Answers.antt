use Rattle.std.proofs.Common.{◌<◌, ◌≤◌, length}
use Rattle.al_base.specs.declared.severity.Severity.TheVariants.{Indeterminate, Warning, Minor, Major, Critical}
use Rattle.al_lists.proofs.Tallies.{rows_are, tally_all, tally_more, tally_so_few, views_few}
use Rattle.al_lists.proofs.summary.rows.Goals as goal

pub add-requires : goal.add-requires
add-requires c =
    let views = c.alarms-alarms.result.now in
    let few = views_few c.args.contents.now.state views c.requires c.alarms-alarms.ensures.states in
    tally_so_few Critical views c.loop-alarm.alarm-index 10000 c.loop-alarm.critical few c.loop-alarm.invariant.0

pub add-requires-in-loop-alarm : goal.add-requires-in-loop-alarm
add-requires-in-loop-alarm c =
    let views = c.alarms-alarms.result.now in
    let few = views_few c.args.contents.now.state views c.requires c.alarms-alarms.ensures.states in
    tally_so_few Major views c.loop-alarm.alarm-index 10000 c.loop-alarm.major few c.loop-alarm.invariant.1

pub add-requires-in-loop-alarm-2 : goal.add-requires-in-loop-alarm-2
add-requires-in-loop-alarm-2 c =
    let views = c.alarms-alarms.result.now in
    let few = views_few c.args.contents.now.state views c.requires c.alarms-alarms.ensures.states in
    tally_so_few Minor views c.loop-alarm.alarm-index 10000 c.loop-alarm.minor few c.loop-alarm.invariant.2

pub add-requires-in-loop-alarm-3 : goal.add-requires-in-loop-alarm-3
add-requires-in-loop-alarm-3 c =
    let views = c.alarms-alarms.result.now in
    let few = views_few c.args.contents.now.state views c.requires c.alarms-alarms.ensures.states in
    tally_so_few Warning views c.loop-alarm.alarm-index 10000 c.loop-alarm.warning few c.loop-alarm.invariant.3

pub add-requires-in-loop-alarm-4 : goal.add-requires-in-loop-alarm-4
add-requires-in-loop-alarm-4 c =
    let views = c.alarms-alarms.result.now in
    let few = views_few c.args.contents.now.state views c.requires c.alarms-alarms.ensures.states in
    tally_so_few Indeterminate views c.loop-alarm.alarm-index 10000 c.loop-alarm.indeterminate few c.loop-alarm.invariant.4

pub loop-alarm-preserved : goal.loop-alarm-preserved
loop-alarm-preserved c =
    let views = c.alarms-alarms.result.now in
    let i = c.loop-alarm.alarm-index in
    let alarm = c.alarm-item.result in
    let within : i < length views = c.loop-alarm-test.true in (
      tally_more Critical views i alarm c.loop-alarm.critical c.add.new.self within c.alarm-item.is c.loop-alarm.invariant.0 c.add.ensures,
      tally_more Major views i alarm c.loop-alarm.major c.add-in-loop-alarm.new.self within c.alarm-item.is c.loop-alarm.invariant.1 c.add-in-loop-alarm.ensures,
      tally_more Minor views i alarm c.loop-alarm.minor c.add-in-loop-alarm-2.new.self within c.alarm-item.is c.loop-alarm.invariant.2 c.add-in-loop-alarm-2.ensures,
      tally_more Warning views i alarm c.loop-alarm.warning c.add-in-loop-alarm-3.new.self within c.alarm-item.is c.loop-alarm.invariant.3 c.add-in-loop-alarm-3.ensures,
      tally_more Indeterminate views i alarm c.loop-alarm.indeterminate c.add-in-loop-alarm-4.new.self within c.alarm-item.is c.loop-alarm.invariant.4 c.add-in-loop-alarm-4.ensures,
    )

pub row-requires : goal.row-requires
row-requires c =
    let views = c.alarms-alarms.result.now in
    let few = views_few c.args.contents.now.state views c.requires c.alarms-alarms.ensures.states in
    tally_so_few Critical views c.loop-alarm.alarm-index 10000 c.loop-alarm.critical few c.loop-alarm.invariant.0

pub row-requires-2 : goal.row-requires-2
row-requires-2 c =
    let views = c.alarms-alarms.result.now in
    let few = views_few c.args.contents.now.state views c.requires c.alarms-alarms.ensures.states in
    tally_so_few Major views c.loop-alarm.alarm-index 10000 c.loop-alarm.major few c.loop-alarm.invariant.1

pub row-requires-3 : goal.row-requires-3
row-requires-3 c =
    let views = c.alarms-alarms.result.now in
    let few = views_few c.args.contents.now.state views c.requires c.alarms-alarms.ensures.states in
    tally_so_few Minor views c.loop-alarm.alarm-index 10000 c.loop-alarm.minor few c.loop-alarm.invariant.2

pub row-requires-4 : goal.row-requires-4
row-requires-4 c =
    let views = c.alarms-alarms.result.now in
    let few = views_few c.args.contents.now.state views c.requires c.alarms-alarms.ensures.states in
    tally_so_few Warning views c.loop-alarm.alarm-index 10000 c.loop-alarm.warning few c.loop-alarm.invariant.3

pub row-requires-5 : goal.row-requires-5
row-requires-5 c =
    let views = c.alarms-alarms.result.now in
    let few = views_few c.args.contents.now.state views c.requires c.alarms-alarms.ensures.states in
    tally_so_few Indeterminate views c.loop-alarm.alarm-index 10000 c.loop-alarm.indeterminate few c.loop-alarm.invariant.4

pub returns : goal.returns
returns c =
    let s = c.args.contents.now.state in
    let views = c.alarms-alarms.result.now in
    let i = c.loop-alarm.alarm-index in
    let all = c.alarms-alarms.ensures.states in
    let end : length views ≤ i = c.loop-alarm-test.false in
    rows_are _ _ _ _ _ _ _ _ _ _
    (tally_all s Critical views i c.loop-alarm.critical c.row.result c.requires all end c.loop-alarm.invariant.0 c.row.ensures)
    (tally_all s Major views i c.loop-alarm.major c.row-2.result c.requires all end c.loop-alarm.invariant.1 c.row-2.ensures)
    (tally_all s Minor views i c.loop-alarm.minor c.row-3.result c.requires all end c.loop-alarm.invariant.2 c.row-3.ensures)
    (tally_all s Warning views i c.loop-alarm.warning c.row-4.result c.requires all end c.loop-alarm.invariant.3 c.row-4.ensures)
    (tally_all s Indeterminate views i c.loop-alarm.indeterminate c.row-5.result c.requires all end c.loop-alarm.invariant.4 c.row-5.ensures)
