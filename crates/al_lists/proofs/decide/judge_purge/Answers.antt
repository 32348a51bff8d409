use Rattle.std.proofs.Common.{◌∙◌}
use Rattle.al_contents.specs.Views.{AlarmView, goes}
use Rattle.al_lists.proofs.Counting.{count_few, purge_verdict}
use Rattle.al_lists.proofs.decide.judge_purge.Goals as goal

pub judge_count-requires : goal.judge_count-requires
judge_count-requires c =
    count_few c.args.contents.now.state (λ (v : AlarmView). goes c.args.side c.args.chosen.now c.args.time v.state) c.alarms.result.now c.count_going.result
    c.requires c.alarms.ensures.states c.count_going.ensures

pub returns : goal.returns
returns c =
    c.judge_count.ensures
    ∙ purge_verdict c.args.contents.now.state c.args.time c.args.side c.args.chosen.now c.alarms.result.now c.count_going.result
    c.requires c.alarms.ensures.states c.count_going.ensures
