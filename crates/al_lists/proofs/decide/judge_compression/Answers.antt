use Rattle.std.proofs.Common.{◌∙◌}
use Rattle.al_contents.specs.Views.{AlarmView, loses}
use Rattle.al_lists.proofs.Counting.{compression_verdict, count_few}
use Rattle.al_lists.proofs.decide.judge_compression.Goals as goal

pub judge_count-requires : goal.judge_count-requires
judge_count-requires c =
    count_few c.args.contents.now.state (λ (v : AlarmView). loses c.args.side c.args.chosen.now v.state) c.alarms.result.now c.count_losing.result
    c.requires c.alarms.ensures.states c.count_losing.ensures

pub returns : goal.returns
returns c = λ time.
    c.judge_count.ensures
    ∙ compression_verdict c.args.contents.now.state time c.args.side c.args.chosen.now c.alarms.result.now c.count_losing.result
    c.requires c.alarms.ensures.states c.count_losing.ensures
