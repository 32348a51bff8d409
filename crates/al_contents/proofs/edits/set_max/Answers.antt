use Rattle.std.proofs.Common.{◌≡◌, ◌<◌, ◌≤◌, length, sym, ◌∙◌, arith, rules, vec_len}
use Rattle.al_contents.specs.Views.{with_max}
use Rattle.al_contents.proofs.Editing.{done_more, done_none, done_whole}
use Rattle.al_contents.proofs.edits.set_max.Goals as goal

pub loop-alarm-init : goal.loop-alarm-init
loop-alarm-init c = c.deref_mut-alarm-items.ensures.value ∙ sym (done_none (with_max c.args.max) c.args.alarms.now.items)

pub loop-alarm-preserved : goal.loop-alarm-preserved
loop-alarm-preserved c =
    let here = c.loop-alarm in
    let within : here.alarm-index < length here.alarm-items = omega arith in
    done_more (with_max c.args.max) c.args.alarms.now.items here.alarm-items here.alarm-index c.alarm-item.result c.set_max.new.self here.invariant within c.alarm-item.is c.set_max.ensures

pub returns-clause-items : goal.returns-clause-items
returns-clause-items c =
    let here = c.loop-alarm in
    let past : length here.alarm-items ≤ here.alarm-index = omega arith in
    let count : vec_len c.args.alarms.now ≡ length c.args.alarms.now.items = search rules in
    done_whole (with_max c.args.max) c.args.alarms.now.items here.alarm-items here.alarm-index (vec_len c.args.alarms.now) here.invariant past count
