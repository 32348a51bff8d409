use Rattle.std.proofs.Common.{◌≡◌, ◌<◌, ◌≤◌, length, sym, ◌∙◌, arith, rules, vec_len}
use Rattle.al_contents.specs.Views.{compressed_view}
use Rattle.al_contents.proofs.Editing.{done_more, done_none, done_whole}
use Rattle.al_contents.proofs.edits.compress.Goals as goal

pub loop-alarm-init : goal.loop-alarm-init
loop-alarm-init c = c.deref_mut-alarm-items.ensures.value ∙ sym (done_none (compressed_view c.args.side c.args.filter.now) c.args.alarms.now.items)

pub loop-alarm-preserved : goal.loop-alarm-preserved
loop-alarm-preserved c =
    let here = c.loop-alarm in
    let within : here.alarm-index < length here.alarm-items = omega arith in
    done_more (compressed_view c.args.side c.args.filter.now) c.args.alarms.now.items here.alarm-items here.alarm-index c.alarm-item.result c.compress_one.new.alarm here.invariant within c.alarm-item.is c.compress_one.ensures

pub returns-clause-items : goal.returns-clause-items
returns-clause-items c =
    let here = c.loop-alarm in
    let past : length here.alarm-items ≤ here.alarm-index = omega arith in
    let count : vec_len c.args.alarms.now ≡ length c.args.alarms.now.items = search rules in
    done_whole (compressed_view c.args.side c.args.filter.now) c.args.alarms.now.items here.alarm-items here.alarm-index (vec_len c.args.alarms.now) here.invariant past count
