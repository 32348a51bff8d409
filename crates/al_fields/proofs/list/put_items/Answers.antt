use Rattle.std.proofs.Common.{arith, ap, append_assoc, drop, length, length-append, ◌∙◌, ◌+◌}
use Rattle.std.specs.Prelude.{nat_lt}
use Rattle.serde_json.specs.View.{items_of}
use Rattle.serde_json.specs.Written.{items_text}
use Rattle.al_fields.specs.Texts.{item_text}
use Rattle.al_fields.proofs.Steps.{next_item}
use Rattle.al_fields.proofs.list.put_items.Goals as goal

pub put_item-requires-clause-room : goal.put_item-requires-clause-room
put_item-requires-clause-room g c =
    let e = next_item (g.S.Series.trees c.args.series.now) c.loop-i.i (omega (arith, c.count-i-end.ensures)) in
    let n = ap length e ∙ length-append (item_text (g.S.Series.trees c.args.series.now) c.loop-i.i) (items_text (nat_lt 0 (c.loop-i.i + 1)) (items_of (drop (c.loop-i.i + 1) (g.S.Series.trees c.args.series.now)))) in
    omega (arith, n, c.loop-i.invariant.counted, c.loop-i.invariant.room, c.requires)

pub loop-i-preserved : goal.loop-i-preserved
loop-i-preserved g c =
    let e = next_item (g.S.Series.trees c.args.series.now) c.loop-i.i (omega (arith, c.count-i-end.ensures)) in
    let n = ap length e ∙ length-append (item_text (g.S.Series.trees c.args.series.now) c.loop-i.i) (items_text (nat_lt 0 (c.loop-i.i + 1)) (items_of (drop (c.loop-i.i + 1) (g.S.Series.trees c.args.series.now)))) in
    record {
      written = rw (c.put_item.ensures.items, append_assoc, ← e) c.loop-i.invariant.written;
      counted = omega (arith, n, c.loop-i.invariant.counted, c.put_item.ensures.len);
      room = omega (arith, c.loop-i.invariant.room, c.put_item.ensures.room);
    }
