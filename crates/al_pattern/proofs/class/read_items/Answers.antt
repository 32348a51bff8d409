use Rattle.std.proofs.Common.{rules, ◌≡◌, not, ◌&&◌, true, false, arith}
use Rattle.std.proofs.lemmas.Result.{err_from_is_err_and}
use Rattle.al_pattern.specs.Bytes.{begins_with}
use Rattle.al_pattern.specs.Classes.{items_at}
use Rattle.al_pattern.proofs.ClassLemmas.{items_next, items_fail, items_end}
use Rattle.al_pattern.proofs.class.read_items.Goals as goal
use Rattle.al_pattern.proofs.class.read_items.Goals.{then-is_first, else-is_first+then-not-begins_with}

pub returns-in_err-item-clause-read : goal.returns-in_err-item-clause-read
returns-in_err-item-clause-read c =
    let more : (not c.loop-is_first.is_first && begins_with 93 c.loop-is_first.rest.now) ≡ false =
    elim c.if-is_first.branch [ then-is_first w ↦ search rules | else-is_first+then-not-begins_with w ↦ search rules ] in
    let so_far = c.loop-is_first.invariant.0 in
    let p = err_from_is_err_and c.from_residual.result c.from_residual.ensures.1 in
    rw (p.1, p.2) (items_fail so_far.0 c.loop-is_first.is_first c.loop-is_first.items.items c.loop-is_first.rest.now c.in_err-item.field-0.0
    (items_at c.args.text.now) more c.in_err-item.ensures.read so_far.1 so_far.2)

pub loop-is_first-preserved : goal.loop-is_first-preserved
loop-is_first-preserved c =
    let more : (not c.loop-is_first.is_first && begins_with 93 c.loop-is_first.rest.now) ≡ false =
    elim c.if-is_first.branch [ then-is_first w ↦ search rules | else-is_first+then-not-begins_with w ↦ search rules ] in
    let so_far = c.loop-is_first.invariant.0 in
    let shorter = c.in_ok-item.ensures.shorter in (
      rw c.in_ok-push.ensures.items (items_next so_far.0 c.loop-is_first.is_first c.loop-is_first.items.items c.loop-is_first.rest.now c.in_ok-item.item
          c.in_ok-item.after.now (items_at c.args.text.now) more c.in_ok-item.ensures.read shorter so_far.1 so_far.2),
      omega (arith, shorter),
    )

pub returns-clause-read : goal.returns-clause-read
returns-clause-read c =
    let ends : (not c.loop-is_first.is_first && begins_with 93 c.loop-is_first.rest.now) ≡ true = search rules in
    let so_far = c.loop-is_first.invariant.0 in
    rw c.behind.ensures (items_end so_far.0 c.loop-is_first.is_first c.loop-is_first.items.items c.loop-is_first.rest.now
    (items_at c.args.text.now) ends so_far.1 so_far.2)
