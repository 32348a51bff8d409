use Rattle.std.proofs.Common.{append_assoc, sym, ◌∷◌, []}
use Rattle.std.proofs.lemmas.List.{map-append}
use Rattle.serde_json.specs.View.{view}
use Rattle.al_fields.proofs.Steps.{next_at}
use Rattle.al_fields.proofs.list.values.Goals as goal

pub loop-i-preserved : goal.loop-i-preserved
loop-i-preserved g c =
    let e = next_at (g.S.Series.trees c.args.series.now) c.loop-i.i (view c.in_ok-value.value) (sym c.in_ok-value.ensures) in
    rw (c.in_ok-push.ensures.items, map-append view c.loop-i.values.items (c.in_ok-value.value ∷ []), append_assoc, ← e) c.loop-i.invariant
