-- The trees of the values, with those of the elements that remain, are those of all elements.
use Rattle.std.proofs.Common.{◌≡◌, ◌++◌, drop, map}
use Rattle.serde_json.specs.View.{view}
use Rattle.al_fields.proofs.list.values.Given as goal

abbrev pub invariant-loop-i : goal.invariant-loop-i
invariant-loop-i g l = map view l.values.items ++ drop l.i (g.S.Series.trees l.series) ≡ g.S.Series.trees l.series
