use Rattle.std.proofs.Common.{◌≡◌, ◌++◌, Ok, drop, map}
use Rattle.al_base.specs.Answers.{and_then, each}
use Rattle.serde_json.specs.View.{view}
use Rattle.al_input.proofs.list.each.Given as goal

abbrev pub invariant-loop-value : goal.invariant-loop-value
invariant-loop-value g l =
    each g.R.Reader.reads (map view l.values)
    ≡ and_then (each g.R.Reader.reads (map view (drop l.value-index l.values))) (λ rest. Ok (l.read.items ++ rest))
