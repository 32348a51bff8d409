use Rattle.std.proofs.Common.{◌≤◌, length}
use Rattle.al_pattern.specs.Reading.{reading}
use Rattle.al_pattern.proofs.CompileLemmas.{IsReadingOn}
use Rattle.al_pattern.proofs.builder.compile.Given as goal

abbrev pub invariant-tokens : goal.invariant-tokens
invariant-tokens l = IsReadingOn l.builder.nodes.items l.builder.opens.items l.count l.rest (reading l.text) × (l.count ≤ 256)

abbrev pub decreases-tokens : goal.decreases-tokens
decreases-tokens l = length l.rest
