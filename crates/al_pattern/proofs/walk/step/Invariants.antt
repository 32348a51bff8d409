use Rattle.std.proofs.Common.{List, Bool, map, drop}
use Rattle.al_pattern.specs.Sets.{Holds}
use Rattle.al_pattern.specs.Walk.{seen, Nests}
use Rattle.al_pattern.proofs.WalkLemmas.{SoFar}
use Rattle.al_pattern.proofs.walk.step.Given as goal

abbrev pub invariant-loop-i : goal.invariant-loop-i
invariant-loop-i l =
    Nests l.walk.free (map (seen l.c) (drop l.i l.nodes))
    × ((olds : List Bool) → Holds l.old olds
    → SoFar (map (seen l.c) l.nodes) (map (seen l.c) (drop l.i l.nodes)) olds l.start l.i l.new l.walk.level (drop l.walk.free l.walk.levels))
