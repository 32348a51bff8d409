use Rattle.al_pattern.specs.Trees.{Choice}
use Rattle.al_pattern.specs.Programs.{IsProgram}
use Rattle.al_pattern.proofs.TextLemmas.{Walked}
use Rattle.al_pattern.proofs.program.accepts.Given as goal

abbrev pub invariant-loop-c : goal.invariant-loop-c
invariant-loop-c l = (x : Choice) → IsProgram l.nodes l.nullable x → Walked x l.yielded l.start l.marks l.accepted
