use Rattle.al_types.specs.Places.{HasBases}
use Rattle.al_types.proofs.place.find_bases.Given as goal

abbrev pub invariant-loop-n : goal.invariant-loop-n
invariant-loop-n l = HasBases l.identities l.bases.items l.n
