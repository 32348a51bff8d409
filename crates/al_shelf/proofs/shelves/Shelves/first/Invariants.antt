use Rattle.std.proofs.Common.{ℕ, ◌<◌}
use Rattle.al_shelf.specs.Takes.{TakesAt}
use Rattle.al_shelf.specs.Taking.{takes}
use Rattle.al_shelf.proofs.TakingLaws.{Fails}
use Rattle.al_shelf.proofs.shelves.Shelves.first.Given as goal

abbrev pub invariant-loop-n : goal.invariant-loop-n
invariant-loop-n l = ((k : ℕ) → k < l.n → ¬ (TakesAt l.inv l.key l.shelf-items k)) × Fails (takes l.inv l.key) l.shelf-items l.n
