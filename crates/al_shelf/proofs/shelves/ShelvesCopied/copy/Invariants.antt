use Rattle.std.proofs.Common.{◌≡◌, ◌+◌, length, take}
use Rattle.std.specs.Vec.{vec_capacity}
use Rattle.al_shelf.proofs.shelves.ShelvesCopied.copy.Given as goal

abbrev pub invariant-loop-shelf : goal.invariant-loop-shelf
invariant-loop-shelf l = (l.shelves.items ≡ take l.shelf-index l.shelf-items) × (vec_capacity l.shelves ≡ l.self.spare + length l.self.shelves)
