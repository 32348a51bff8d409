use Rattle.std.proofs.Common.{◌≡◌, ◌<◌, ◌+◌, ℕ, ◌&&◌, ◌||◌, not, nat_le}
use Rattle.al_pattern.specs.Sets.{is_in}
use Rattle.al_pattern.proofs.bits.insert_range.Given as goal

-- the numbers from the first up to the next are in
abbrev pub invariant-loop-n : goal.invariant-loop-n
invariant-loop-n l =
    ((k : ℕ) → is_in l.words k ≡ (nat_le l.fn.first k && not (nat_le l.n k) || is_in l.fn.words k))
    × (l.fn.last + 1 < l.fn.first → l.n ≡ l.fn.first)
