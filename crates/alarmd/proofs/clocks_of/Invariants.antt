use Rattle.std.proofs.Common.{◌≡◌, ◌≤◌, vec_len}
use Rattle.alarmd.proofs.clocks_of.Given as goal

abbrev pub invariant-loop : goal.invariant-loop
invariant-loop g l = (vec_len l.clocks ≡ l.counter) × (l.counter ≤ l.count)
