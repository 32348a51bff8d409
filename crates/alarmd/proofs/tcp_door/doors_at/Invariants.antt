use Rattle.std.proofs.Common.{◌≡◌, ◌≤◌, vec_len}
use Rattle.alarmd.proofs.tcp_door.doors_at.Given as goal

abbrev pub invariant-loop : goal.invariant-loop
invariant-loop g l = (vec_len l.doors ≡ l.counter) × (l.counter ≤ l.count)
