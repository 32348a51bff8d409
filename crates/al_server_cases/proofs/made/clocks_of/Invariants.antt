use Rattle.std.proofs.Common.{◌≡◌, ◌≤◌, vec_len}
use Rattle.al_server_cases.proofs.made.clocks_of.Given as goal

abbrev pub invariant-loop : goal.invariant-loop
invariant-loop l = (vec_len l.made ≡ l.counter) × (l.counter ≤ l.count)
