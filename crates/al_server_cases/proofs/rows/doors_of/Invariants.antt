use Rattle.std.proofs.Common.{◌≡◌, ◌≤◌, vec_len}
use Rattle.al_server_cases.proofs.rows.doors_of.Given as goal

abbrev pub invariant-loop-i : goal.invariant-loop-i
invariant-loop-i l = (vec_len l.made ≡ l.i) × (l.i ≤ l.count)
