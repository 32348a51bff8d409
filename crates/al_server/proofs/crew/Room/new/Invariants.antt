use Rattle.std.proofs.Common.{◌≡◌, ◌≤◌, vec_capacity, vec_len}
use Rattle.al_server.proofs.crew.Room.new.Given as goal

abbrev pub invariant-loop : goal.invariant-loop
invariant-loop g l = record {
  len : vec_len l.framers ≡ l.counter;
  room : l.count ≤ vec_capacity l.framers;
}
