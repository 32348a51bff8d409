use Rattle.std.proofs.Common.{◌≡◌, ◌+◌, ◌≤◌, length}
use Rattle.std.specs.VecDeque.{deque_capacity, deque_len}
use Rattle.al_turn.specs.Views.{first_view}
use Rattle.al_server.specs.Crews.{AreFresh}
use Rattle.al_server.proofs.crew.all_passes.Given as goal

abbrev pub invariant-loop : goal.invariant-loop
invariant-loop g l = record {
  table : l.first.table ≡ l.turnstile.table;
  first : l.first.view ≡ record (first_view l.turnstile.start) { made = l.counter };
  others : AreFresh l.turnstile 2 l.passes.items;
  counted : length l.passes.items + 1 ≡ l.counter;
  len : deque_len l.passes + 1 ≡ l.counter;
  room : l.count ≤ deque_capacity l.passes;
}
