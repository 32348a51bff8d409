-- The seat waits with the ticket that it drew.
use Rattle.std.proofs.Common.{◌≡◌, []}
use Rattle.al_turn.specs.Views.{drew}
use Rattle.al_turn.proofs.turnstile.Turnstile.wait.Given as goal

abbrev pub invariant-loop : goal.invariant-loop
invariant-loop g l = (l.seat.table_id ≡ l.fn.seat.table_id) × (l.seat.me ≡ (drew l.fn.seat.me.0 l.ticket, []))
