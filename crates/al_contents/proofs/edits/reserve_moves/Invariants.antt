use Rattle.std.proofs.Common.{◌≡◌, take, vec_capacity, vec_len}
use Rattle.al_contents.specs.Edits.{HaveRoom, ReservesOnly}
use Rattle.al_contents.proofs.edits.reserve_moves.Given as goal

abbrev pub invariant-loop-place : goal.invariant-loop-place
invariant-loop-place l = record {
  same : ReservesOnly l.fn.alarms.items l.alarms.items;
  room : HaveRoom (take l.place l.moves) l.alarms.items;
  capacity : vec_capacity l.alarms ≡ vec_capacity l.fn.alarms;
  count : vec_len l.alarms ≡ vec_len l.fn.alarms;
}
