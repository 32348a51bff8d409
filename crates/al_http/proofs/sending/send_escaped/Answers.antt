use Rattle.std.proofs.Common.{◌++◌, ◌<◌, length, take, drop, arith}
use Rattle.std.proofs.lemmas.List.{append-nil}
use Rattle.al_http.specs.Responses.{escaped}
use Rattle.al_http.proofs.EscapeLemmas.{escaped_none, escaped_more, escaped_parts}
use Rattle.al_http.proofs.FrontLemmas.{gathers_same, gathers_more, gathers_push, gathers_front, front_longer, on_fault}
use Rattle.al_http.proofs.sending.send_escaped.Goals as goal

pub loop-byte-init : goal.loop-byte-init
loop-byte-init g c =
    record { gathered = rw escaped_none (gathers_same _ _); room = c.requires; later = omega arith }

pub loop-byte-preserved : goal.loop-byte-preserved
loop-byte-preserved g c =
    let within : c.loop-byte.byte-index < length c.args.name.now = c.loop-byte-test.true in
    record {
      gathered =
          rw (escaped_more c.args.name.now c.loop-byte.byte-index 0 within, ← append-nil (escaped (take c.loop-byte.byte-index c.args.name.now)))
          (gathers_push _ _ _ _ _ _ _ (gathers_more _ _ _ _ _ _ _ _ c.loop-byte.invariant.gathered c.in_ok-make_room.ensures.ok) c.push_escape.ensures.text);
      room = omega (arith, c.in_ok-make_room.ensures.room, c.push_escape.ensures.grown);
      later = omega arith;
    }

pub returns-in_err-make_room-clause-fault : goal.returns-in_err-make_room-clause-fault
returns-in_err-make_room-clause-fault g c =
    let name = c.args.name.now in
    let before = escaped (take c.loop-byte.byte-index name) in
    let behind = escaped (drop c.loop-byte.byte-index name) in
    on_fault c.from_residual.result (g.O.Sink.held c.args.sink.now) (g.O.Sink.held c.make_room.new.sink) (c.args.buffer.now ++ escaped name)
    (rw (← escaped_parts name c.loop-byte.byte-index)
    (gathers_front _ _ _ _ c.loop-byte.buffer before behind c.loop-byte.invariant.gathered (front_longer _ _ c.loop-byte.buffer behind c.in_err-make_room.ensures.fault)))
