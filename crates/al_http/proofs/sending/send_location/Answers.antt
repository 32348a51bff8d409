use Rattle.std.proofs.Common.{◌≡◌, ◌++◌, codes, append_assoc}
use Rattle.al_http.specs.Responses.{escaped, crlf, location_field}
use Rattle.al_http.proofs.EscapeLemmas.{before_name, location_is}
use Rattle.al_http.proofs.FrontLemmas.{gathers_behind, gathers_push, front_behind, on_fault}
use Rattle.al_http.proofs.sending.send_location.Goals as goal

pub returns-clause-ok : goal.returns-clause-ok
returns-clause-ok g c =
    let pushed : c.push_text-2.new.self ≡ c.args.buffer.now ++ before_name =
    rw (c.push_text-2.ensures, c.push_text.ensures) (append_assoc c.args.buffer.now (codes "Location: ") _) in
    rw (c.in-Some.is, location_is c.in-Some.name)
    (gathers_push _ _ _ _ _ (before_name ++ escaped c.in-Some.name) crlf
    (gathers_behind _ _ c.args.buffer.now _ _ before_name (escaped c.in-Some.name) pushed (rw c.bytes.ensures.bytes at c.in_ok-send_escaped.ensures.ok))
    c.push_text-3.ensures)

pub returns-in_err-send_escaped-clause-fault : goal.returns-in_err-send_escaped-clause-fault
returns-in_err-send_escaped-clause-fault g c =
    let pushed : c.push_text-2.new.self ≡ c.args.buffer.now ++ before_name =
    rw (c.push_text-2.ensures, c.push_text.ensures) (append_assoc c.args.buffer.now (codes "Location: ") _) in
    on_fault c.from_residual.result (g.O.Sink.held c.args.sink.now) (g.O.Sink.held c.send_escaped.new.sink)
    (c.args.buffer.now ++ location_field c.args.location.now)
    (rw (c.in-Some.is, location_is c.in-Some.name)
    (front_behind (g.O.Sink.held c.args.sink.now) (g.O.Sink.held c.send_escaped.new.sink) c.args.buffer.now c.push_text-2.new.self before_name (escaped c.in-Some.name) crlf pushed
    (rw c.bytes.ensures.bytes at c.in_err-send_escaped.ensures.fault)))
