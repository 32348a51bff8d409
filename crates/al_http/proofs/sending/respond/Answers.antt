use Rattle.std.proofs.Common.{[], ◌++◌, if◌then◌else◌}
use Rattle.al_http.specs.Responses.{response_text, body_of, crlf, location_field, fields_text}
use Rattle.al_http.proofs.FrontLemmas.{then_whole, then_text_front, front_longer, on_fault}
use Rattle.al_http.proofs.sending.respond.Goals as goal

pub returns-clause-ok : goal.returns-clause-ok
unfolding response_text
returns-clause-ok g c =
    let response = c.args.response.now in
    then_whole c.send_body.result
    (g.O.Sink.held c.args.sink.now) (g.O.Sink.held c.send_location.new.sink) (g.O.Sink.held c.send_body.new.sink)
    (fields_text response c.args.last) c.send_location.new.buffer (location_field response.location) crlf
    (if response.bare then [] else body_of response.content)
    (rw c.push_fields.ensures.text at c.in_ok-send_location.ensures.ok) c.send_body.ensures.ok

pub returns-clause-fault : goal.returns-clause-fault
unfolding response_text
returns-clause-fault g c =
    let response = c.args.response.now in
    then_text_front c.send_body.result
    (g.O.Sink.held c.args.sink.now) (g.O.Sink.held c.send_location.new.sink) (g.O.Sink.held c.send_body.new.sink)
    (fields_text response c.args.last) c.send_location.new.buffer (location_field response.location) crlf
    (if response.bare then [] else body_of response.content)
    (rw c.push_fields.ensures.text at c.in_ok-send_location.ensures.ok) c.send_body.ensures.fault

pub returns-in_err-send_location-clause-fault : goal.returns-in_err-send_location-clause-fault
unfolding response_text
returns-in_err-send_location-clause-fault g c =
    let response = c.args.response.now in
    let body = if response.bare then [] else body_of response.content in
    let held = fields_text response c.args.last ++ location_field response.location in
    on_fault c.from_residual.result (g.O.Sink.held c.args.sink.now) (g.O.Sink.held c.send_location.new.sink) (held ++ crlf ++ body)
    (front_longer (g.O.Sink.held c.args.sink.now) (g.O.Sink.held c.send_location.new.sink) (held ++ crlf) body
    (front_longer (g.O.Sink.held c.args.sink.now) (g.O.Sink.held c.send_location.new.sink) held crlf
    (rw c.push_fields.ensures.text at c.in_err-send_location.ensures.fault)))
