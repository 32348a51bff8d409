use Rattle.al_http.proofs.FrontLemmas.{then_front}
use Rattle.al_http.proofs.sending.send_with.Goals as goal

pub returns-clause-fault : goal.returns-clause-fault
returns-clause-fault g c =
    then_front c.write_all-3.result
    (g.O.Sink.held c.args.sink.now) (g.O.Sink.held c.write_all-2.new.sink) (g.O.Sink.held c.write_all-3.new.sink)
    c.args.buffer.now c.args.text.now
    (rw c.bytes-2.ensures at c.in_ok-write_all.ensures.ok) c.write_all-3.ensures.fault
