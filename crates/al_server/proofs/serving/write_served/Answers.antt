use Rattle.std.proofs.Common.{◌++◌}
use Rattle.std.specs.Prelude.{codes}
use Rattle.al_http.proofs.FrontLaws.{appends_more, front_more}
use Rattle.al_server.proofs.Fronts.{front_longer, on_fault, then_front}
use Rattle.al_commands.specs.Lines.{count_text}
use Rattle.al_server.specs.Serving.{served_line}
use Rattle.al_server.proofs.serving.write_served.Goals as goal

pub returns-in_err-write_count-clause-fault : goal.returns-in_err-write_count-clause-fault
returns-in_err-write_count-clause-fault g c =
    let first = count_text (codes "served ") c.args.connections in
    let second = count_text (codes " connections, ") c.args.entries in
    on_fault c.from_residual.result (g.O.Sink.held c.args.sink.now) (g.O.Sink.held c.write_count.new.sink) (served_line c.args.connections c.args.entries)
    (front_longer _ _ (first ++ second) (codes " entries\n") (front_longer _ _ first second c.in_err-write_count.ensures.fault))

pub returns-in_err-write_count-2-clause-fault : goal.returns-in_err-write_count-2-clause-fault
returns-in_err-write_count-2-clause-fault g c =
    let first = count_text (codes "served ") c.args.connections in
    let second = count_text (codes " connections, ") c.args.entries in
    on_fault c.from_residual-in_err-write_count-2.result (g.O.Sink.held c.args.sink.now) (g.O.Sink.held c.write_count-2.new.sink) (served_line c.args.connections c.args.entries)
    (front_longer _ _ (first ++ second) (codes " entries\n") (front_more _ _ _ first second c.in_ok-write_count.ensures.ok c.in_err-write_count-2.ensures.fault))

pub returns-clause-fault : goal.returns-clause-fault
returns-clause-fault g c =
    let first = count_text (codes "served ") c.args.connections in
    let second = count_text (codes " connections, ") c.args.entries in
    then_front c.write_all.result (g.O.Sink.held c.args.sink.now) (g.O.Sink.held c.write_count-2.new.sink) (g.O.Sink.held c.write_all.new.sink) (first ++ second) (codes " entries\n")
    (appends_more _ _ _ first second c.in_ok-write_count.ensures.ok c.in_ok-write_count-2.ensures.ok) c.write_all.ensures.fault
