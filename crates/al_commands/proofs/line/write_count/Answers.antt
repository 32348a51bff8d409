use Rattle.std.proofs.Common.{◌++◌, ◌∙◌}
use Rattle.std.specs.Prelude.{decimal}
use Rattle.al_commands.proofs.Lines.{front_longer, on_fault, then_front}
use Rattle.al_commands.proofs.line.write_count.Goals as goal

pub returns-in_err-write_all-clause-fault : goal.returns-in_err-write_all-clause-fault
returns-in_err-write_all-clause-fault g c =
    on_fault c.from_residual.result (g.O.Sink.held c.args.sink.now) (g.O.Sink.held c.write_all.new.sink) (c.args.count.now.words.now ++ decimal c.args.count.now.number)
    (front_longer _ _ c.args.count.now.words.now (decimal c.args.count.now.number) c.in_err-write_all.ensures.fault)

pub returns-clause-fault : goal.returns-clause-fault
returns-clause-fault g c =
    then_front c.write_all-2.result (g.O.Sink.held c.args.sink.now) (g.O.Sink.held c.write_all.new.sink) (g.O.Sink.held c.write_all-2.new.sink)
    c.args.count.now.words.now (decimal c.args.count.now.number) c.in_ok-write_all.ensures.ok
    (rw (c.as_bytes.ensures.value ∙ c.format-digits.ensures.text) at c.write_all-2.ensures.fault)
