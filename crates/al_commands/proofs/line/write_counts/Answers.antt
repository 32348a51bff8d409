use Rattle.std.proofs.Common.{◌++◌}
use Rattle.al_commands.specs.Lines.{counts_text, line_end}
use Rattle.al_commands.proofs.Lines.{all_written, counts_front, on_fault, then_front}
use Rattle.al_commands.proofs.line.write_counts.Goals as goal

pub returns-in_err-write_count-clause-fault : goal.returns-in_err-write_count-clause-fault
returns-in_err-write_count-clause-fault g c =
    on_fault c.from_residual.result (g.O.Sink.held c.args.sink.now) (g.O.Sink.held c.write_count.new.sink) (counts_text c.args.counts.now ++ line_end)
    (counts_front _ _ _ c.args.counts.now c.loop-count.count-index _ c.loop-count-test.true c.loop-count.invariant.written c.in_err-write_count.ensures.fault)

pub returns-clause-fault : goal.returns-clause-fault
returns-clause-fault g c =
    then_front c.write_all.result (g.O.Sink.held c.args.sink.now) (g.O.Sink.held c.loop-count.sink) (g.O.Sink.held c.write_all.new.sink)
    (counts_text c.args.counts.now) line_end
    (all_written _ _ c.args.counts.now c.loop-count.count-index c.loop-count-test.false c.loop-count.auto.count-index-end c.loop-count.invariant.written) c.write_all.ensures.fault
