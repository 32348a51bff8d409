use Rattle.std.proofs.Common.{◌≤◌, take}
use Rattle.std.specs.Io.KnownBytes.{Appends}
use Rattle.al_commands.specs.Lines.{counts_text}
use Rattle.al_commands.proofs.line.write_counts.Given as goal

abbrev pub invariant-loop-count : goal.invariant-loop-count
invariant-loop-count g l = record {
  written : Appends (g.O.Sink.held l.fn.sink) (g.O.Sink.held l.sink) (counts_text (take l.count-index l.counts));
  later : g.O.Sink.faults l.fn.sink ≤ g.O.Sink.faults l.sink;
}
