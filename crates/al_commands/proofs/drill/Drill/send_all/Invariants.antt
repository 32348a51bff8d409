use Rattle.std.proofs.Common.{◌≡◌, ◌+◌, ◌-◌}
use Rattle.al_commands.specs.Draws.{drill_texts, texts_from}
use Rattle.al_commands.specs.Drills.{SendsAll, Tally, no_tally}
use Rattle.al_commands.proofs.drill.Drill.send_all.Given as goal

abbrev pub invariant-loop-sent : goal.invariant-loop-sent
invariant-loop-sent l = record {
  answered : l.self.ok + l.self.refused ≡ l.sent + 1;
  behind : (after : Tally) → SendsAll (texts_from l.draws.number (l.count - l.sent)) l.self after → SendsAll (drill_texts l.seed l.count) no_tally after;
}
