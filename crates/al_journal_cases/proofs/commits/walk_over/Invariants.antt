use Rattle.std.proofs.Common.{◌≡◌}
use Rattle.al_journal_cases.proofs.commits.walk_over.Given as goal

abbrev pub invariant-loop-count : goal.invariant-loop-count
invariant-loop-count l = l.journal.doubt ≡ l.initial.journal.doubt
