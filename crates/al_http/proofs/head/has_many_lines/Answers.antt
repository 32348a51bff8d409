use Rattle.std.proofs.Common.{sym}
use Rattle.al_http.proofs.LineLemmas.{lines_at, no_lines}
use Rattle.al_http.proofs.head.has_many_lines.Goals as goal

pub returns-in-Some : goal.returns-in-Some
returns-in-Some c = lines_at c.args.block.now c.in-Some.start c.count_ends.result (sym c.in-Some.ensures) c.count_ends.ensures

pub returns-in-None : goal.returns-in-None
returns-in-None c = no_lines c.args.block.now (sym c.in-None.ensures)
