-- Past the last severity nothing is written.
use Rattle.std.proofs.Common.{append-nil, sym}
use Rattle.al_json.proofs.Finding.{summary_past}
use Rattle.al_json.proofs.summary.CountsSeries.put_at.Goals as goal

pub returns-in_default-clause-items : goal.returns-in_default-clause-items
returns-in_default-clause-items c =
    rw (summary_past c.args.self.now.0.now.rows c.args.i (sym c.in_default.ensures.severity)) (sym (append-nil c.args.out.now.items))
