use Rattle.std.proofs.Common.{arith}
use Rattle.al_office.proofs.Holding.{can_note}
use Rattle.al_office.proofs.taking.take.Goals as goal

pub prepare-requires-clause-note : goal.prepare-requires-clause-note
prepare-requires-clause-note g c = can_note c.args.ledger.now.entries (omega (arith, c.requires.used, c.in_ok-record.ensures.small))
