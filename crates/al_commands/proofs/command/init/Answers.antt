use Rattle.std.proofs.Common.{inl, inr, arith}
use Rattle.al_commands.proofs.Rows.{no_init}
use Rattle.al_commands.proofs.command.init.Goals as goal

pub returns-else-is_journal : goal.returns-else-is_journal
returns-else-is_journal c =
    no_init c.args.journal.now c.args.capacity.now c.in_ok-capacity.capacity c.in_ok-capacity.ensures.0 c.in_ok-capacity.ensures.1
    (λ journal least. elim c.else-is_journal.either [ inl both ↦ omega (arith, both.1, least) | inr other ↦ absurd (let yes = c.is_journal.ensures.1 journal in cc) ])
