use Rattle.std.proofs.Common.{arith}
use Rattle.al_commands.proofs.Numbers.{no_text}
use Rattle.al_commands.proofs.command.number.Goals as goal

pub returns-in_default : goal.returns-in_default
returns-in_default c = λ number most is.
    no_text c.args.digits.now c.args.greatest number (omega (arith, c.ranges.greatest.fits)) c.in_default.ensures.cases.0 most is
