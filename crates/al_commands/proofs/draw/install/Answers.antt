use Rattle.std.proofs.Common.{refl}
use Rattle.std.specs.Fmt.{digits}
use Rattle.al_commands.proofs.draw.install.Goals as goal

pub returns : goal.returns
unfolding digits
returns c = refl
