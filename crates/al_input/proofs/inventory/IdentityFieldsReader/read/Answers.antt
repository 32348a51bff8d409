use Rattle.std.proofs.Common.{refl}
use Rattle.al_input.specs.Inputs.{identity}
use Rattle.al_input.proofs.inventory.IdentityFieldsReader.read.Goals as goal

pub returns : goal.returns
unfolding identity
returns c = rw (c.in_ok-check_names.ensures, c.in_ok-name.ensures, c.in_ok-base.ensures) refl
