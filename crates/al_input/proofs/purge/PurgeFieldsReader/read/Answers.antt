use Rattle.std.proofs.Common.{refl}
use Rattle.al_input.specs.Inputs.{purge}
use Rattle.al_input.proofs.purge.PurgeFieldsReader.read.Goals as goal

pub returns : goal.returns
unfolding purge
returns c = rw (c.in_ok-check_names.ensures, c.in_ok-clearance.ensures, c.in_ok-age.ensures, c.in_ok-severity.ensures, c.in_ok-state.ensures) refl
