use Rattle.al_input.specs.Inputs.{inventory}
use Rattle.al_input.proofs.inventory.InventoryFieldsReader.read.Goals as goal

pub returns : goal.returns
unfolding inventory
returns c = rw (c.in_ok-check_names.ensures, c.in_ok-identities.ensures, c.in_ok-rows.ensures) c.built.ensures
