use Rattle.al_types.proofs.Heirs.{derives_decides}
use Rattle.al_types.proofs.laws.heirs_derive.Goals as goal

pub returns : goal.returns
returns c = derives_decides
