use Rattle.al_ids.proofs.Keyed.{exact_key, equal_key}
use Rattle.al_ids.proofs.laws.equal_keys_are_one.Goals as goal

pub returns : goal.returns
returns c = λ a b. (exact_key a b, equal_key a b)
