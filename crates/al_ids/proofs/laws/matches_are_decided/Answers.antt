use Rattle.al_ids.proofs.MatchingLaws.{decides_match}
use Rattle.al_ids.proofs.laws.matches_are_decided.Goals as goal

pub returns : goal.returns
returns c = decides_match
