use Rattle.al_pattern.proofs.MembershipLaws.{decides_language}
use Rattle.al_pattern.proofs.laws.language_is_decided.Goals as goal

pub returns : goal.returns
returns c = decides_language
