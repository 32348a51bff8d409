use Rattle.std.proofs.Common.{rules}
use Rattle.std.specs.Bool.{Decides}
use Rattle.std.proofs.lemmas.Bool.Decides.{same_from_decides}
use Rattle.al_ids.specs.Matches.{Matches}
use Rattle.al_ids.specs.Matching.{matches}
use Rattle.al_ids.proofs.MatchingLaws.{decides_match}
use Rattle.al_ids.proofs.resource_match.ResourceMatch.matches.Goals as goal

pub returns-clause-value : goal.returns-clause-value
returns-clause-value c =
    let said : Decides c.takes.result (Matches c.args.self.now c.args.resource.now) = search rules in
    same_from_decides c.takes.result (matches c.args.self.now c.args.resource.now) said (decides_match c.args.self.now c.args.resource.now)
