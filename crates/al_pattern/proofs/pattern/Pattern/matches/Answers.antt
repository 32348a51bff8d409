use Rattle.std.proofs.Common.{rules, chars}
use Rattle.std.specs.Bool.{Decides}
use Rattle.std.proofs.lemmas.Bool.Decides.{same_from_decides}
use Rattle.al_pattern.specs.Language.{IsInLanguage}
use Rattle.al_pattern.specs.Membership.{is_in_language}
use Rattle.al_pattern.specs.Reading.{tree_of}
use Rattle.al_pattern.proofs.MembershipLaws.{decides_language}
use Rattle.al_pattern.proofs.pattern.Pattern.matches.Goals as goal

pub returns-clause-value : goal.returns-clause-value
returns-clause-value c =
    let pattern = c.args.self.now in
    let text = chars c.args.text.now in
    let said : Decides c.accepts.result (IsInLanguage (tree_of pattern) text) = search rules in
    same_from_decides c.accepts.result (is_in_language pattern text) said (decides_language pattern text)
