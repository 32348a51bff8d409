use Rattle.std.proofs.Common.{◌≡◌, Some, IsUtf8, ap, ◌∙◌, sym, rules}
use Rattle.json.specs.Lex.{tokens}
use Rattle.al_input.specs.Plain.{input_tree, members_said, tree_of}
use Rattle.al_input.proofs.PlainLemmas.{answered}
use Rattle.al_input.proofs.Within.{plain_within}
use Rattle.al_input.proofs.plain.plain_report.Goals as goal

pub returns-clause-exact : goal.returns-clause-exact
returns-clause-exact c =
    let bytes = c.args.bytes.now in
    let found = c.in_ok-said.ensures in
    let ms = members_said c.in_ok-said.said in
    let same : c.in-Ok.text.now ≡ bytes = search rules in
    let utf8 : IsUtf8 bytes = search rules in
    let tree : tree_of (tokens bytes) ≡ Some (input_tree found.0 ms) = ap (λ t. tree_of (tokens t)) (sym same) ∙ ap tree_of (sym c.in-Ok-new.ensures.ok) ∙ found.2 in
    answered bytes found.0 ms c.report.result utf8 found.1 tree c.report.ensures

pub returns-clause-within : goal.returns-clause-within
returns-clause-within c =
    let bytes = c.args.bytes.now in
    let found = c.in_ok-said.ensures in
    let ms = members_said c.in_ok-said.said in
    let same : c.in-Ok.text.now ≡ bytes = search rules in
    let utf8 : IsUtf8 bytes = search rules in
    let tree : tree_of (tokens bytes) ≡ Some (input_tree found.0 ms) = ap (λ t. tree_of (tokens t)) (sym same) ∙ ap tree_of (sym c.in-Ok-new.ensures.ok) ∙ found.2 in
    let said = answered bytes found.0 ms c.report.result utf8 found.1 tree c.report.ensures in
    plain_within said.0 c.report.result said.3
