use Rattle.std.proofs.Common.{◌≡◌, ap, ◌∙◌, length, rules}
use Rattle.std.specs.List.{filter}
use Rattle.al_contents.specs.Views.{is_marked, states}
use Rattle.al_contents.proofs.Sides.{count_side}
use Rattle.al_contents.proofs.contents.Contents.shelved_count.Goals as goal

pub returns : goal.returns
returns c =
    let count : c.len.result ≡ length c.self.inside.shelved.items = search (rules, c.len.ensures) in
    count ∙ ap length c.self.invariant.0.shelved ∙ count_side is_marked (states c.self.inside.alarms.items) ∙ ap (λ t. length (filter is_marked t.state.alarms)) c.self.view_is
