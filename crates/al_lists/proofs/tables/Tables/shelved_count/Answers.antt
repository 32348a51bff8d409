use Rattle.std.proofs.Common.{ap, ◌∙◌, length}
use Rattle.al_model.specs.State.{shelved}
use Rattle.al_contents.proofs.Sides.{shelved_is}
use Rattle.al_lists.proofs.tables.Tables.shelved_count.Goals as goal

pub returns : goal.returns
returns c = c.shelved_count.ensures ∙ ap length (shelved_is c.self.inside.contents.state c.self.invariant) ∙ ap (λ t. length (shelved t.state)) c.self.view_is
