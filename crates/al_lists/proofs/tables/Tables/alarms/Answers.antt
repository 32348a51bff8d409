use Rattle.std.proofs.Common.{ap, ◌∙◌, length}
use Rattle.al_model.specs.State.{listed}
use Rattle.al_contents.proofs.Sides.{listed_is}
use Rattle.al_lists.proofs.tables.Tables.alarms.Goals as goal

pub returns : goal.returns
returns c = c.listed_count.ensures ∙ ap length (listed_is c.self.inside.contents.state c.self.invariant) ∙ ap (λ t. length (listed t.state)) c.self.view_is
