use Rattle.std.proofs.Common.{ap, ◌∙◌}
use Rattle.al_model.specs.Summary.{has_shelved}
use Rattle.al_lists.proofs.Tallies.{shelves_active}
use Rattle.al_lists.proofs.tables.Tables.summary.Goals as goal

pub returns-clause-shelves : goal.returns-clause-shelves
returns-clause-shelves c =
    shelves_active c.self.inside.contents.state c.self.invariant c.shelved_count.result c.shelved_count.ensures ∙ ap (λ t. has_shelved t.state) c.self.view_is
