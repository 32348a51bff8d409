use Rattle.std.proofs.Common.{ap, ◌∙◌}
use Rattle.std.specs.List.{slice_get}
use Rattle.al_model.specs.State.{shelved}
use Rattle.al_contents.proofs.Sides.{shelved_is}
use Rattle.al_lists.proofs.tables.Tables.shelved_at.Goals as goal

pub returns : goal.returns
returns c =
    c.shelved_at.ensures ∙ ap (λ xs. slice_get xs c.args.i) (shelved_is c.self.inside.contents.state c.self.invariant)
    ∙ ap (λ t. slice_get (shelved t.state) c.args.i) c.self.view_is
