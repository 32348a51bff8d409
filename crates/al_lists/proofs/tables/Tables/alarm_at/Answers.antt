use Rattle.std.proofs.Common.{ap, ◌∙◌}
use Rattle.std.specs.List.{slice_get}
use Rattle.al_model.specs.State.{listed}
use Rattle.al_contents.proofs.Sides.{listed_is}
use Rattle.al_lists.proofs.tables.Tables.alarm_at.Goals as goal

pub returns : goal.returns
returns c =
    c.listed_at.ensures ∙ ap (λ xs. slice_get xs c.args.i) (listed_is c.self.inside.contents.state c.self.invariant)
    ∙ ap (λ t. slice_get (listed t.state) c.args.i) c.self.view_is
