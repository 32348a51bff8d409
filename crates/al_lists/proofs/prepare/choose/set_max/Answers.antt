use Rattle.std.proofs.Common.{◌&&◌, ap, ◌∙◌}
use Rattle.std.specs.List.{list_any}
use Rattle.al_model.specs.declared.event.Side.TheVariants as sides
use Rattle.al_contents.specs.Views.{is_at}
use Rattle.al_lists.specs.Moves.{is_cut}
use Rattle.al_lists.proofs.Preparing.{max_prepared}
use Rattle.al_lists.proofs.prepare.choose.set_max.Goals as goal

pub returns : goal.returns
returns c =
    max_prepared c.args.contents.now c.args.time c.args.max c.cuts.result c.cuts-2.result c.requires
    (c.cuts.ensures ∙ ap (list_any (λ a. is_at sides.List a && is_cut c.args.max a)) c.alarms.ensures.states)
    (c.cuts-2.ensures ∙ ap (list_any (λ a. is_at sides.Shelf a && is_cut c.args.max a)) c.alarms-2.ensures.states)
