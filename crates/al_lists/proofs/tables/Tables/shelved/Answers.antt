use Rattle.std.proofs.Common.{ap, ◌∙◌}
use Rattle.std.specs.Option.{option_copied, option_map}
use Rattle.al_model.specs.Alarms.{alarm_of}
use Rattle.al_model.specs.State.{shelved}
use Rattle.al_model.specs.declared.event.Side.TheVariants as sides
use Rattle.al_contents.specs.Views.{AlarmView}
use Rattle.al_contents.proofs.Sides.{alarm_on, if_at, states_at}
use Rattle.al_lists.proofs.tables.Tables.shelved.Goals as goal

pub find-requires : goal.find-requires
find-requires c = c.self.invariant.order

pub returns : goal.returns
returns c =
    let key = c.args.key.now in
    ap (option_map (λ (v : AlarmView). v.state)) c.if_at.ensures ∙ states_at sides.Shelf (option_copied c.find.result) ∙ ap (if_at sides.Shelf) c.find.ensures
    ∙ alarm_on c.self.inside.contents.state sides.Shelf key c.self.invariant ∙ ap (λ t. alarm_of key (shelved t.state)) c.self.view_is
