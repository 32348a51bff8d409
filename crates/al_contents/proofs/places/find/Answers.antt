use Rattle.std.proofs.Common.{ap, sym, ◌∙◌}
use Rattle.std.specs.Option.{option_map}
use Rattle.std.proofs.lemmas.Option.{slice_get-map}
use Rattle.al_contents.specs.Views.{AlarmView}
use Rattle.al_contents.proofs.places.find.Goals as goal

pub returns-in-Ok : goal.returns-in-Ok
returns-in-Ok c =
    ap (option_map (λ (v : AlarmView). v.state)) c.at.ensures ∙ sym (slice_get-map (λ (v : AlarmView). v.state) c.args.alarms.now c.in-Ok.place)
    ∙ c.in-Ok.ensures.stands ∙ sym c.in-Ok.ensures.found

pub returns-in-Err : goal.returns-in-Err
returns-in-Err c = sym c.in-Err.ensures.none
