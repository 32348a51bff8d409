use Rattle.std.proofs.Common.{ap, ◌∙◌}
use Rattle.std.specs.List.{filter, slice_get}
use Rattle.std.specs.Option.{option_and_then, option_map}
use Rattle.al_contents.specs.Views.{AlarmView, is_unmarked}
use Rattle.al_contents.proofs.Sides.{at_side}
use Rattle.al_contents.proofs.contents.Contents.listed_at.Goals as goal

pub returns : goal.returns
returns c =
    let views = c.self.inside.alarms.items in
    let i = c.args.i in
    ap (option_map (λ (v : AlarmView). v.state))
    (c.at_side.ensures ∙ ap (λ xs. option_and_then (slice_get xs) (slice_get c.as_slice-places.result.now i)) c.as_slice-alarms.ensures.value
    ∙ ap (λ places. option_and_then (slice_get views) (slice_get places i)) (c.as_slice-places.ensures.value ∙ c.self.invariant.0.listed))
    ∙ at_side is_unmarked views i ∙ ap (λ t. slice_get (filter is_unmarked t.state.alarms) i) c.self.view_is
