use Rattle.std.proofs.Common.{◌≡◌, ◌&&◌, Bool, refl, rules, sym, ◌∙◌, tests}
use Rattle.std.specs.List.{list_any}
use Rattle.std.proofs.lemmas.Iterator.{YieldsList-from_slice}
use Rattle.std.proofs.lemmas.Iterator.Search.{any_from_yields_List}
use Rattle.al_model.specs.State.{AlarmState}
use Rattle.al_model.proofs.Living.{any_map}
use Rattle.al_contents.specs.Views.{AlarmView, is_at}
use Rattle.al_lists.specs.Moves.{is_cut}
use Rattle.al_lists.proofs.prepare.choose.cuts.Goals as goal

pub returns : goal.returns
returns c =
    let views = c.args.alarms.now in
    let of_state : AlarmState → Bool = λ a. is_at c.args.side a && is_cut c.args.max a in
    let test : AlarmView → Bool = λ v. of_state v.state in
    let any : c.any.result ≡ list_any test views =
    any_from_yields_List test _ _ c.any.result c.any.ensures.ran (YieldsList-from_slice views cc) (λ x b q k. search (rules, tests)) in
    any ∙ sym (any_map of_state test (λ (v : AlarmView). v.state) (λ v. refl) views)
