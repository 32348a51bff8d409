use Rattle.std.proofs.Common.{not, rules}
use Rattle.std.proofs.lemmas.Fn.{filter_same}
use Rattle.al_contents.specs.Views.{AlarmView, goes}
use Rattle.al_contents.proofs.edits.purge.Goals as goal

-- the closure tells whether an alarm stays
pub returns-clause-items : goal.returns-clause-items
returns-clause-items c =
    filter_same _ (λ (v : AlarmView). not (goes c.args.side c.args.filter.now c.args.time v.state)) _ (λ v b g called. search rules) _ _ c.retain.ensures.filtered
