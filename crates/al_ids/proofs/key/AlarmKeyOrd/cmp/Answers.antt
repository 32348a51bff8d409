use Rattle.std.proofs.Common.{◌≡◌, rules, sym, ◌∙◌}
use Rattle.al_ids.specs.Keys.{key_cmp}
use Rattle.al_ids.proofs.Keyed.{exact_key, equal_key}
use Rattle.al_ids.proofs.key.AlarmKeyOrd.cmp.Goals as goal

pub returns-clause-exact : goal.returns-clause-exact
returns-clause-exact c =
    let key = c.args.self.now in
    let other = c.args.other.now in
    let value : c.order.result ≡ key_cmp key other = search rules in
    (λ e. exact_key key other (sym value ∙ e), λ e. value ∙ equal_key key other e)
