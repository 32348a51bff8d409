use Rattle.std.proofs.Common.{◌≡◌, length, ◌∙◌}
use Rattle.al_pattern.proofs.BuildLemmas.{builds_open}
use Rattle.al_pattern.proofs.builder.Builder.put.Goals as goal

pub returns-in_ok-push-in-Open-2 : goal.returns-in_ok-push-in-Open-2
returns-in_ok-push-in-Open-2 c p built =
    let count : c.len.result ≡ length c.args.self.now.nodes.items = c.len.ensures ∙ c.args.self.now.nodes.ok.0 in
    rw (c.in-Open.is, c.in_ok-push-in-Open-2.ensures.items, c.in_ok-push-in-Open.ensures.items, count)
    (builds_open p c.args.self.now.nodes.items c.args.self.now.opens.items built)
