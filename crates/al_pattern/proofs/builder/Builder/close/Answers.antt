use Rattle.std.proofs.Common.{◌-◌, arith, ap, ◌∙◌}
use Rattle.al_pattern.proofs.BuildLemmas.{opening_within, builds_close}
use Rattle.al_pattern.proofs.builder.Builder.close.Goals as goal

pub overflow_sub-inner : goal.overflow_sub-inner
overflow_sub-inner c =
    let within = opening_within c.requires.0 c.args.self.now.nodes.items c.pop.new.self.items c.args.self.now.opens.items c.in-Some.open c.requires.1 c.in-Some.ensures.items in
    omega (arith, within)

pub overflow_sub-inner-in-Some : goal.overflow_sub-inner-in-Some
overflow_sub-inner-in-Some c =
    let within = opening_within c.requires.0 c.args.self.now.nodes.items c.pop.new.self.items c.args.self.now.opens.items c.in-Some.open c.requires.1 c.in-Some.ensures.items in
    omega (arith, within)

pub index_mut-requires : goal.index_mut-requires
index_mut-requires c =
    let within = opening_within c.requires.0 c.args.self.now.nodes.items c.pop.new.self.items c.args.self.now.opens.items c.in-Some.open c.requires.1 c.in-Some.ensures.items in
    omega (arith, within)

pub returns-in_ok-push : goal.returns-in_ok-push
returns-in_ok-push c p built =
    rw c.in_ok-push.ensures.items (builds_close p c.args.self.now.nodes.items c.pop.new.self.items c.args.self.now.opens.items c.in-Some.open
    (c.len.result - c.in-Some.open - 1) c.args.quantifier built c.in-Some.ensures.items (ap (λ n. n - c.in-Some.open - 1) (c.len.ensures ∙ c.args.self.now.nodes.ok.0)))
