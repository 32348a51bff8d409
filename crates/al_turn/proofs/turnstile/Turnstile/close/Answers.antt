use Rattle.std.proofs.Common.{◌<◌, IsSome, [], ap, refl, append-nil, arith, rules, subst, sym, ◌∙◌}
use Rattle.al_turn.proofs.Closing.{closing, popped_table, same_but_joined, split_first}
use Rattle.al_turn.proofs.Seats.{no_slots, same_value}
use Rattle.al_turn.proofs.Splits.{joins}
use Rattle.al_turn.specs.Passes.{AllPasses, Closed}
use Rattle.al_turn.specs.Views.{rank}
use Rattle.al_turn.proofs.turnstile.Turnstile.close.Goals as goal

pub loop-pass-init : goal.loop-pass-init
loop-pass-init g c =
    let split = split_first c.args.passes.items c.remove.result c.remove.new.self.items c.requires.some_pass c.remove.ensures.value c.remove.ensures.items in
    let all = subst (AllPasses c.args.self.table) split c.requires in (
      ap (λ p. p.table) c.first.view_is ∙ (all.each 0 c.remove.result refl).1 ∙ sym (ap (λ t. t.table) c.self.view_is),
      ([], sym (append-nil c.remove.new.self.items), no_slots c.first.inside.seat.me c.first.invariant),
    )

pub join_seat-requires : goal.join_seat-requires
join_seat-requires g c =
    let split = split_first c.args.passes.items c.remove.result c.remove.new.self.items c.requires.some_pass c.remove.ensures.value c.remove.ensures.items in
    let inv = c.loop-pass.invariant in
    let own = popped_table c.args.self.table c.args.passes.items c.remove.result c.remove.new.self.items c.loop-pass.passes.items c.pop.new.self.items c.in-Some.pass inv.1.0
    c.requires split inv.1.1 c.in-Some.ensures.items in
    let same = same_but_joined c.first.inside.seat.me.0 inv.1.0 in
    let number = ap (λ m. m.0.number) inv.1.2 ∙ ap (λ v. v.number) same in
    let stage = ap (λ m. rank m.0.stage) inv.1.2 ∙ ap (λ v. rank v.stage) same in
    let first = c.first.invariant in (
      inv.0,
      ap (λ p. p.table) c.pass.view_is ∙ own ∙ sym (ap (λ t. t.table) c.self.view_is),
      c.pass.invariant.slots,
      omega arith,
      joins g.T.Kept.mark _ _ _ _ _ (subst (λ n. 0 < n) (sym number) first.number) (stage ∙ first.stage) c.pass.invariant.number c.pass.invariant.stage,
    )

pub unwrap-value-requires : goal.unwrap-value-requires
unwrap-value-requires g c =
    let split = split_first c.args.passes.items c.remove.result c.remove.new.self.items c.requires.some_pass c.remove.ensures.value c.remove.ensures.items in
    let inv = c.loop-pass.invariant in
    let none = c.in_default.ensures.cases.0 in
    let count = c.loop-pass.passes.ok.0 in
    let start = g.T.Kept.mark c.self.inside.table.shared.key.value in
    let done = closing g.T.Kept.mark start c.args.self.table c.loop-pass.first.id c.loop-pass.first.me c.args.passes.items c.remove.result c.first.inside.seat.me.0 c.remove.new.self.items c.loop-pass.passes.items inv.1.0
    _ _ c.take.result c.requires split c.first.invariant.stage (ap (λ p. p.view) c.first.view_is) inv.1.1 (omega arith) inv.1.2 c.close_with-closed.ensures.values.2 c.take.ensures.value in
    subst IsSome (sym done.1) (search rules)

pub returns : goal.returns
returns g c =
    let split = split_first c.args.passes.items c.remove.result c.remove.new.self.items c.requires.some_pass c.remove.ensures.value c.remove.ensures.items in
    let inv = c.loop-pass.invariant in
    let none = c.in_default.ensures.cases.0 in
    let count = c.loop-pass.passes.ok.0 in
    let start = g.T.Kept.mark c.self.inside.table.shared.key.value in
    let done = closing g.T.Kept.mark start c.args.self.table c.loop-pass.first.id c.loop-pass.first.me c.args.passes.items c.remove.result c.first.inside.seat.me.0 c.remove.new.self.items c.loop-pass.passes.items inv.1.0
    _ _ c.take.result c.requires split c.first.invariant.stage (ap (λ p. p.view) c.first.view_is) inv.1.1 (omega arith) inv.1.2 c.close_with-closed.ensures.values.2 c.take.ensures.value in
    let value = same_value done.0 c.unwrap-value.result c.take.result done.1 c.unwrap-value.ensures in
    subst (λ m. Closed m c.args.passes.items (g.T.Kept.mark c.unwrap-value.result)) (ap (λ t. t.start) c.self.view_is)
    (subst (λ x. Closed start c.args.passes.items (g.T.Kept.mark x)) value done.2)
