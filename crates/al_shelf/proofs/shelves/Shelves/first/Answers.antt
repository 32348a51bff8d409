use Rattle.std.proofs.Common.{◌≡◌, ℕ, ◌<◌, List, length, refl, arith, ap, sym, subst, ◌∙◌}
use Rattle.std.proofs.lemmas.Option.{slice_get_read}
use Rattle.std.specs.Prelude.{find, position, slice_get}
use Rattle.al_shelf.specs.Takes.{TakesAt}
use Rattle.al_shelf.specs.Taking.{takes}
use Rattle.al_shelf.specs.declared.shelf.Shelf.{Shelf}
use Rattle.al_shelf.proofs.Puts.{bare}
use Rattle.al_shelf.proofs.TakingLaws.{fails_more, found, not_found}
use Rattle.al_shelf.proofs.Takings.{none_to_next, none_at_all}
use Rattle.al_shelf.proofs.shelves.Shelves.first.Goals as goal

pub returns-then-takes-clause-relation : goal.returns-then-takes-clause-relation
returns-then-takes-clause-relation c =
    let items = c.deref-shelf-items.result.now in
    let lt : c.loop-n.n < length items = omega arith in
    let there = slice_get_read items (length items) c.loop-n.n c.shelf-item.result refl lt c.shelf-item.is in
    let same : items ≡ c.args.self.now.shelves = c.deref-shelf-items.ensures.value ∙ ap (λ v. v.shelves) c.self.view_is in
    let P : List Shelf → Type 0 = λ shelves. TakesAt c.args.inv.now c.args.key.now shelves c.loop-n.n in
    let Q : List Shelf → Type 0 = λ shelves. (k : ℕ) → k < c.loop-n.n → ¬ (TakesAt c.args.inv.now c.args.key.now shelves k) in
    let taken : P items = (c.shelf-item.result, there, c.takes.ensures.relation.0 c.if-takes.true) in
    (subst P same taken, subst Q same c.loop-n.invariant.0)

pub returns-then-takes-clause-position : goal.returns-then-takes-clause-position
returns-then-takes-clause-position c =
    let items = c.deref-shelf-items.result.now in
    let lt : c.loop-n.n < length items = omega arith in
    let there = slice_get_read items (length items) c.loop-n.n c.shelf-item.result refl lt c.shelf-item.is in
    let same : items ≡ c.args.self.now.shelves = c.deref-shelf-items.ensures.value ∙ ap (λ v. v.shelves) c.self.view_is in
    (found (takes c.args.inv.now c.args.key.now) items c.loop-n.n c.shelf-item.result there (sym c.takes.ensures.value ∙ c.if-takes.true) c.loop-n.invariant.1).0
    ∙ ap (position (takes c.args.inv.now c.args.key.now)) same

pub returns-then-takes-clause-shelf : goal.returns-then-takes-clause-shelf
returns-then-takes-clause-shelf c =
    let items = c.deref-shelf-items.result.now in
    let lt : c.loop-n.n < length items = omega arith in
    let there = slice_get_read items (length items) c.loop-n.n c.shelf-item.result refl lt c.shelf-item.is in
    let same : items ≡ c.args.self.now.shelves = c.deref-shelf-items.ensures.value ∙ ap (λ v. v.shelves) c.self.view_is in
    ap (find (takes c.args.inv.now c.args.key.now)) (sym same)
    ∙ (found (takes c.args.inv.now c.args.key.now) items c.loop-n.n c.shelf-item.result there (sym c.takes.ensures.value ∙ c.if-takes.true) c.loop-n.invariant.1).1
    ∙ sym there ∙ ap (λ l. slice_get l c.loop-n.n) same

pub loop-n-preserved : goal.loop-n-preserved
loop-n-preserved c =
    let items = c.deref-shelf-items.result.now in
    let lt : c.loop-n.n < length items = omega arith in
    let there = slice_get_read items (length items) c.loop-n.n c.shelf-item.result refl lt c.shelf-item.is in (
      none_to_next c.args.inv.now c.args.key.now items c.loop-n.n c.shelf-item.result there
          (λ taken. (let yes = c.takes.ensures.relation.1 taken in absurd (cc))) c.loop-n.invariant.0,
      fails_more (takes c.args.inv.now c.args.key.now) items c.loop-n.n c.shelf-item.result there (sym c.takes.ensures.value ∙ c.if-takes.false) c.loop-n.invariant.1,
    )

pub returns-clause-relation : goal.returns-clause-relation
returns-clause-relation c =
    let items = c.deref-shelf-items.result.now in
    let same : items ≡ c.args.self.now.shelves = c.deref-shelf-items.ensures.value ∙ ap (λ v. v.shelves) c.self.view_is in
    let P : List Shelf → Type 0 = λ shelves. (k : ℕ) → ¬ (TakesAt c.args.inv.now c.args.key.now shelves k) in
    subst P same (none_at_all c.args.inv.now c.args.key.now items c.loop-n.n (omega arith) c.loop-n.invariant.0)

pub returns-clause-position : goal.returns-clause-position
returns-clause-position c =
    let items = c.deref-shelf-items.result.now in
    let same : items ≡ c.args.self.now.shelves = c.deref-shelf-items.ensures.value ∙ ap (λ v. v.shelves) c.self.view_is in
    (not_found (takes c.args.inv.now c.args.key.now) items c.loop-n.n bare (omega arith) c.loop-n.invariant.1).0 ∙ ap (position (takes c.args.inv.now c.args.key.now)) same

pub returns-clause-shelf : goal.returns-clause-shelf
returns-clause-shelf c =
    let items = c.deref-shelf-items.result.now in
    let same : items ≡ c.args.self.now.shelves = c.deref-shelf-items.ensures.value ∙ ap (λ v. v.shelves) c.self.view_is in
    ap (find (takes c.args.inv.now c.args.key.now)) (sym same) ∙ (not_found (takes c.args.inv.now c.args.key.now) items c.loop-n.n bare (omega arith) c.loop-n.invariant.1).1
