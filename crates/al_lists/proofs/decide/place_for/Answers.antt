use Rattle.std.proofs.Common.{◌≤◌, length, not, subst, arith}
use Rattle.std.specs.Option.{IfSome}
use Rattle.al_model.proofs.Bounds.{length_filter}
use Rattle.al_shelf.specs.Places.{is_named, without}
use Rattle.al_lists.proofs.Judging.{spot_small}
use Rattle.al_lists.proofs.decide.place_for.Goals as goal

pub overflow_cast-result : goal.overflow_cast-result
overflow_cast-result c =
    let s = c.args.contents.now.state in
    let name = c.args.shelf.now.name in
    let few = c.requires.shelves.few in
    let fewer = length_filter (λ shelf. not (is_named name shelf)) s.shelves in
    let within : IfSome c.place_for.result (λ p. p ≤ length (without name s.shelves)) = subst (λ l. IfSome c.place_for.result (λ p. p ≤ length (without name l))) c.shelves-shelves.ensures c.place_for.ensures.within in
    let left : length (without name s.shelves) ≤ 64 = omega arith in
    let small = spot_small c.place_for.result (length (without name s.shelves)) within left in
    omega (arith, small, c.unwrap_or.ensures)
