use Rattle.std.proofs.Common.{◌≡◌, ◌<◌, length, refl, take, arith, ap, sym, subst, ◌∙◌}
use Rattle.std.proofs.lemmas.Option.{slice_get_read}
use Rattle.std.specs.Option.{option_copied}
use Rattle.al_contents.specs.Views.{states}
use Rattle.al_lists.specs.Moves.{AddsMove, AreMoves, first_name}
use Rattle.al_lists.proofs.Moving.{moves_more, take_more}
use Rattle.al_lists.proofs.prepare.moves.Moves.to.Goals as goal

pub loop-alarm-preserved : goal.loop-alarm-preserved
loop-alarm-preserved c =
    let time = c.args.time in
    let views = c.args.alarms.now in
    let i = c.loop-alarm.alarm-index in
    let v = c.alarm-item.result in
    let before = c.loop-alarm.moves in
    let after = c.add.new.self in
    let names = first_name c.args.inventory.now c.args.shelves.now.shelves in
    let lt : i < length views = omega arith in
    let there = slice_get_read views (length views) i v refl lt c.alarm-item.is in
    let name : option_copied c.first_name-name.result ≡ names v.state.key = c.first_name-name.ensures ∙ ap names c.key.ensures in
    let adds =
    subst (λ m. AddsMove time m (names v.state.key) before after) c.shelf_name.ensures
    (subst (λ n. AddsMove time (option_copied c.shelf_name.result) n before after) name c.in_ok-add.ensures) in
    subst (λ xs. AreMoves time names xs after) (sym (take_more views i v there)) (moves_more time names (take i (states views)) v.state before after c.loop-alarm.invariant adds)
