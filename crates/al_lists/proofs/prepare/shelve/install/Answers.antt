use Rattle.std.proofs.Common.{subst, sym}
use Rattle.al_model.specs.Validity.{IsValid}
use Rattle.al_contents.specs.Edits.{HaveRoom}
use Rattle.al_contents.specs.Views.{states}
use Rattle.al_lists.proofs.Preparing.{install_prepared, inventory_prepared}
use Rattle.al_lists.proofs.prepare.shelve.install.Goals as goal

pub returns-clause-ok : goal.returns-clause-ok
returns-clause-ok c =
    let s = c.args.contents.now.state in
    let t = c.reserve_moves.new.self in
    let time = c.args.time in
    let inventory = c.in_ok-inventory.inventory in
    let moves = c.in_ok-moves.moves in
    let room = subst (λ xs. HaveRoom xs t.alarms) c.as_slice.ensures.value c.in_ok-reserve_moves.ensures.ok in
    let moved = inventory_prepared s t time inventory c.shelves.result.now.shelves (states c.alarms.result.now) moves c.reserve_moves.ensures.state c.shelves.ensures c.alarms.ensures.states c.in_ok-moves.ensures room in
    install_prepared t time c.args.inventory.now inventory _ (subst IsValid (sym c.reserve_moves.ensures.state) c.requires.valid) c.in_ok-inventory.ensures moved
