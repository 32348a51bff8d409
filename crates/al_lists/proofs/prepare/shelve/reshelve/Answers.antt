use Rattle.std.proofs.Common.{subst}
use Rattle.al_contents.specs.Edits.{HaveRoom}
use Rattle.al_lists.proofs.Preparing.{shelves_prepared}
use Rattle.al_lists.proofs.prepare.shelve.reshelve.Goals as goal

pub returns-clause-ok : goal.returns-clause-ok
returns-clause-ok c =
    let t = c.reserve_moves.new.self in
    shelves_prepared c.args.contents.now.state t c.args.time c.args.shelves c.in_ok-moves.moves c.reserve_moves.ensures.state c.in_ok-moves.ensures
    (subst (λ moves. HaveRoom moves t.alarms) c.as_slice.ensures.value c.in_ok-reserve_moves.ensures.ok)
