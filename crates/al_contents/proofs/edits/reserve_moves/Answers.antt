use Rattle.std.proofs.Common.{◌≡◌, ◌+◌, ◌<◌, [], ◌∷◌, ◌++◌, length, take, ap, sym, subst, ◌∙◌, arith, length-take, rules, vec_len}
use Rattle.std.specs.List.{slice_set}
use Rattle.std.proofs.lemmas.List.{take_more}
use Rattle.al_contents.specs.Edits.{HaveRoom}
use Rattle.al_contents.proofs.Editing.{got_at, reserves_more, room_more}
use Rattle.al_contents.proofs.edits.reserve_moves.Goals as goal

pub returns-in_err-reserve_move-clause-same : goal.returns-in_err-reserve_move-clause-same
returns-in_err-reserve_move-clause-same c =
    let here = c.loop-place in
    let views = here.alarms.items in
    let count : vec_len here.alarms ≡ length views = search rules in
    let within : here.place < length views = omega arith in
    let stands = got_at views here.place c.index_mut.result.now within c.index_mut.ensures.value in
    reserves_more c.args.alarms.now.items views here.place c.index_mut.result.now c.reserve_move.new.alarm here.invariant.same stands c.reserve_move.ensures.state c.reserve_move.ensures.max

pub loop-place-preserved : goal.loop-place-preserved
loop-place-preserved c =
    let here = c.loop-place in
    let views = here.alarms.items in
    let moves = c.args.moves.now in
    let move = c.index-moves-place.result in
    let after = c.reserve_move.new.alarm in
    let before = take here.place moves in
    let count : vec_len here.alarms ≡ length views = search rules in
    let within : here.place < length views = omega arith in
    let among : here.place < length moves = omega arith in
    let stands = got_at views here.place c.index_mut.result.now within c.index_mut.ensures.value in
    let one_more : take (here.place + 1) moves ≡ before ++ move ∷ [] = take_more moves here.place move among ∙ ap (λ m. before ++ m ∷ []) (sym c.index-moves-place.is) in
    let place : length before ≡ here.place = simp length-take (omega arith) in
    let room = room_more before move views after (omega arith) here.invariant.room c.in_ok-reserve_move.ensures.ok in
    record {
      same = reserves_more c.args.alarms.now.items views here.place c.index_mut.result.now after here.invariant.same stands c.reserve_move.ensures.state c.reserve_move.ensures.max;
      room = subst (λ ms. HaveRoom ms (slice_set views here.place after)) (sym one_more) (subst (λ i. HaveRoom (before ++ move ∷ []) (slice_set views i after)) place room);
      capacity = here.invariant.capacity;
      count = here.invariant.count;
    }
