use Rattle.std.proofs.Common.{◌≡◌, ◌<◌, length, Some, ap, sym, subst, ◌∙◌, arith, rules}
use Rattle.std.specs.List.{slice_get, slice_set}
use Rattle.al_contents.specs.Edits.{HasRoomFor, HaveRoom, after_moves}
use Rattle.al_contents.specs.Views.{states}
use Rattle.al_contents.proofs.Editing.{got_at, last_move, moved_last, moved_maxes, room_before}
use Rattle.al_contents.proofs.edits.apply_moves.Goals as goal

pub index_mut-requires : goal.index_mut-requires
index_mut-requires c =
    let views = c.loop-entry.alarms.items in
    let popped = c.pop.new.self.items in
    let room = subst (λ ms. HaveRoom ms views) c.in-Some.ensures.items c.loop-entry.invariant.room in
    let last = last_move popped c.in-Some.entry views room in
    let place : c.len-place.result ≡ length popped = search rules in
    let within : c.len-place.result < length views = omega (arith, place, last.within) in
    search rules

pub apply_move-requires : goal.apply_move-requires
apply_move-requires c =
    let views = c.loop-entry.alarms.items in
    let popped = c.pop.new.self.items in
    let room = subst (λ ms. HaveRoom ms views) c.in-Some.ensures.items c.loop-entry.invariant.room in
    let last = last_move popped c.in-Some.entry views room in
    let place : c.len-place.result ≡ length popped = search rules in
    let within : c.len-place.result < length views = omega (arith, place, last.within) in
    let here = got_at views c.len-place.result c.index_mut.result.now within c.index_mut.ensures.value in
    let stands : slice_get views c.len-place.result ≡ Some last.view = ap (slice_get views) place ∙ last.stands in
    let same : last.view ≡ c.index_mut.result.now = cc (here, stands) in
    subst (HasRoomFor c.in-Some.entry) same last.has

pub loop-entry-preserved : goal.loop-entry-preserved
loop-entry-preserved c =
    let views = c.loop-entry.alarms.items in
    let popped = c.pop.new.self.items in
    let items = c.in-Some.ensures.items in
    let kept = c.loop-entry.invariant in
    let moved = c.apply_move.new.alarm in
    let room = subst (λ ms. HaveRoom ms views) items kept.room in
    let last = last_move popped c.in-Some.entry views room in
    let place : c.len-place.result ≡ length popped = search rules in
    let within : c.len-place.result < length views = omega (arith, place, last.within) in
    let here = got_at views c.len-place.result c.index_mut.result.now within c.index_mut.ensures.value in
    let there : slice_get views (length popped) ≡ Some c.index_mut.result.now = ap (slice_get views) (sym place) ∙ here in
    record {
      still = ap (λ i. after_moves popped (states (slice_set views i moved))) place
          ∙ moved_last popped c.in-Some.entry views c.index_mut.result.now moved there c.apply_move.ensures.state
          ∙ ap (λ ms. after_moves ms (states views)) (sym items) ∙ kept.still;
      room = subst (λ i. HaveRoom popped (slice_set views i moved)) (sym place) (room_before popped c.in-Some.entry views moved room);
      maxes = λ max keep. moved_maxes max views c.len-place.result c.index_mut.result.now moved here c.apply_move.ensures.max (kept.maxes max keep);
      capacity = kept.capacity;
      count = kept.count;
    }
