use Rattle.std.proofs.Common.{◌≡◌, ◌+◌, ◌<◌, ◌^◌, length, suc, sym, ap, subst, ◌∙◌, arith, slice_index_or}
use Rattle.std.proofs.lemmas.Grind.{get_or_default_zero}
use Rattle.al_contents.proofs.Editing.{done_more, done_next_same, done_none, done_past, length-done}
use Rattle.al_contents.proofs.Parting.{all_at}
use Rattle.al_contents.proofs.places.move_up.Goals as goal

pub loop-place-init : goal.loop-place-init
loop-place-init c = sym (done_none suc c.args.places.now)

-- The place that it comes to is as it was.
pub overflow_add-place : goal.overflow_add-place
overflow_add-place c =
    let here = c.loop-place in
    let within : here.place-index < length here.places = omega arith in
    let count : length here.places ≡ length c.args.places.now = ap length here.invariant ∙ length-done suc here.place-index c.args.places.now in
    let same : slice_index_or here.places here.place-index 0 ≡ slice_index_or c.args.places.now here.place-index 0 =
    ap (λ xs. slice_index_or xs here.place-index 0) here.invariant ∙ done_next_same suc here.place-index c.args.places.now 0 (subst (λ xs. here.place-index < length xs) here.invariant within) in
    let small : slice_index_or c.args.places.now here.place-index 0 + 1 < 2 ^ 64 = all_at (λ i. i + 1 < 2 ^ 64) c.args.places.now here.place-index 0 (omega (arith, within, count)) c.requires in
    omega (arith, same, small)

pub loop-place-preserved : goal.loop-place-preserved
loop-place-preserved c =
    let here = c.loop-place in
    let within : here.place-index < length here.places = omega arith in
    let read : slice_index_or here.places here.place-index 0 ≡ slice_index_or here.places here.place-index (slice_index_or here.places here.place-index 0) = sym (get_or_default_zero here.places here.place-index _ within) in
    let next : slice_index_or here.places here.place-index 0 + 1 ≡ suc (slice_index_or here.places here.place-index (slice_index_or here.places here.place-index 0)) = omega (arith, read) in
    done_more suc c.args.places.now here.places here.place-index (slice_index_or here.places here.place-index 0) _ here.invariant within read next

pub returns : goal.returns
returns c =
    let here = c.loop-place in
    let count : length here.places ≡ length c.args.places.now = ap length here.invariant ∙ length-done suc here.place-index c.args.places.now in
    here.invariant ∙ done_past suc here.place-index c.args.places.now (omega (arith, count))
