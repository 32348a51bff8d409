use Rattle.std.proofs.Common.{◌≡◌, ◌<◌, ◌++◌, ◌∷◌, [], cond, map, suc, ltb, true, false, vec_len, vec_capacity, sym, ap, ◌∙◌, arith, rules}
use Rattle.std.specs.List.{insert}
use Rattle.std.specs.List.Sorted.{IsPartitionPoint, IsPartitionedBy}
use Rattle.std.proofs.lemmas.List.Sorted.{IsPartitionPoint-from_clause}
use Rattle.al_contents.proofs.Editing.{inserted_is}
use Rattle.al_contents.proofs.Parting.{found}
use Rattle.al_contents.proofs.places.put_in.Goals as goal

pub returns-then-is_here-clause-items : goal.returns-then-is_here-clause-items
returns-then-is_here-clause-items c before after parted =
    let at = c.partition_point-at.result in
    let place = c.args.place in
    let moved = c.move_up_from.ensures in
    let searched : IsPartitionedBy (λ i. ltb i place) c.as_slice.result.now → IsPartitionPoint (λ i. ltb i place ≡ true) (λ i. ltb i place ≡ false) c.as_slice.result.now at =
    λ by. IsPartitionPoint-from_clause (λ i. ltb i place) _ _ c.partition_point-at.ensures.partitioned by (λ a r q k. search rules) in
    let is = found place at c.args.places.now.items _ before after parted c.as_slice.ensures.value c.partition_point-at.ensures.bound searched in
    let room : vec_len c.move_up_from.new.places < vec_capacity c.move_up_from.new.places = omega (arith, c.requires.room, moved.len, moved.room) in
    inserted_is c.insert.result _ _ _ (c.insert.ensures.succeeds room) c.insert.ensures.items
    ∙ ap (λ xs. insert xs at place) (moved.items ∙ is.moved) ∙ is.put place
    ∙ sym (ap (λ b. before ++ (cond b (place ∷ []) [] ++ map suc after)) c.if-is_here.true)

pub returns-else-is_here-clause-items : goal.returns-else-is_here-clause-items
returns-else-is_here-clause-items c before after parted =
    let at = c.partition_point-at.result in
    let place = c.args.place in
    let searched : IsPartitionedBy (λ i. ltb i place) c.as_slice.result.now → IsPartitionPoint (λ i. ltb i place ≡ true) (λ i. ltb i place ≡ false) c.as_slice.result.now at =
    λ by. IsPartitionPoint-from_clause (λ i. ltb i place) _ _ c.partition_point-at.ensures.partitioned by (λ a r q k. search rules) in
    let is = found place at c.args.places.now.items _ before after parted c.as_slice.ensures.value c.partition_point-at.ensures.bound searched in
    c.move_up_from.ensures.items ∙ is.moved ∙ sym (ap (λ b. before ++ (cond b (place ∷ []) [] ++ map suc after)) c.if-is_here.false)
