use Rattle.std.proofs.Common.{◌≡◌, ◌+◌, List, Bool, [], ◌∷◌, ◌++◌, length, map, drop, get_or, ap}
use Rattle.std.proofs.lemmas.List.{drop_more, drop_all}
use Rattle.al_pattern.specs.declared.node.Node.TheVariants.{Bar}
use Rattle.al_pattern.specs.Sets.{Holds}
use Rattle.al_pattern.specs.Walk.{seen}
use Rattle.al_pattern.proofs.WalkLemmas.{walk_next, walk_ends, holds_marked, holds_unmarked}
use Rattle.al_pattern.proofs.walk.step.Goals as goal
use Rattle.al_pattern.proofs.walk.step.Goals.{then-take, else-take}

pub loop-i-preserved : goal.loop-i-preserved
loop-i-preserved c =
    let i = c.loop-i.i in
    let nodes = c.args.nodes.now in
    let see = seen c.args.c in
    let left = map see (drop (i + 1) nodes) in
    let split : map see (drop i nodes) ≡ see (get_or nodes i Bar) ∷ left = ap (map see) (drop_more nodes i Bar c.loop-i-test.true) in
    let more : (news : List Bool) → length news ≡ i → Holds c.loop-i.new news → Holds c.if-take.new (news ++ c.take.result ∷ []) =
    elim c.if-take.branch [
      | then-take w ↦ λ news len holds. rw (w.if-take.true, w.new-is) (holds_marked c.loop-i.new _ news i len holds w.insert.ensures)
      | else-take w ↦ λ news len holds. rw (w.if-take.false, w.new-is) (holds_unmarked c.loop-i.new news i len holds)
    ] in (
      rw c.take.ensures.free (rw split at c.loop-i.invariant.0).1,
      λ olds holds. walk_next (map see nodes) left (see (get_or nodes i Bar)) olds c.args.start i c.loop-i.new c.if-take.new c.loop-i.walk.level c.take.new.self.level
          (drop c.loop-i.walk.free c.loop-i.walk.levels) (drop c.take.new.self.free c.take.new.self.levels) c.take.result
          (rw split at (c.loop-i.invariant.1 olds holds)) (c.take.ensures.runs left olds holds) more,
    )

pub returns : goal.returns
returns c olds holds =
    let done : drop c.loop-i.i c.args.nodes.now ≡ [] = drop_all c.loop-i.i c.args.nodes.now c.loop-i-test.false in
    walk_ends (map (seen c.args.c) c.args.nodes.now) olds c.args.start c.loop-i.i c.loop-i.new c.loop-i.walk.level (drop c.loop-i.walk.free c.loop-i.walk.levels)
    (rw done at (c.loop-i.invariant.1 olds holds))
