-- The log with one more call.
use Rattle.std.proofs.Common.{◌≡◌, ◌∙◌, ap, arith, length, length-append}
use Rattle.std.proofs.lemmas.List.{length_push}
use Rattle.al_disk.specs.Memory.{after_asked, replay, state_of}
use Rattle.al_disk.proofs.Replaying.{bytes_of_all-push, reads_after, replay-push}
use Rattle.al_disk.proofs.log.Log.add.Goals as goal

replayed : (c : goal.After-add_bytes) → replay (state_of c.self.inside.first.items) c.push_reserved.new.self.items c.add_bytes.new.to.items ≡ after_asked (replay (state_of c.self.inside.first.items) c.self.inside.asked.items c.self.inside.bytes.items) c.args.piece.now c.args.asked
replayed c =
    rw (c.push_reserved.ensures.items, c.add_bytes.ensures.items)
    (replay-push (state_of c.self.inside.first.items) c.self.inside.asked.items c.self.inside.bytes.items c.args.asked c.args.piece.now c.self.invariant.1 c.requires.piece)

pub invariant_of-self : goal.invariant_of-self
invariant_of-self c =
    let can = rw (← c.self.view_is) at c.requires.can in (
      rw (replayed c) (reads_after _ c.args.piece.now c.args.asked c.self.invariant.0 can c.requires.piece),
      rw (c.push_reserved.ensures.items, c.add_bytes.ensures.items) (omega (arith, bytes_of_all-push c.self.inside.asked.items c.args.asked, length-append c.self.inside.bytes.items c.args.piece.now, c.self.invariant.1, c.requires.piece)),
      omega (arith, c.add_bytes.ensures.capacity, c.self.invariant.2),
      omega (arith, c.push_reserved.ensures.capacity, c.self.invariant.3),
    )

pub returns-clause-after : goal.returns-clause-after
returns-clause-after c =
    let state = replayed c in
    let written = ap length c.add_bytes.ensures.items ∙ length-append c.self.inside.bytes.items c.args.piece.now in
    let noted = ap length c.push_reserved.ensures.items ∙ length_push c.self.inside.asked.items c.args.asked in
    rw (← c.self.view_is) cc

pub returns-clause-as_it_reads : goal.returns-clause-as_it_reads
returns-clause-as_it_reads c = (invariant_of-self c).0
