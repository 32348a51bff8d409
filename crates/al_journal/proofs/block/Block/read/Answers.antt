use Rattle.std.proofs.Common.{◌≡◌, ◌-◌, ◌%◌, ◌∙◌, arith, drop, length, take, rules, ◌+◌}
use Rattle.std.proofs.lemmas.List.{drop-drop, places}
use Rattle.al_journal.proofs.BlockReading.{one_more}
use Rattle.al_journal.proofs.block.Block.read.Goals as goal

pub pieces-preserved : goal.pieces-preserved
pieces-preserved g c = record {
  within = search (rules, places);
  same = c.piece.ensures.same ∙ c.pieces.invariant.same;
  later = omega (arith, c.pieces.invariant.later, c.piece.ensures.later);
  holds = λ s is holds. c.in_ok-count.ensures.holds s (c.pieces.invariant.same ∙ is) (c.pieces.invariant.holds s is holds);
  read = λ s is holds.
      let place = c.args.place in
      let done = c.pieces.done in
      let piece = c.in_ok-count.ensures.read s (c.pieces.invariant.same ∙ is) (c.pieces.invariant.holds s is holds) in
      let on : take c.in_ok-count.count c.piece.new.buf ≡ take (length (take (length c.pieces.buf - done) (drop done c.pieces.buf))) (take (4096 - (place + done) % 4096) (drop done (drop place s.content))) = rw (drop-drop done place s.content) piece in
      one_more done c.in_ok-count.count _ _ c.pieces.buf c.piece.new.buf _ (drop place s.content) c.pieces.invariant.within (c.pieces.invariant.read s is holds) on (c.in_ok-count.ensures.within);
}
