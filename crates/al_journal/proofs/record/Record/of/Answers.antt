-- The bytes are the piece of the payload.
use Rattle.std.proofs.Common.{◌≡◌, length, arith, ◌≤◌, refl}
use Rattle.al_journal.specs.Format.{in_four, piece_of}
use Rattle.al_journal.proofs.Pieces.{length-piece_of, payload-piece_of}
use Rattle.al_journal.proofs.record.Record.of.Goals as goal

made : (c : goal.In_ok-push) → c.push.new.self.items ≡ piece_of c.args.payload.now
unfolding in_four
made c = rw (c.in_ok-push.ensures.items, c.in_ok-extend_from_slice-2.ensures.items, c.in_ok-extend_from_slice.ensures.items, c.in_ok-bytes.ensures.items, c.to_be_bytes.ensures)

pub invariant_of-result : goal.invariant_of-result
invariant_of-result c =
    let n : length (piece_of c.args.payload.now) ≤ 268435461 = omega (arith, length-piece_of c.args.payload.now, c.requires) in
    rw (made c) (rw (payload-piece_of c.args.payload.now) (refl, n))

pub returns : goal.returns
returns c = rw (made c) (payload-piece_of c.args.payload.now)
