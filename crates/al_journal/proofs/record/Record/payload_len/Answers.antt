use Rattle.std.proofs.Common.{◌-◌, ap, arith, drop, length, take}
use Rattle.al_journal.proofs.Pieces.{length-piece_of}
use Rattle.al_journal.proofs.record.Record.payload_len.Goals as goal

pub overflow_sub-result : goal.overflow_sub-result
overflow_sub-result c =
    let bytes = c.self.inside.bytes in
    omega (arith, c.len.ensures, bytes.ok.0, ap length c.self.invariant.0, length-piece_of (take (length bytes.items - 5) (drop 4 bytes.items)))
