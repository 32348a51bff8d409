use Rattle.std.proofs.Common.{◌≡◌, arith, drop, length}
use Rattle.std.proofs.lemmas.List.{take_at}
use Rattle.al_journal.proofs.block.fill.Goals as goal

pub returns-clause-read : goal.returns-clause-read
returns-clause-read g c =
    let whole : length c.as_mut_slice.result.now ≡ 4096 = rw (c.as_mut_slice.ensures.value) c.requires in
    let size : length c.read_at.new.buf ≡ c.args.bytes.now.len = omega (arith, c.read_at.auto.buf, c.as_mut_slice.ensures.len) in
    rw (take_at c.read_at.new.buf (drop (length c.read_at.new.buf) c.args.bytes.now.items) c.args.bytes.now.len size) (rw whole at c.read_at.ensures.read)
