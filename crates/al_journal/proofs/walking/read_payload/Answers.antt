-- The buffer is cut to the payload.
use Rattle.std.proofs.Common.{◌≡◌, ◌+◌, ◌++◌, arith, drop, length, refl, take}
use Rattle.std.proofs.lemmas.List.{take_at}
use Rattle.al_journal.proofs.Heads.{payload_read}
use Rattle.al_journal.proofs.walking.read_payload.Goals as goal

pub returns-clause-payload : goal.returns-clause-payload
returns-clause-payload g c = λ s is holds.
    let len = c.args.len in
    let buf = c.read.new.buf in
    let filled : length c.as_mut_slice.result.now ≡ len + 1 = omega (arith, c.as_mut_slice.ensures.len, c.in_ok-resize.ensures.len) in
    let size : length buf ≡ len + 1 = omega (arith, c.read.auto.buf, filled) in
    let read = rw filled at (c.in_ok-count.ensures.read s is holds) in
    let back : take c.resize.new.self.len (buf ++ drop (length buf) c.resize.new.self.items) ≡ buf = take_at buf _ c.resize.new.self.len (omega (arith, size, c.in_ok-resize.ensures.len)) in
    let within = c.in_ok-count.ensures.within in
    rw (c.truncate.ensures.items, back) (payload_read _ c.in_ok-count.count len buf (drop c.args.place s.content) refl size (omega (arith, within, size)) read)
