use Rattle.std.proofs.Common.{◌+◌, ◌≤◌, length, refl, arith}
use Rattle.al_http.specs.InputBuffers.{held_bytes}
use Rattle.al_http.proofs.StreamLemmas.{drop_to, front_part, mid_part}
use Rattle.al_http.proofs.input_buffer.InputBuffer.give.Goals as goal

pub returns-clause-held : goal.returns-clause-held
returns-clause-held c =
    let buffer = c.args.self.now in
    drop_to buffer.bytes.items buffer.start _ buffer.filled (c.args.head.len + c.args.size) (omega arith)

pub returns-clause-message : goal.returns-clause-message
returns-clause-message c =
    let buffer = c.args.self.now in
    let fits : c.args.head.len ≤ length (held_bytes buffer) = omega arith in
    rw (
      front_part buffer.bytes.items buffer.start buffer.filled c.args.head.len fits,
      mid_part buffer.bytes.items buffer.start buffer.filled c.args.head.len c.args.size c.requires.fits,
    ) refl
