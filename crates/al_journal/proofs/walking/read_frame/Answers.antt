-- The payload is read behind the length.
use Rattle.std.proofs.Common.{◌∙◌, arith}
use Rattle.al_journal.proofs.Heads.{behind_length, cut_frame, whole_frame}
use Rattle.al_journal.proofs.walking.read_frame.Goals as goal

pub returns-then-branch-clause-frame : goal.returns-then-branch-clause-frame
returns-then-branch-clause-frame g c = λ s is holds.
    let head = rw (c.in-Whole.is) at (c.in_ok-len.ensures.head s is holds) in
    let read = rw (c.if-branch.true, behind_length c.args.place c.in-Whole.len s.content head.0.0 head.0.1) at
    (c.in_ok-read_payload-in-Whole.ensures.payload s (c.read_head.ensures.same ∙ is) (c.in_ok-len.ensures.holds s is holds)) in
    (whole_frame c.in-Whole.len _ head.0.0 c.read_payload.new.buf.items head.0.1 read, read.1, head.1)

pub returns-else-branch-clause-frame : goal.returns-else-branch-clause-frame
returns-else-branch-clause-frame g c = λ s is holds.
    let head = rw (c.in-Whole.is) at (c.in_ok-len.ensures.head s is holds) in
    let read = rw (c.if-branch.false, behind_length c.args.place c.in-Whole.len s.content head.0.0 head.0.1) at
    (c.in_ok-read_payload-in-Whole.ensures.payload s (c.read_head.ensures.same ∙ is) (c.in_ok-len.ensures.holds s is holds)) in
    cut_frame _ c.in-Whole.len (omega (arith, c.requires.capacity)) head.1 _ head.0.0 c.read_payload.new.buf.items head.0.1 read
