-- The first byte is the gate, and the four behind it the length.
use Rattle.std.proofs.Common.{◌∙◌, arith}
use Rattle.al_journal.proofs.Heads.{first_byte, long_cut, short_cut, whole_head}
use Rattle.al_journal.proofs.walking.head_in.Goals as goal

pub returns-then-front-lt5-clause-head : goal.returns-then-front-lt5-clause-head
returns-then-front-lt5-clause-head c = λ tail is.
    let first = first_byte c.args.front.now c.in-Some.gate.now c.in-Some.ensures.value in
    short_cut c.args.room c.requires c.args.front.now tail is first.0 (first.1 ∙ c.if-gate-ne1.false) c.if-front-lt5.true

pub returns-then-len-room-clause-head : goal.returns-then-len-room-clause-head
returns-then-len-room-clause-head c = λ tail is.
    let first = first_byte c.args.front.now c.in-Some.gate.now c.in-Some.ensures.value in
    long_cut c.args.room c.requires c.args.front.now tail is first.0 (first.1 ∙ c.if-gate-ne1.false)
    c.length_in-len.result c.length_in-len.ensures.same c.length_in-len.ensures.small c.if-len-room.true

pub returns-clause-head : goal.returns-clause-head
returns-clause-head c = λ tail is.
    let first = first_byte c.args.front.now c.in-Some.gate.now c.in-Some.ensures.value in (
      whole_head c.args.room c.requires c.args.front.now tail is first.0 (first.1 ∙ c.if-gate-ne1.false) c.length_in-len.result c.length_in-len.ensures.same,
      omega (arith, c.if-len-room.false),
    )
