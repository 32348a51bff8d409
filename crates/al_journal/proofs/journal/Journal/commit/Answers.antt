-- The piece is written durably behind the gate, and then the gate is opened durably, or a part of either is left.
use Rattle.std.proofs.Common.{◌+◌, ◌≤◌, arith, length, refl}
use Rattle.std.proofs.lemmas.Result.{err_from_is_err_and}
use Rattle.al_disk.proofs.Going.{back, so_goes, stays, then_goes}
use Rattle.al_journal.proofs.Committing.{doubt_reaches, full_commits, gate_opened, gate_refused, piece_doubt, piece_refused, stands_reaches}
use Rattle.al_journal.proofs.journal.Journal.commit.Goals as goal

pub returns-then-end-self-clause-leaves : goal.returns-then-end-self-clause-leaves
returns-then-end-self-clause-leaves g c = stays _ _ _ refl (λ s is payloads stands. full_commits _ _ payloads _ _ c.requires.sure s stands)

pub write_durably-requires : goal.write_durably-requires
write_durably-requires g c = λ s is.
    let stands = rw (← c.self.view_is) at c.requires.stands in
    let at_first = stands s is in
    stands_reaches c.self.inside.capacity c.self.inside.gate at_first.0 c.args.piece.now s at_first.1

pub returns-in_err-write_durably-clause-leaves : goal.returns-in_err-write_durably-clause-leaves
returns-in_err-write_durably-clause-leaves g c =
    let p = err_from_is_err_and c.from_residual.result c.from_residual.ensures.1 in
    let sure = rw (← c.self.view_is) at c.requires.sure in
    let refused = rw (c.piece-bytes.ensures) at c.in_err-write_durably.ensures.wrote in
    rw (p.1, p.2, ← c.self.view_is, sure)
    (so_goes _ _ _ _ refused (λ s t is may payloads stands. piece_refused c.self.inside.capacity c.self.inside.gate payloads c.args.piece.now s t stands may))

pub write_durably-requires-2 : goal.write_durably-requires-2
write_durably-requires-2 g c = λ t is.
    let first = rw (c.piece-bytes.ensures) at c.in_ok-write_durably.ensures.wrote in
    let before = back _ _ _ first t is in
    let stands = rw (← c.self.view_is) at c.requires.stands in
    let at_first = stands before.0 before.1 in
    let fits : c.self.inside.gate + 6 + length c.args.piece.now ≤ c.self.inside.capacity = omega (arith, c.payload_len.ensures.len, c.if-end-self.false) in
    let doubt = piece_doubt c.self.inside.capacity c.self.inside.gate at_first.0 c.args.piece.now before.0 t t at_first.1 fits before.2 in
    omega (arith, doubt_reaches c.self.inside.capacity c.self.inside.gate at_first.0 c.args.piece.now t doubt)

pub returns-in_err-write_durably-2-clause-leaves : goal.returns-in_err-write_durably-2-clause-leaves
returns-in_err-write_durably-2-clause-leaves g c =
    let p = err_from_is_err_and c.from_residual-in_err-write_durably-2.result c.from_residual-in_err-write_durably-2.ensures.1 in
    let fits : c.self.inside.gate + 6 + length c.args.piece.now ≤ c.self.inside.capacity = omega (arith, c.payload_len.ensures.len, c.if-end-self.false) in
    let first = rw (c.piece-bytes.ensures) at c.in_ok-write_durably.ensures.wrote in
    rw (p.1, p.2, ← c.self.view_is)
    (then_goes _ _ _ _ _ _ first c.in_err-write_durably-2.ensures.wrote (λ s t u is done may payloads stands. gate_refused c.self.inside.capacity c.self.inside.gate payloads c.args.piece.now s t u stands fits done may))

pub returns-clause-leaves : goal.returns-clause-leaves
returns-clause-leaves g c =
    let fits : c.self.inside.gate + 6 + length c.args.piece.now ≤ c.self.inside.capacity = omega (arith, c.payload_len.ensures.len, c.if-end-self.false) in
    let first = rw (c.piece-bytes.ensures) at c.in_ok-write_durably.ensures.wrote in
    rw (← c.self.view_is)
    (then_goes _ _ _ _ _ _ first c.in_ok-write_durably-2.ensures.wrote (λ s t u is done opened payloads stands. gate_opened c.self.inside.capacity c.self.inside.gate payloads c.args.piece.now s t u stands fits done tt opened))
