-- The next frame is the first of those that are left.
use Rattle.std.proofs.Common.{◌++◌, arith, length, ap, subst, List, ℕ, Ok, Err}
use Rattle.std.proofs.lemmas.Result.{err_from_is_err_and}
use Rattle.al_office.specs.Images.{frames_of}
use Rattle.al_office.specs.Reading.{IsEntryIn}
use Rattle.al_office.proofs.Frames.{at_gate, entry_added, entry_refused, front_few, next_refused, none_left, one_left}
use Rattle.al_office.proofs.Holding.{can_note, used-push}
use Rattle.al_office.proofs.reading.read_next.Goals as goal

pub returns-in_err-next-clause-read : goal.returns-in_err-next-clause-read
returns-in_err-next-clause-read g c =
    let p = err_from_is_err_and c.from_residual.result c.from_residual.ensures.1 in
    let h = c.args.ledger.now.entries in
    rw (p.1, p.2) (λ s is left shows.
    let next = c.in_err-next.ensures.next s is (frames_of h ++ left) (length h) shows (front_few h left) (at_gate h left c.args.journal.now.next c.requires.place) in
    next_refused h h left c.in_err-next.field-0.0 (length h) c.args.journal.now.next c.next.new.self.next c.next.new.buf.items next)

pub returns-then-not-branch-clause-read : goal.returns-then-not-branch-clause-read
returns-then-not-branch-clause-read g c = λ s is left shows.
    let h = c.args.ledger.now.entries in
    let next = rw (c.if-not-branch.true) at (c.in_ok-next.ensures.next s is (frames_of h ++ left) (length h) shows (front_few h left) (at_gate h left c.args.journal.now.next c.requires.place)) in
    none_left h left next.0

pub returns-in_err-entry-clause-read : goal.returns-in_err-entry-clause-read
returns-in_err-entry-clause-read g c =
    let p = err_from_is_err_and c.from_residual-in_err-entry.result c.from_residual-in_err-entry.ensures.1 in
    let h = c.args.ledger.now.entries in
    let refused = subst (λ (l : List ℕ). IsEntryIn h l (Err c.in_err-entry.field-0.0)) c.deref.ensures.value c.in_err-entry.ensures in
    rw (p.1, p.2) (λ s is left shows.
    let next = rw (c.if-not-branch.false) at (c.in_ok-next.ensures.next s is (frames_of h ++ left) (length h) shows (front_few h left) (at_gate h left c.args.journal.now.next c.requires.place)) in
    let there = one_left h left c.next.new.buf.items next.0 next.1 in
    entry_refused h h left there.0 c.next.new.buf.items c.in_err-entry.field-0.0 there.1 refused)

pub prepare-requires-clause-note : goal.prepare-requires-clause-note
prepare-requires-clause-note g c = can_note c.args.ledger.now.entries (omega (arith, c.requires.place, c.requires.within, c.requires.allowed.1))

pub returns-clause-read : goal.returns-clause-read
returns-clause-read g c = λ s is left shows.
    let h = c.args.ledger.now.entries in
    let next = rw (c.if-not-branch.false) at (c.in_ok-next.ensures.next s is (frames_of h ++ left) (length h) shows (front_few h left) (at_gate h left c.args.journal.now.next c.requires.place)) in
    let there = one_left h left c.next.new.buf.items next.0 next.1 in
    let entry = rw (c.deref.ensures.value) at c.in_ok-entry.ensures in
    (there.0, rw (c.add.ensures, c.in_ok-prepared.ensures.entries) (entry_added h c.in_ok-entry.entry left there.0 c.next.new.buf.items there.1 entry.0))

pub returns-clause-more : goal.returns-clause-more
returns-clause-more g c = λ _.
    let h = c.args.ledger.now.entries in
    let entry = rw (c.deref.ensures.value) at c.in_ok-entry.ensures in
    let moved = ap (λ j. j.next) (c.in_ok-next.ensures.more (ap (λ b. Ok b) c.if-not-branch.false)) in
    let long = ap (λ l. length l) entry.0 in
    (rw (c.add.ensures, c.in_ok-prepared.ensures.entries) (omega (arith, used-push h c.in_ok-entry.entry, c.requires.place, moved, long)), omega (arith, moved))
