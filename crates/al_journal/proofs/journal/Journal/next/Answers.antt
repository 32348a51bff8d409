-- What stands at the walk's place is the first payload that is left, or the shut gate.
use Rattle.std.proofs.Common.{◌-◌, arith, drop}
use Rattle.al_journal.proofs.Frames.{left_room, left_tail, next_closed, next_whole, reads}
use Rattle.al_journal.proofs.journal.Journal.next.Goals as goal
use Rattle.al_journal.specs.declared.walking.Step.TheVariants.{Closed, Cut, Whole}

pub returns-in-Closed-clause-next : goal.returns-in-Closed-clause-next
returns-in-Closed-clause-next g c = rw (← c.self.view_is) (λ s is payloads count shows within at_place.
    let capacity = c.self.inside.capacity in
    let place = c.self.inside.next in
    let buf = c.read_frame.new.buf.items in
    let frame = rw (c.in-Closed.is) at (c.in_ok-read_frame.ensures.frame s is (c.self.invariant.0 s is)) in
    let end = reads shows.gate shows.shut shows.rest (capacity - place) (omega (arith, c.self.invariant.1)) (drop place s.content) buf Closed (drop count payloads)
    (left_tail capacity payloads s.content shows count place within at_place) (left_room capacity payloads s.content shows count place within at_place) frame in
    next_closed capacity payloads s.content shows count place within at_place buf end)

pub returns-in-Whole-clause-next : goal.returns-in-Whole-clause-next
returns-in-Whole-clause-next g c = rw (← c.self.view_is) (λ s is payloads count shows within at_place.
    let capacity = c.self.inside.capacity in
    let place = c.self.inside.next in
    let buf = c.read_frame.new.buf.items in
    let frame = rw (c.in-Whole.is) at (c.in_ok-read_frame.ensures.frame s is (c.self.invariant.0 s is)) in
    let read = reads shows.gate shows.shut shows.rest (capacity - place) (omega (arith, c.self.invariant.1)) (drop place s.content) buf (Whole c.in-Whole.len) (drop count payloads)
    (left_tail capacity payloads s.content shows count place within at_place) (left_room capacity payloads s.content shows count place within at_place) frame in
    next_whole capacity payloads s.content shows count place within at_place c.in-Whole.len buf read.0.0 read.0.1 read.1)

pub returns-in-Cut-clause-next : goal.returns-in-Cut-clause-next
returns-in-Cut-clause-next g c = rw (← c.self.view_is) (λ s is payloads count shows within at_place.
    let capacity = c.self.inside.capacity in
    let place = c.self.inside.next in
    let buf = c.read_frame.new.buf.items in
    let frame = rw (c.in-Cut.is) at (c.in_ok-read_frame.ensures.frame s is (c.self.invariant.0 s is)) in
    reads shows.gate shows.shut shows.rest (capacity - place) (omega (arith, c.self.invariant.1)) (drop place s.content) buf Cut (drop count payloads)
    (left_tail capacity payloads s.content shows count place within at_place) (left_room capacity payloads s.content shows count place within at_place) frame)
