use Rattle.std.proofs.Common.{IsSome, Some, arith, rules, subst}
use Rattle.al_turn.proofs.Seats.{fetches_as, first_slot, served_rank, slot_value, takes_found, takes_length, takes_seat}
use Rattle.al_turn.proofs.turnstile.Turnstile.take.Goals as goal

pub load-length-requires : goal.load-length-requires
load-length-requires g c =
    let served = c.wait.ensures.served in
    (search rules, omega arith, fetches_as g.T.Kept.mark _ _ _ _ _ served.1 c.requires.idle.number (served_rank c.args.seat.now.me.0 served.0))

pub exchange-requires : goal.exchange-requires
exchange-requires g c =
    let read = c.load-length.ensures.2 in
    (search rules, (Some read.value, first_slot c.load-length.new.seat.me _ (Some read.value) read.seat))

pub unwrap-value-requires : goal.unwrap-value-requires
unwrap-value-requires g c =
    let read = c.load-length.ensures.2 in
    subst IsSome (slot_value c.load-length.new.seat.me (Some read.value) c.exchange.result _ read.seat c.exchange.ensures.2) (search rules)

pub returns-clause-seat : goal.returns-clause-seat
returns-clause-seat g c =
    let served = c.wait.ensures.served in (
      served.0,
      takes_seat g.T.Kept.mark c.args.seat.now.me.0 served.0 c.load-length.result c.wait.new.seat.me c.load-length.new.seat.me c.exchange.new.seat.me c.exchange.result c.unwrap-value.result
          served.1 c.load-length.ensures.2 c.exchange.ensures.2 c.unwrap-value.ensures c.exchange.ensures.3,
    )

pub returns-clause-length : goal.returns-clause-length
returns-clause-length g c =
    let served = c.wait.ensures.served in
    takes_length g.T.Kept.mark c.args.seat.now.me.0 served.0 c.load-length.result c.wait.new.seat.me c.load-length.new.seat.me c.exchange.new.seat.me c.exchange.result c.unwrap-value.result
    served.1 c.load-length.ensures.2 c.exchange.ensures.2 c.unwrap-value.ensures c.exchange.ensures.3

pub returns-clause-found : goal.returns-clause-found
returns-clause-found g c =
    let served = c.wait.ensures.served in
    takes_found g.T.Kept.mark c.args.seat.now.me.0 served.0 c.load-length.result c.wait.new.seat.me c.load-length.new.seat.me c.exchange.new.seat.me c.exchange.result c.unwrap-value.result
    served.1 c.load-length.ensures.2 c.exchange.ensures.2 c.unwrap-value.ensures c.exchange.ensures.3
