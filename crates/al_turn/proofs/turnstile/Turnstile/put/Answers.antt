use Rattle.std.proofs.Common.{◌≤◌, length, refl, rules, arith}
use Rattle.al_turn.proofs.Grows.{is_longer}
use Rattle.al_turn.proofs.Seats.{counts_as, ends_as, ends_seat, given_back, holding}
use Rattle.al_turn.proofs.turnstile.Turnstile.put.Goals as goal

pub fetch_add-requires : goal.fetch_add-requires
fetch_add-requires g c =
    let before = c.args.seat.now.me in
    let mark = g.T.Kept.mark c.args.value in
    let longer : length before.0.seen.entries ≤ length mark.entries = is_longer _ _ c.requires.goes_on.begins in
    let started = c.requires.before in
    let counted = c.entries.ensures in
    let small = c.entries.type_inv in (
      search rules,
      omega arith,
      counts_as g.T.Kept.mark _ _ _ c.exchange.new.seat.me before.0 c.args.value _ (holding before c.exchange.new.seat.me c.args.value c.requires.out.2 c.exchange.ensures.3) c.requires.out.0 c.requires.out.1
          c.requires.goes_on c.requires.own (omega arith) (omega arith),
    )

pub fetch_add-requires-2 : goal.fetch_add-requires-2
fetch_add-requires-2 g c =
    let before = c.args.seat.now.me in
    let held = holding before c.exchange.new.seat.me c.args.value c.requires.out.2 c.exchange.ensures.3 in
    (search rules, omega arith, ends_as g.T.Kept.mark _ _ _ c.fetch_add.new.seat.me _ (given_back g.T.Kept.mark c.exchange.new.seat.me _ before.0 c.args.value held c.fetch_add.ensures.2) c.requires.out.0 refl)

pub returns-clause-seat : goal.returns-clause-seat
returns-clause-seat g c =
    let before = c.args.seat.now.me in
    let held = holding before c.exchange.new.seat.me c.args.value c.requires.out.2 c.exchange.ensures.3 in
    ends_seat c.fetch_add.new.seat.me _ _ (given_back g.T.Kept.mark c.exchange.new.seat.me c.fetch_add.new.seat.me before.0 c.args.value held c.fetch_add.ensures.2) c.fetch_add-2.ensures.2
