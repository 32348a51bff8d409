use Rattle.std.proofs.Common.{◌∙◌, sym, subst, List, ℕ, arith}
use Rattle.al_server.specs.ServeWords.{IsServe}
use Rattle.al_server_cases.proofs.together.are_served.Goals as goal

pub run_serve-status-requires-clause-doors : goal.run_serve-status-requires-clause-doors
run_serve-status-requires-clause-doors g c _ _ serve is =
    let same = c.workers_of.ensures serve (subst (λ (words : List (List ℕ)). IsServe words serve) (c.as_slice-2.ensures.value ∙ sym c.as_slice.ensures.value) is) in
    let two = c.if-workers_of-ne2.false in
    omega (arith, same, two, c.in_ok-push-2.ensures.len, c.in_ok-push.ensures.len, c.new-doors.ensures.len)

pub run_serve-status-requires-clause-clocks : goal.run_serve-status-requires-clause-clocks
run_serve-status-requires-clause-clocks g c _ _ serve is =
    let same = c.workers_of.ensures serve (subst (λ (words : List (List ℕ)). IsServe words serve) (c.as_slice-2.ensures.value ∙ sym c.as_slice.ensures.value) is) in
    let two = c.if-workers_of-ne2.false in
    let clocks = c.in_ok-clocks_of.ensures in
    omega (arith, same, two, clocks)
