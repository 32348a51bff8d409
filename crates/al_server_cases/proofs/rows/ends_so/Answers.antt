use Rattle.std.proofs.Common.{◌∙◌, sym, subst, List, ℕ}
use Rattle.al_server.specs.ServeWords.{IsServe}
use Rattle.al_server_cases.proofs.rows.ends_so.Goals as goal

pub run_serve-status-requires-clause-doors : goal.run_serve-status-requires-clause-doors
run_serve-status-requires-clause-doors g c _ _ serve is =
    let same = c.workers_of-workers.ensures serve (subst (λ (words : List (List ℕ)). IsServe words serve) (c.as_slice-2.ensures.value ∙ sym c.as_slice.ensures.value) is) in
    c.in_ok-doors_of.ensures ∙ sym same

pub run_serve-status-requires-clause-clocks : goal.run_serve-status-requires-clause-clocks
run_serve-status-requires-clause-clocks g c _ _ serve is =
    let same = c.workers_of-workers.ensures serve (subst (λ (words : List (List ℕ)). IsServe words serve) (c.as_slice-2.ensures.value ∙ sym c.as_slice.ensures.value) is) in
    c.in_ok-clocks_of.ensures ∙ sym same
