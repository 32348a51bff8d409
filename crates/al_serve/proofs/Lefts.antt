-- How many turns are left.
use Rattle.std.proofs.Common.{◌≡◌, ℕ, ◌+◌, ◌-◌, ◌*◌, ◌≤◌, ◌<◌, Option, None, Some, ap, sym, ◌∙◌, subst, arith}
use Rattle.al_http.specs.Streams.{request_limit}
use Rattle.al_serve.specs.Left.{HasTurns, turns_less}
use Rattle.al_turn.specs.Identities.{one_less}

-- one turn fewer than so many fewer
pub one_fewer : (left now : Option ℕ) (count : ℕ) → now ≡ turns_less left count → one_less now ≡ turns_less left (count + 1)
one_fewer None now count is = ap one_less is
one_fewer (Some n) now count is = ap one_less is ∙ ap Some (omega arith)

-- enough for all that is to be served, and after a connection for the others
pub enough_for_rest : (left now : Option ℕ) (number served requests : ℕ) → HasTurns left (request_limit * (number - served)) → served < number → requests ≤ request_limit → now ≡ turns_less left requests → HasTurns now (request_limit * (number - (served + 1)))
enough_for_rest None now number served requests has few within is = subst (λ (l : Option ℕ). HasTurns l (request_limit * (number - (served + 1)))) (sym is) tt
enough_for_rest (Some n) now number served requests has few within is = subst (λ (l : Option ℕ). HasTurns l (request_limit * (number - (served + 1)))) (sym is) (omega arith)

pub enough_first : (left : Option ℕ) (number : ℕ) → HasTurns left (request_limit * number) → HasTurns left (request_limit * (number - 0))
enough_first None number has = tt
enough_first (Some n) number has = omega arith
