use Rattle.std.proofs.Common.{◌≡◌, ◌++◌, Ok}
use Rattle.std.specs.Option.{option_copied}
use Rattle.al_base.specs.Answers.{and_then, each}
use Rattle.al_base.specs.Cuts.{pieces_left}
use Rattle.al_uri.specs.Escapes.{decoded}
use Rattle.al_base.proofs.CutLemmas.{size_left}
use Rattle.al_uri.proofs.keys.read_keys.Given as goal

-- the keys left, behind those so far
abbrev pub invariant-loop-rest : goal.invariant-loop-rest
invariant-loop-rest l = each decoded (pieces_left 44 (option_copied l.fn.text)) ≡ and_then (each decoded (pieces_left 44 (option_copied l.rest))) (λ more. Ok (l.keys.items ++ more))

abbrev pub decreases-loop-rest : goal.decreases-loop-rest
decreases-loop-rest l = size_left l.rest
