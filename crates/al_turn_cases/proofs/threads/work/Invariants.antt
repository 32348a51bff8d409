-- The pass is the same, nothing is taken, and each turn so far is used up.
use Rattle.std.proofs.Common.{◌≡◌, ◌+◌, ◌^◌, false}
use Rattle.al_turn.specs.Passes.{identity_of}
use Rattle.al_turn.specs.Views.{is_taken}
use Rattle.al_turn_cases.proofs.threads.work.Given as goal

abbrev pub invariant-loop-done : goal.invariant-loop-done
invariant-loop-done g l = (is_taken l.seated.view ≡ false) × (identity_of l.seated ≡ identity_of l.fn.pass) × (l.seated.view.left + l.done ≡ 2 ^ 48)
