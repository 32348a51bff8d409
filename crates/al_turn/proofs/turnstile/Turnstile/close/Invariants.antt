-- The passes that are gone are joined into pass 1.
use Rattle.std.proofs.Common.{◌≡◌, List, [], ◌++◌, vec_len}
use Rattle.al_turn.proofs.Closing.{with_all}
use Rattle.al_turn.specs.Passes.{PassState}
use Rattle.al_turn.proofs.turnstile.Turnstile.close.Given as goal

abbrev pub invariant-loop-pass : goal.invariant-loop-pass
invariant-loop-pass g l =
    (l.first.table_id ≡ l.table.shared.table_id)
    × ((gone : List PassState) × (l.initial.passes.items ≡ l.passes.items ++ gone) × (l.first.me ≡ (with_all l.initial.first.me.0 gone, [])))

abbrev pub decreases-loop-pass : goal.decreases-loop-pass
decreases-loop-pass g l = vec_len l.passes
