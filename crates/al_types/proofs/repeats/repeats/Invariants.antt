use Rattle.std.proofs.Common.{◌≡◌, ℕ, ◌<◌}
use Rattle.std.specs.Prelude.{Some, slice_get}
use Rattle.al_types.specs.declared.row.Row.{Row}
use Rattle.al_types.proofs.repeats.repeats.Given as goal

abbrev pub invariant-loop-earlier : goal.invariant-loop-earlier
invariant-loop-earlier l =
    (k : ℕ) (a b : Row) → k < l.earlier → slice_get l.rows k ≡ Some a → slice_get l.rows l.n ≡ Some b → a.type_id ≡ b.type_id → ¬ (a.qualifier ≡ b.qualifier)
