-- The total, with the length of what remains, is the length of the whole.
use Rattle.std.proofs.Common.{◌≡◌, ◌+◌, ◌<◌, ◌^◌, drop, false, length}
use Rattle.std.specs.Prelude.{nat_lt}
use Rattle.serde_json.specs.View.{items_of}
use Rattle.serde_json.specs.Written.{items_text}
use Rattle.al_fields.specs.Lengths.{saturated}
use Rattle.al_fields.proofs.list.items_len.Given as goal

abbrev pub invariant-loop-i : goal.invariant-loop-i
invariant-loop-i g l =
    (saturated (l.total + length (items_text (nat_lt 0 l.i) (items_of (drop l.i (g.S.Series.trees l.series)))))
    ≡ saturated (1 + length (items_text false (items_of (g.S.Series.trees l.series))))) × (l.total < 2 ^ 64)
