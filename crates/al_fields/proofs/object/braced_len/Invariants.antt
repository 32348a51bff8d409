-- The total, with the length of what remains, is the length of the whole.
use Rattle.std.proofs.Common.{◌≡◌, ◌+◌, ◌<◌, ◌^◌, drop, false, length}
use Rattle.al_fields.specs.Lengths.{saturated}
use Rattle.al_fields.specs.Members.{fields_by}
use Rattle.al_fields.specs.Texts.{run_text}
use Rattle.al_fields.proofs.object.braced_len.Given as goal

abbrev pub invariant-loop-field : goal.invariant-loop-field
invariant-loop-field g l =
    (saturated (l.total + length (run_text l.later (fields_by g.P.Shown.said (drop l.field-index l.fields))))
    ≡ saturated (2 + length (run_text false (fields_by g.P.Shown.said l.fields)))) × (l.total < 2 ^ 64)
