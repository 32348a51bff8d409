-- What is written, with the text of the fields that remain, is what was there and the text of all.
use Rattle.std.proofs.Common.{◌≡◌, ◌+◌, ◌++◌, ◌≤◌, drop, false, length, vec_capacity, vec_len}
use Rattle.al_fields.specs.Members.{fields_by}
use Rattle.al_fields.specs.Texts.{run_text}
use Rattle.al_fields.proofs.object.put_fields.Given as goal

abbrev pub invariant-loop-field : goal.invariant-loop-field
invariant-loop-field g l =
    record {
      written : l.out.items ++ run_text l.later (fields_by g.P.Shown.said (drop l.field-index l.fields))
          ≡ l.fn.out.items ++ run_text false (fields_by g.P.Shown.said l.fields);
      counted : vec_len l.out + length (run_text l.later (fields_by g.P.Shown.said (drop l.field-index l.fields)))
          ≡ vec_len l.fn.out + length (run_text false (fields_by g.P.Shown.said l.fields));
      room : vec_capacity l.fn.out ≤ vec_capacity l.out;
    }
