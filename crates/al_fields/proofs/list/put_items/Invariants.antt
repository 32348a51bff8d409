-- What is written, with the text of the elements that remain, is what was there and the text of the whole list.
use Rattle.std.proofs.Common.{◌≡◌, ◌+◌, ◌++◌, ◌∷◌, ◌≤◌, drop, false, length, vec_capacity, vec_len}
use Rattle.std.specs.Prelude.{nat_lt}
use Rattle.serde_json.specs.View.{items_of}
use Rattle.serde_json.specs.Written.{items_text}
use Rattle.al_fields.proofs.list.put_items.Given as goal

abbrev pub invariant-loop-i : goal.invariant-loop-i
invariant-loop-i g l =
    record {
      written : l.out.items ++ items_text (nat_lt 0 l.i) (items_of (drop l.i (g.S.Series.trees l.series)))
          ≡ l.fn.out.items ++ 91 ∷ items_text false (items_of (g.S.Series.trees l.series));
      counted : vec_len l.out + length (items_text (nat_lt 0 l.i) (items_of (drop l.i (g.S.Series.trees l.series))))
          ≡ vec_len l.fn.out + 1 + length (items_text false (items_of (g.S.Series.trees l.series)));
      room : vec_capacity l.fn.out ≤ vec_capacity l.out;
    }
