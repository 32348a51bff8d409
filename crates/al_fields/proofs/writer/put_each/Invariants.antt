-- What is written, with what remains of the text escaped, is what was there and the whole text escaped.
use Rattle.std.proofs.Common.{◌≡◌, ◌+◌, ◌++◌, ◌≤◌, drop, length, vec_capacity, vec_len}
use Rattle.json.specs.Print.{escape}
use Rattle.al_fields.proofs.writer.put_each.Given as goal

abbrev pub invariant-loop-byte : goal.invariant-loop-byte
invariant-loop-byte l =
    record {
      written : l.out.items ++ escape (drop l.byte-index l.text) ≡ l.fn.out.items ++ escape l.text;
      counted : vec_len l.out + length (escape (drop l.byte-index l.text)) ≡ vec_len l.fn.out + length (escape l.text);
      room : vec_capacity l.fn.out ≤ vec_capacity l.out;
    }
