use Rattle.std.proofs.Common.{◌==◌}
use Rattle.std.specs.Int.{bit_at}
use Rattle.al_http.specs.Responses.{method_list}
use Rattle.al_http.proofs.MethodLemmas.{joined_behind}
use Rattle.al_http.proofs.fields.push_methods.Goals as goal

pub returns-clause-text : goal.returns-clause-text
unfolding method_list
returns-clause-text c =
    let all = joined_behind (bit_at c.args.allow 0 == 1) (bit_at c.args.allow 1 == 1) (bit_at c.args.allow 2 == 1) (bit_at c.args.allow 3 == 1) (bit_at c.args.allow 4 == 1) c.args.buffer.now in
    rw (
      c.push_method.ensures.text,
      c.push_method-has_one-4.ensures.text,
      c.push_method-has_one-3.ensures.text,
      c.push_method-has_one-2.ensures.text,
      c.push_method-has_one.ensures.text,
      c.push_method-has_one-4.ensures.one,
      c.push_method-has_one-3.ensures.one,
      c.push_method-has_one-2.ensures.one,
      c.push_method-has_one.ensures.one,
      c.is_set.ensures,
      c.is_set-2.ensures,
      c.is_set-3.ensures,
      c.is_set-4.ensures,
      c.is_set-5.ensures,
    )
    all
