use Rattle.std.proofs.Common.{◌≡◌, length, refl, ◌∙◌}
use Rattle.std.proofs.lemmas.Result.{err_from_is_err_and}
use Rattle.al_pattern.specs.Reading.{reading}
use Rattle.al_pattern.specs.Tokens.{shown}
use Rattle.al_pattern.proofs.CompileLemmas.{compile_fails, compile_goes_on, compile_open, compile_ends, some_from, none_from}
use Rattle.al_pattern.proofs.builder.compile.Goals as goal

pub returns-in_err-token : goal.returns-in_err-token
returns-in_err-token c =
    let some = some_from (length c.tokens.rest.now) (length c.tokens.rest.now) c.is_empty.result c.is_empty.ensures c.tokens-test.true refl in
    let depth : c.len.result ≡ length c.tokens.builder.opens.items = c.len.ensures ∙ c.tokens.builder.opens.ok.0 in
    let p = err_from_is_err_and c.from_residual.result c.from_residual.ensures.1 in
    rw (p.1, p.2) (compile_fails c.in_err-token.field-0.0 c.tokens.builder.nodes.items c.tokens.builder.opens.items c.tokens.count c.tokens.rest.now (reading c.args.text.now)
    some c.tokens.invariant.0 (rw depth at c.in_err-token.ensures.read))

pub tokens-preserved : goal.tokens-preserved
tokens-preserved c =
    let some = some_from (length c.tokens.rest.now) (length c.tokens.rest.now) c.is_empty.result c.is_empty.ensures c.tokens-test.true refl in
    let depth : c.len.result ≡ length c.tokens.builder.opens.items = c.len.ensures ∙ c.tokens.builder.opens.ok.0 in (
      compile_goes_on c.tokens.builder.nodes.items c.put.new.self.nodes.items c.tokens.builder.opens.items c.put.new.self.opens.items c.tokens.count c.in_ok-token.after_count
          c.tokens.rest.now c.in_ok-token.after.now (shown c.in_ok-token.token) (reading c.args.text.now) some c.tokens.invariant.0 (rw depth at c.in_ok-token.ensures.read)
          c.in_ok-token.ensures.shorter c.in_ok-put.ensures,
      c.in_ok-token.ensures.few,
    )

pub returns-then-not-is_empty : goal.returns-then-not-is_empty
returns-then-not-is_empty c =
    let none = none_from (length c.tokens.rest.now) (length c.tokens.rest.now) c.is_empty.result c.is_empty.ensures c.tokens-test.false refl in
    let some = some_from _ (length c.tokens.builder.opens.items) c.is_empty-2.result c.is_empty-2.ensures c.if-not-is_empty.true c.tokens.builder.opens.ok.0 in
    rw c.fault_at.ensures (compile_open c.tokens.builder.nodes.items c.tokens.builder.opens.items c.tokens.count c.tokens.rest.now (reading c.args.text.now) none some c.tokens.invariant.0)

pub returns : goal.returns
returns c =
    let none = none_from (length c.tokens.rest.now) (length c.tokens.rest.now) c.is_empty.result c.is_empty.ensures c.tokens-test.false refl in
    let closed = none_from _ (length c.tokens.builder.opens.items) c.is_empty-2.result c.is_empty-2.ensures c.if-not-is_empty.false c.tokens.builder.opens.ok.0 in
    compile_ends c.tokens.builder.nodes.items c.tokens.builder.opens.items c.tokens.count c.tokens.rest.now c.args.text.now none closed c.tokens.invariant.0
