use Rattle.std.proofs.Common.{sym, ◌∙◌, arith}
use Rattle.std.proofs.lemmas.Fmt.{decimal_injective}
use Rattle.al_server.proofs.serve_words.count.Goals as goal

pub returns-then-number-eq0 : goal.returns-then-number-eq0
returns-then-number-eq0 c = λ number least most is.
    let none = c.if-number-eq0.true in
    let same = decimal_injective number c.in_ok-number.number (omega arith) (omega arith) (sym is ∙ c.in_ok-number.ensures.0) in
    omega (arith, least, same, none)
