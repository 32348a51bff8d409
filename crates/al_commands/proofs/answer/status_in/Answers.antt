use Rattle.std.proofs.Common.{ℕ, List, get_or, ap, sym, ◌∙◌, length, arith}
use Rattle.al_commands.specs.Told.{three_digits}
use Rattle.al_commands.proofs.Digits.{none_other, none_short, whole}
use Rattle.al_commands.proofs.answer.status_in.Goals as goal
use Rattle.al_commands.proofs.answer.status_in.Goals.{then-bytes-lt13-via-then-bytes-lt13, then-bytes-lt13-via-else-bytes-lt13+then-bytes-ne32}

pub returns-then-bytes-lt13 : goal.returns-then-bytes-lt13
returns-then-bytes-lt13 c = λ status rest is.
    elim c.then-bytes-lt13.branch [
      | then-bytes-lt13-via-then-bytes-lt13 w ↦ none_short status rest (omega (arith, ap length is, w.if-bytes-lt13.true))
      | then-bytes-lt13-via-else-bytes-lt13+then-bytes-ne32 w ↦ none_other status rest (λ blank. w.if-bytes-ne32.true (ap (λ (bytes : List ℕ). get_or bytes 12 0) is ∙ blank))
    ]

pub returns : goal.returns
returns c = λ status rest is.
    c.number_of.ensures ∙ ap (λ (bytes : List ℕ). three_digits (get_or bytes 9 0) (get_or bytes 10 0) (get_or bytes 11 0)) is
    ∙ whole status rest (sym (ap (λ (bytes : List ℕ). get_or bytes 12 0) is) ∙ c.if-bytes-ne32.false)
