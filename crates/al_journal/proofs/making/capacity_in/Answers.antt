-- A birth in the content would show in its first bytes.
use Rattle.std.proofs.Common.{◌∙◌, ap, arith, sym, ⊎_elim}
use Rattle.al_journal.specs.Format.{birth}
use Rattle.al_journal.proofs.FrontReading.{has_birth, is_long, same_birth, same_number}
use Rattle.al_journal.proofs.making.capacity_in.Goals as goal

pub returns-then-front-lt-BIRTH_LEN-clause-birth : goal.returns-then-front-lt-BIRTH_LEN-clause-birth
returns-then-front-lt-BIRTH_LEN-clause-birth c = λ content front capacity has. omega (arith, is_long c.args.front.now content front capacity has, c.if-front-lt-BIRTH_LEN.true)

pub returns-then-not-is_capacity-clause-birth : goal.returns-then-not-is_capacity-clause-birth
returns-then-not-is_capacity-clause-birth c = λ content front capacity has.
    let same = c.number_in-capacity.ensures ∙ same_number c.args.front.now content front capacity has in
    ⊎_elim (λ low. omega (arith, low, same, has.allowed)) (λ high. omega (arith, high, same, has.allowed)) (c.is_capacity.ensures.no c.if-not-is_capacity.true)

pub returns-then-not-are_same-clause-birth : goal.returns-then-not-are_same-clause-birth
returns-then-not-are_same-clause-birth c = λ content front capacity has.
    let same = c.number_in-capacity.ensures ∙ same_number c.args.front.now content front capacity has in
    c.are_same.ensures.no c.if-not-are_same.true (same_birth c.args.front.now content front capacity has ∙ ap birth (sym same) ∙ sym c.birth_bytes.ensures)

pub returns-clause-birth : goal.returns-clause-birth
returns-clause-birth c = λ content front.
    has_birth c.args.front.now content front c.number_in-capacity.result (omega (arith, c.if-front-lt-BIRTH_LEN.false))
    (c.are_same.ensures.yes c.if-not-are_same.false ∙ c.birth_bytes.ensures) (c.is_capacity.ensures.yes c.if-not-is_capacity.false)
