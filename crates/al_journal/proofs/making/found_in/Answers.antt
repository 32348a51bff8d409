use Rattle.std.proofs.Common.{◌∙◌, inl, inr, sym}
use Rattle.std.proofs.lemmas.List.{nil_from_length}
use Rattle.al_journal.proofs.FrontReading.{no_birth, open_front, shut_front, some_birth}
use Rattle.al_journal.proofs.making.found_in.Goals as goal
use Rattle.al_journal.proofs.making.found_in.Goals.{then-size-eq0-via-else-size-eq0+then-starts_open, then-size-eq0-via-then-size-eq0}

pub returns-then-is_some : goal.returns-then-is_some
returns-then-is_some c = λ content size front. some_birth content c.capacity_in.result (c.capacity_in.ensures.birth content front) (sym c.is_some.ensures ∙ c.if-is_some.true)

pub returns-then-size-eq0 : goal.returns-then-size-eq0
returns-then-size-eq0 c = λ content size front.
    let none = no_birth content c.capacity_in.result (c.capacity_in.ensures.birth content front) (sym c.is_some.ensures ∙ c.if-is_some.false) in
    elim c.then-size-eq0.branch [
      | then-size-eq0-via-then-size-eq0 w ↦ (none, inl (nil_from_length content (sym size ∙ w.if-size-eq0.true)))
      | then-size-eq0-via-else-size-eq0+then-starts_open w ↦ let begins = w.starts_open.ensures.yes w.if-starts_open.true in (none, inr (open_front c.args.front.now content front begins.0 begins.1))
    ]

pub returns : goal.returns
returns c = λ content size front. shut_front c.args.front.now content front (λ empty. c.if-size-eq0.false (size ∙ empty)) (c.starts_open.ensures.no c.if-starts_open.false)
