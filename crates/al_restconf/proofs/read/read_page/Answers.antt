use Rattle.std.proofs.Common.{arith, ◌∙◌}
use Rattle.al_restconf.proofs.Paging.{page_answered, page_too_big}
use Rattle.al_restconf.proofs.read.read_page.Goals as goal

pub returns-then-len-gt-MAX_BODY-clause-exact : goal.returns-then-len-gt-MAX_BODY-clause-exact
returns-then-len-gt-MAX_BODY-clause-exact g c =
    page_too_big _ _ c.entries-place.result c.in-Some.len c.as_slice.result.now (c.as_slice.ensures.value ∙ c.in_ok-texts.ensures) c.entries-place.ensures c.in-Some.ensures c.if-len-gt-MAX_BODY.true

pub returns-clause-exact : goal.returns-clause-exact
returns-clause-exact g c =
    rw (c.shown.ensures, c.of.ensures)
    (page_answered _ _ c.entries-place.result c.in-Some.len c.as_slice.result.now c.put_whole.new.out.items (c.as_slice.ensures.value ∙ c.in_ok-texts.ensures) c.entries-place.ensures c.in-Some.ensures
    (omega (arith, c.if-len-gt-MAX_BODY.false)) (rw c.in_ok-text.ensures.items at c.put_whole.ensures.items))
