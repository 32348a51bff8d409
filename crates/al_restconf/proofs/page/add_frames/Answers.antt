use Rattle.std.proofs.Common.{◌+◌, ◌-◌, ◌∙◌, arith}
use Rattle.al_office.specs.Images.{frames_of}
use Rattle.al_restconf.proofs.Paging.{all_read, none_fits, none_left, one_fits}
use Rattle.al_restconf.proofs.page.add_frames.Goals as goal

pub returns-in_default : goal.returns-in_default
returns-in_default g c =
    none_left c.loop-more.texts.items _ (frames_of c.args.office.now.entries) (63 - c.loop-more.more) c.loop-more.left (c.args.next + c.loop-more.more)
    c.loop-more.invariant (rw c.in_default.is at c.in_ok-frame.ensures)

pub returns-then-len-left : goal.returns-then-len-left
returns-then-len-left g c =
    none_fits c.loop-more.texts.items _ (frames_of c.args.office.now.entries) c.in-Some.frame.items c.loop-more.more c.loop-more.left (c.args.next + c.loop-more.more)
    c.loop-more.invariant c.loop-more-test.true (rw c.in-Some.is at c.in_ok-frame.ensures) (rw (c.len.ensures ∙ c.in-Some.frame.ok.0) at c.if-len-left.true)

pub loop-more-preserved : goal.loop-more-preserved
loop-more-preserved g c =
    rw (c.in_ok-push.ensures.items, c.in_ok-text_of.ensures, c.len-in-loop-more.ensures ∙ c.in-Some.frame.ok.0)
    (one_fits c.loop-more.texts.items _ (frames_of c.args.office.now.entries) c.in-Some.frame.items c.loop-more.more c.loop-more.left c.args.next
    c.loop-more.invariant c.loop-more-test.true (rw c.in-Some.is at c.in_ok-frame.ensures) (omega (arith, c.if-len-left.false, c.len.ensures, c.in-Some.frame.ok.0)))

pub returns : goal.returns
returns g c = all_read c.loop-more.texts.items _ _ c.loop-more.more c.loop-more.left c.loop-more.invariant (omega (arith, c.loop-more-test.false, c.loop-more.auto.more-end))
