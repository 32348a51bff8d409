-- The walk goes on from gate to gate.
use Rattle.std.proofs.Common.{◌∙◌, arith, refl}
use Rattle.al_journal.proofs.Reaching.{advances, ends_closed, ends_cut, ends_long, reach_begins}
use Rattle.al_journal.proofs.walking.walk.Goals as goal

pub frames-init : goal.frames-init
frames-init g c = record {
  room = omega (arith, c.requires);
  few = omega arith;
  same = refl;
  later = omega arith;
  holds = λ s is holds. holds;
  reaches = λ s is holds size has. reach_begins c.args.capacity s.content has;
}

pub returns-in-Closed-clause-walked : goal.returns-in-Closed-clause-walked
returns-in-Closed-clause-walked g c = λ s is holds size has.
    let reaches = c.frames.invariant.reaches s is holds size has in
    let head = rw (c.in-Closed.is) at (c.in_ok-read_head.ensures.head s (c.frames.invariant.same ∙ is) (c.frames.invariant.holds s is holds)) in
    ends_closed c.args.capacity c.frames.count c.frames.place s.content reaches c.requires c.frames.invariant.room head

pub returns-then-place-len-clause-walked : goal.returns-then-place-len-clause-walked
returns-then-place-len-clause-walked g c = λ s is holds size has.
    let reaches = c.frames.invariant.reaches s is holds size has in
    let head = rw (c.in-Whole.is) at (c.in_ok-read_head.ensures.head s (c.frames.invariant.same ∙ is) (c.frames.invariant.holds s is holds)) in
    ends_long c.args.capacity c.frames.count c.frames.place s.content reaches c.requires c.frames.invariant.room c.in-Whole.len head.0.0 head.0.1 head.1 (omega (arith, size, c.if-place-len.true))

pub returns-in-Cut-clause-walked : goal.returns-in-Cut-clause-walked
returns-in-Cut-clause-walked g c = λ s is holds size has.
    let reaches = c.frames.invariant.reaches s is holds size has in
    let head = rw (c.in-Cut.is) at (c.in_ok-read_head.ensures.head s (c.frames.invariant.same ∙ is) (c.frames.invariant.holds s is holds)) in
    ends_cut c.args.capacity c.frames.count c.frames.place s.content reaches c.requires c.frames.invariant.room head

pub frames-preserved : goal.frames-preserved
frames-preserved g c =
    let fits = c.in_ok-read_head.ensures.fits c.in-Whole.len c.in-Whole.is in
    record {
      room = omega (arith, fits);
      few = omega (arith, c.frames.invariant.few);
      same = c.read_head.ensures.same ∙ c.frames.invariant.same;
      later = omega (arith, c.read_head.ensures.later, c.frames.invariant.later);
      holds = λ s is holds. c.read_head.ensures.holds s (c.frames.invariant.same ∙ is) (c.frames.invariant.holds s is holds);
      reaches = λ s is holds size has.
          let head = rw (c.in-Whole.is) at (c.in_ok-read_head.ensures.head s (c.frames.invariant.same ∙ is) (c.frames.invariant.holds s is holds)) in
          advances c.args.capacity c.frames.count c.frames.place s.content (c.frames.invariant.reaches s is holds size has) c.in-Whole.len head.0.0 head.0.1 (omega (arith, size, c.if-place-len.false));
    }
