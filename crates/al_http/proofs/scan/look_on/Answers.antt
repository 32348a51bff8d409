use Rattle.std.proofs.Common.{length, take, sym, ◌∙◌, append_assoc, arith}
use Rattle.std.proofs.Math.Seq.{take-length}
use Rattle.al_http.proofs.FindLemmas.{part_before, found_at, none_at_all, no_part}
use Rattle.al_http.proofs.StreamLemmas.{take_to}
use Rattle.al_http.proofs.scan.look_on.Goals as goal

pub after_part-requires : goal.after_part-requires
after_part-requires c = part_before 10 c.args.bytes.now c.lines.at c.in-Some.len (sym c.in-Some.ensures)

pub returns-in-None : goal.returns-in-None
returns-in-None c = λ front seen.
    let found = found_at 10 c.args.bytes.now c.lines.at c.in-Some.len c.lines.invariant.within (sym c.in-Some.ensures) in
    (omega (arith, found.0), rw (found.1 front) at (c.in-None.ensures _ (c.after_part.ensures _ (c.lines.invariant.seen front seen))))

pub lines-preserved : goal.lines-preserved
lines-preserved c =
    let found = found_at 10 c.args.bytes.now c.lines.at c.in-Some.len c.lines.invariant.within (sym c.in-Some.ensures) in
    record {
      within = omega (arith, found.0);
      seen = λ front seen. rw (found.1 front) at (c.in-Some-after_line_feed.ensures _ (c.after_part.ensures _ (c.lines.invariant.seen front seen)));
    }

pub after_part-requires-2 : goal.after_part-requires-2
after_part-requires-2 c = none_at_all 10 _ (no_part _ _ c.first_at.ensures c.in_default.not-Some)

pub returns : goal.returns
returns c = λ front seen.
    let whole = take_to c.args.bytes.now c.lines.at (length c.args.bytes.now) c.lines.invariant.within ∙ take-length c.args.bytes.now in
    rw (append_assoc front (take c.lines.at c.args.bytes.now) _, whole) at (c.after_part-2.ensures _ (c.lines.invariant.seen front seen))
