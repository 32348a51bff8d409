use Rattle.std.proofs.Common.{arith}
use Rattle.std.proofs.lemmas.List.{length-drop}
use Rattle.std.proofs.Math.Seq.{take-add}
use Rattle.al_http.proofs.FrontLaws.{appends_more}
use Rattle.al_http.proofs.FrontLemmas.{rest_behind}
use Rattle.al_http.proofs.sending.write_all.Goals as goal

pub loop-taken-preserved : goal.loop-taken-preserved
loop-taken-preserved g c =
    record {
      within = omega (arith, rw (rest_behind c.loop-taken.taken c.args.bytes.now, length-drop c.loop-taken.taken c.args.bytes.now) at c.in_ok-taken.ensures.within);
      written =
          rw (take-add c.loop-taken.taken c.in_ok-taken.field-0 c.args.bytes.now)
          (appends_more _ _ _ _ _ c.loop-taken.invariant.written (rw (rest_behind c.loop-taken.taken c.args.bytes.now) at c.in_ok-taken.ensures.took));
      later = omega arith;
    }
