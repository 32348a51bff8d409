use Rattle.std.proofs.Common.{◌≡◌, ℕ, suc, ◌+◌, ◌-◌, List, subst, sym, ◌∙◌, arith}
use Rattle.al_commands.specs.Draws.{texts_from}
use Rattle.al_commands.specs.Drills.{Sends, SendsAll}
use Rattle.al_commands.proofs.drill.Drill.send_all.Goals as goal

pub loop-sent-preserved : goal.loop-sent-preserved
loop-sent-preserved c =
    let left : ℕ = c.args.count - (c.loop-sent.sent + 1) in
    let before = c.loop-sent.self in
    let drill = c.send-in-loop-sent.new.self in
    let one_more : c.args.count - c.loop-sent.sent ≡ suc left = omega arith in
    record {
      answered = omega (arith, c.in_ok-send-2.ensures.counted);
      behind = λ after rest. c.loop-sent.invariant.behind after
          (subst (λ (n : ℕ). SendsAll (texts_from c.loop-sent.draws.number n) before after) (sym one_more) (
            drill,
            subst (λ (text : List ℕ). Sends text before drill) (c.as_bytes.ensures.value ∙ c.in_ok-request.ensures.text) c.in_ok-send-2.ensures.sends,
            subst (λ (x : ℕ). SendsAll (texts_from x left) drill after) c.request.ensures.next rest,
          ));
    }
