use Rattle.std.proofs.Common.{◌≡◌, ◌^◌, ◌<◌, ◌≤◌, ap, ◌∙◌, rules, subst, sym, w64}
use Rattle.std.proofs.Math.Facts.{Fits-lt-pow, Fits-of_lt}
use Rattle.al_serve.proofs.Working.{put_fits, put_grows}
use Rattle.al_serve.specs.Workers.{put_by}
use Rattle.al_turn.specs.Passes.{PassState}
use Rattle.al_serve.proofs.worker.work.Goals as goal

pub overflow_add-worker-2 : goal.overflow_add-worker-2
overflow_add-worker-2 g c =
    let s = c.serve-stretch.ensures.serves in
    let first : PassState = c.new-turns.result in
    let first_is : c.requires.pass ≡ first = search rules in
    let number = ap (λ (p : PassState). p.view.number) (sym first_is) ∙ c.requires.number in
    let least : c.args.worker.now.added ≤ put_by first = subst (λ (p : PassState). c.args.worker.now.added ≤ put_by p) first_is c.requires.added in
    let grown = put_grows first c.serve-stretch.new.turns c.args.worker.now.origin c.serve-stretch.result.added c.serve-stretch.ensures.identity number c.new-turns.ensures.since s.goes_on s.added_is in
    let fits : c.args.worker.now.added < 2 ^ 64 = Fits-lt-pow {w = w64} (search rules) in
    Fits-of_lt {w = w64} (put_fits first c.serve-stretch.new.turns c.args.worker.now.added c.serve-stretch.result.added least grown c.serve-stretch.ensures.counted fits)
