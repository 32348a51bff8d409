use Rattle.std.proofs.Common.{◌≤◌, length, ap, ◌∙◌, arith}
use Rattle.al_pattern.specs.Walk.{may_enter}
use Rattle.al_pattern.proofs.WalkLemmas.{run-bar, run-open}
use Rattle.al_pattern.proofs.walk.Walk.take.Goals as goal

pub returns-in-Bar-clause-runs : goal.returns-in-Bar-clause-runs
returns-in-Bar-clause-runs c nodes olds holds = rw (c.in-Bar.is, c.at_bar-self.ensures) (run-bar nodes c.args.i olds c.args.self.now.level _)

pub returns-in-Open-clause-runs : goal.returns-in-Open-clause-runs
returns-in-Open-clause-runs c nodes olds holds =
    let fits = rw c.in-Open.is at c.requires.fits in
    let within : c.args.self.now.free ≤ length c.args.self.now.levels = omega arith in
    let begins = c.may_enter-begins.ensures ∙ ap (λ m. may_enter c.args.self.now.level c.in-Open.quantifier m) c.contains-again.ensures in
    rw (c.in-Open.is, c.begun-self.ensures) (run-open c.in-Open.quantifier c.in-Open.inner nodes c.args.i c.args.old.now olds c.args.self.now.level
    c.args.self.now.levels c.args.self.now.free c.may_enter-begins.result holds begins fits.0 within)
