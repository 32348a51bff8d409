use Rattle.std.proofs.Common.{◌≡◌, ◌==◌, sym, ap, ◌∙◌, true, false}
use Rattle.al_base.specs.Names.{rank_of}
use Rattle.al_model.specs.Sames.{same_mode}
use Rattle.al_notify.specs.declared.rule.NotifyRule.{NotifyRule}
use Rattle.al_lists.specs.Verdicts.{is_change}
use Rattle.al_lists.proofs.Asking.{level_is_asked, mode_is_asked, mode_is_unasked}
use Rattle.al_lists.proofs.fits.is_rule_asked.Goals as goal

pub returns-then-is_same_mode : goal.returns-then-is_same_mode
returns-then-is_same_mode c = λ time.
    let s = c.args.contents.now.state in
    let rule = c.args.rule in
    let same : same_mode s.rule.mode rule.mode ≡ true = sym (c.is_same_mode.ensures ∙ ap (λ (r : NotifyRule). same_mode r.mode rule.mode) c.rule-before.ensures) ∙ c.if-is_same_mode.true in
    level_is_asked s time rule c.is_change.result same (c.is_change.ensures ∙ ap is_change (c.judge_level.ensures time))

pub returns-then-is_same_level : goal.returns-then-is_same_level
returns-then-is_same_level c = λ time.
    let s = c.args.contents.now.state in
    let rule = c.args.rule in
    let other : same_mode s.rule.mode rule.mode ≡ false = sym (c.is_same_mode.ensures ∙ ap (λ (r : NotifyRule). same_mode r.mode rule.mode) c.rule-before.ensures) ∙ c.if-is_same_mode.false in
    let same : (rank_of s.rule.level == rank_of rule.level) ≡ true = sym (c.is_same_level.ensures ∙ ap (λ (r : NotifyRule). rank_of r.level == rank_of rule.level) c.rule-before.ensures) ∙ c.if-is_same_level.true in
    mode_is_asked s time rule c.is_change-then-is_same_level.result other same (c.is_change-then-is_same_level.ensures ∙ ap is_change (c.judge_mode.ensures time))

pub returns : goal.returns
returns c = λ time.
    let s = c.args.contents.now.state in
    let rule = c.args.rule in
    let other : same_mode s.rule.mode rule.mode ≡ false = sym (c.is_same_mode.ensures ∙ ap (λ (r : NotifyRule). same_mode r.mode rule.mode) c.rule-before.ensures) ∙ c.if-is_same_mode.false in
    let differs : (rank_of s.rule.level == rank_of rule.level) ≡ false = sym (c.is_same_level.ensures ∙ ap (λ (r : NotifyRule). rank_of r.level == rank_of rule.level) c.rule-before.ensures) ∙ c.if-is_same_level.false in
    mode_is_unasked s time rule other differs
