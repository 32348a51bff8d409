use Rattle.std.proofs.Common.{◌≡◌, ap, sym, ◌∙◌, chars, map-id}
use Rattle.std.proofs.lemmas.Iterator.{YieldsList-from_chars}
use Rattle.std.proofs.lemmas.Iterator.Consumers.{YieldsList-end}
use Rattle.al_pattern.proofs.TextLemmas.{walked_begins, walked_more, accepts, accepted_on, accepted_back, same_verdict}
use Rattle.al_pattern.proofs.Marks.{choice_nullable}
use Rattle.al_pattern.proofs.LanguageLemmas.{choice_nil, nil_choice}
use Rattle.al_pattern.proofs.program.accepts.Goals as goal

pub loop-c-init : goal.loop-c-init
loop-c-init c x program = walked_begins x c.no_marks-marks.result c.args.nullable c.no_marks-marks.ensures
    (same_verdict c.args.nullable (choice_nullable x) (λ e. nil_choice x (program.empty_text.0 e)) (λ e. program.empty_text.1 (choice_nil x e)))

pub step-requires-clause-nests : goal.step-requires-clause-nests
step-requires-clause-nests c = rw (c.requires.1.compiled.agree c.in-Some.c) (c.requires.1.compiled.nests c.in-Some.c)

pub loop-c-preserved : goal.loop-c-preserved
loop-c-preserved c x program =
    rw c.has_ended-accepted.ensures (walked_more x c.loop-c.yielded c.in-Some.c c.loop-c.start c.loop-c.marks c.step.result.0 c.loop-c.accepted _ c.step.result.1
    (c.loop-c.invariant x program) (program.compiled.agree c.in-Some.c) c.step.ensures)

pub returns : goal.returns
returns c x program =
    let w = c.loop-c.invariant x program in
    let end = YieldsList-end (YieldsList-from_chars c.args.text.now c.utf8.text cc) c.loop-c.yielded _ c.loop-c.yielded_by _ _ c.in-None.is c.next.ensures.steps in
    let all : c.loop-c.yielded ≡ chars c.args.text.now = sym (map-id c.loop-c.yielded) ∙ end.0 in
    let verdict : c.loop-c.accepted ≡ accepts x (chars c.args.text.now) = w.verdict ∙ ap (accepts x) all in (
      (λ t. accepted_on x (chars c.args.text.now) (sym verdict ∙ t)),
      (λ h. verdict ∙ accepted_back x (chars c.args.text.now) h),
    )
