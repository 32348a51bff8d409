use Rattle.std.proofs.Common.{◌≡◌, sym, ◌∙◌}
use Rattle.al_pattern.proofs.TextLemmas.{nullable_shows}
use Rattle.al_pattern.proofs.LanguageLemmas.{choice_nil, nil_choice}
use Rattle.al_pattern.proofs.Marks.{choice_nullable}
use Rattle.al_pattern.proofs.program.takes_nothing.Goals as goal

pub step-requires-clause-nests : goal.step-requires-clause-nests
step-requires-clause-nests c = rw (c.requires.1.agree 97) (c.requires.1.nests 97)

pub returns : goal.returns
returns c x compiled =
    let shows : c.takes_nothing.result ≡ choice_nullable x = c.takes_nothing.ensures
    ∙ nullable_shows x 97 _ c.no_marks.result _ _ c.step.result.1 c.no_marks.ensures (compiled.agree 97) c.step.ensures in
    ((λ e. choice_nil x (sym shows ∙ e)), (λ h. shows ∙ nil_choice x h))
