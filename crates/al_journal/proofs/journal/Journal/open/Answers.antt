use Rattle.std.proofs.Common.{refl}
use Rattle.al_disk.proofs.Going.{so_goes, stays}
use Rattle.al_journal.proofs.Reaching.{finds_as_before, stays_as_before}
use Rattle.al_journal.proofs.journal.Journal.open.Goals as goal

pub returns-in_default-clause-moments : goal.returns-in_default-clause-moments
returns-in_default-clause-moments g c = stays _ _ _ refl (λ s is. stays_as_before s s refl)

pub returns-in-Ok-find-clause-moments : goal.returns-in-Ok-find-clause-moments
returns-in-Ok-find-clause-moments g c = so_goes _ _ _ _ c.find.ensures.finds (λ s t is finds. finds_as_before c.find.result s t (c.find.ensures.as_it_read s is) finds)

pub returns-in-Err-clause-moments : goal.returns-in-Err-clause-moments
returns-in-Err-clause-moments g c = so_goes _ _ _ _ c.find.ensures.finds (λ s t is finds. finds_as_before c.find.result s t (c.find.ensures.as_it_read s is) finds)
