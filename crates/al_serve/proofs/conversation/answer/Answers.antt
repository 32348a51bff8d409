use Rattle.al_serve.proofs.Taking.{added_length, memory_answer, plain_answer}
use Rattle.al_serve.proofs.conversation.answer.Goals as goal

pub returns-in-Ok-clause-turn : goal.returns-in-Ok-clause-turn
returns-in-Ok-clause-turn g c =
    let added = added_length (g.T.Kept.mark c.args.kept.now) (g.T.Kept.mark c.answer-answered.new.kept) _ _ c.entries-place.ensures c.entries.ensures in
    plain_answer _ _ _ _ _ _ _ _ c.in-Ok.ensures.answered c.ms.ensures.bound c.in-Ok.ensures.place c.in-Ok.ensures.adds added

pub returns-in-Err-clause-turn : goal.returns-in-Err-clause-turn
returns-in-Err-clause-turn g c =
    let added = added_length (g.T.Kept.mark c.args.kept.now) (g.T.Kept.mark c.answer-answered.new.kept) _ _ c.entries-place.ensures c.entries.ensures in
    memory_answer _ _ _ _ _ _ _ _ (rw c.entries-place.ensures at c.out_of_memory.ensures.value) c.in-Err.ensures.unanswered c.ms.ensures.bound c.in-Err.ensures.adds added
