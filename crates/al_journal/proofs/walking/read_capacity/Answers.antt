use Rattle.al_journal.proofs.walking.read_capacity.Goals as goal

pub returns-clause-read : goal.returns-clause-read
returns-clause-read g c = λ s is holds. c.capacity_in.ensures.birth s.content (c.in_ok-count.ensures.read s is holds)
