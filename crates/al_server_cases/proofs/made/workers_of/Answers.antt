use Rattle.al_server_cases.proofs.made.workers_of.Goals as goal

pub returns-in-None : goal.returns-in-None
returns-in-None c serve is = absurd (c.in-None.ensures.asked serve is)
