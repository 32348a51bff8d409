use Rattle.al_commands.proofs.making.tell_birth.Goals as goal

pub returns-in-Err-clause-told : goal.returns-in-Err-clause-told
returns-in-Err-clause-told g c = rw c.in-Err.is (c.tell_refusal.ensures.told c.args.capacity)
