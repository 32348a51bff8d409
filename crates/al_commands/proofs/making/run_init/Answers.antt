use Rattle.std.proofs.Common.{inl, inr, arith}
use Rattle.al_commands.proofs.making.run_init.Goals as goal

pub returns-clause-made : goal.returns-clause-made
returns-clause-made g c = record {
  birth = c.birth-born.result;
  within = λ is. elim (c.birth-born.ensures.bad_capacity.0 is) [ inl low ↦ omega (arith, low, c.requires.0) | inr high ↦ omega (arith, high, c.requires.1) ];
  bears = c.birth-born.ensures.bears;
  cause = c.birth-born.ensures.cause;
  told = c.tell_birth-status.ensures.told;
}
