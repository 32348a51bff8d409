use Rattle.std.proofs.Common.{refl}
use Rattle.al_input.proofs.Named.{named_keys}
use Rattle.al_input.proofs.member.are_known.Goals as goal

pub loop-name-init : goal.loop-name-init
loop-name-init c = rw (c.into_iter-name-iterator.ensures.into_iter_gives, c.keys-name-items.ensures.rest, named_keys) refl
