use Rattle.std.proofs.Common.{rules}
use Rattle.al_base.specs.Times.{stamp_text}
use Rattle.al_base.proofs.StampText.{stamp_text_is_utf8}
use Rattle.al_base.proofs.stamp.Stamp.print.Goals as goal

pub returns-clause-text : goal.returns-clause-text
unfolding stamp_text
returns-clause-text c = search rules

pub returns-clause-utf8 : goal.returns-clause-utf8
returns-clause-utf8 c = rw (returns-clause-text c) (stamp_text_is_utf8 c.args.self.now)
