use Rattle.std.proofs.Common.{◌∙◌}
use Rattle.al_base.specs.Identifiers.{continues_identifier}
use Rattle.al_ids.proofs.Fronts.{front_taken, front_dropped}
use Rattle.al_ids.proofs.steps.cut_word.Goals as goal

pub returns-clause-front : goal.returns-clause-front
returns-clause-front c = c.split_at.ensures.front ∙ front_taken continues_identifier c.args.text.now c.word_len.result c.word_len.ensures.len

pub returns-clause-behind : goal.returns-clause-behind
returns-clause-behind c = c.split_at.ensures.back ∙ front_dropped continues_identifier c.args.text.now c.word_len.result c.word_len.ensures.len
