use Rattle.std.proofs.Common.{rules, ◌∙◌}
use Rattle.std.proofs.lemmas.List.{get_or-drop}
use Rattle.al_journal.proofs.Heads.{four_bytes}
use Rattle.al_journal.proofs.walking.length_in.Goals as goal

pub returns-clause-same : goal.returns-clause-same
returns-clause-same c = four_bytes c.args.front.now c.from.result c.requires (λ i. search (rules, c.type_inv.front i)) (simp get_or-drop (c.from.ensures ∙ c.from_be_bytes.ensures))
