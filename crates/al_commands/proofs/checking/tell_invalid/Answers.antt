use Rattle.std.proofs.Common.{ℕ, List, ◌++◌, ap, codes, subst}
use Rattle.std.proofs.lemmas.List.{append-nil}
use Rattle.al_commands.specs.Lines.{Tells, count_text, line_end}
use Rattle.al_commands.specs.Statuses.{status_invalid}
use Rattle.al_commands.proofs.checking.tell_invalid.Goals as goal

pub returns-clause-told : goal.returns-clause-told
returns-clause-told g c =
    subst (λ (text : List ℕ). Tells text status_invalid (g.O.Sink.held c.args.sink.now) (g.O.Sink.held c.tell_counts.new.sink) c.tell_counts.result)
    (ap (λ (zs : List ℕ). zs ++ line_end) (append-nil (count_text (codes "invalid at ") c.args.count))) c.tell_counts.ensures.told
