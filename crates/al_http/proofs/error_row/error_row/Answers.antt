use Rattle.std.proofs.Common.{◌≤◌, ◌+◌, length, subst, sym}
use Rattle.al_http.specs.ErrorRows.{ErrorRow}
use Rattle.al_http.specs.Phrases.{HasPhrase}
use Rattle.al_http.proofs.RowLemmas.{row_phrase, row_short}
use Rattle.al_http.proofs.error_row.error_row.Goals as goal

pub returns-clause-phrase : goal.returns-clause-phrase
returns-clause-phrase c =
    subst (λ (row : ErrorRow). HasPhrase row.status) (sym c.row_at.ensures) (row_phrase c.args.number c.requires)

pub returns-clause-short : goal.returns-clause-short
returns-clause-short c =
    subst (λ (row : ErrorRow). length row.message + length row.tag + length row.error_type ≤ 64) (sym c.row_at.ensures)
    (row_short c.args.number c.requires)
