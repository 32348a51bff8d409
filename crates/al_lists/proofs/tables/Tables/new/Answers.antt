use Rattle.std.proofs.Common.{[], sym, subst}
use Rattle.al_model.specs.Validity.{IsValid}
use Rattle.al_model.proofs.Validity.{legal_valid}
use Rattle.al_lists.proofs.tables.Tables.new.Goals as goal

pub invariant_of-result : goal.invariant_of-result
invariant_of-result c = subst IsValid (sym c.in_ok-contents.ensures) (legal_valid [] tt)
