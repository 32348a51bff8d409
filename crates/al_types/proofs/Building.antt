-- How the parts of a build make its answer.
use Rattle.std.proofs.Common.{◌≡◌, ℕ, List, length, refl, inl, inr, subst, sym}
use Rattle.std.specs.Prelude.{Err, IsErrAnd, None, Ok, Result, Some}
use Rattle.al_types.specs.Faults.{AreFew, IsBuilt}
use Rattle.al_types.specs.Inventories.{InventoryView}
use Rattle.al_types.specs.Known.{IsDuplicateIdentity, IsDuplicateRow, IsFirst}
use Rattle.al_types.specs.Places.{IsBaseFault, HasBases, IsInventory}
use Rattle.al_types.specs.declared.fault.InventoryFault.{InventoryFault}
use Rattle.al_types.specs.declared.fault.InventoryFault.TheVariants.{TooMany, DuplicateIdentity, UnknownBase, DuplicateRow, Memory}
use Rattle.al_types.specs.declared.place.Place.{Place}
use Rattle.al_types.specs.declared.row.Identity.{Identity}
use Rattle.al_types.specs.declared.row.Row.{Row}
use Rattle.al_types.proofs.Found.{all_known}

pub from_base_fault : (identities : List Identity) (rows : List Row) (fault : InventoryFault) → AreFew identities rows → IsFirst (IsDuplicateIdentity identities) None
    → IsBaseFault identities fault → IsBuilt identities rows (Err fault)
from_base_fault identities rows Memory few names f = inl refl
from_base_fault identities rows (UnknownBase n) few names f = inr (few, names, f)
from_base_fault identities rows TooMany few names f = absurd f
from_base_fault identities rows (DuplicateIdentity n) few names f = absurd f
from_base_fault identities rows (DuplicateRow n) few names f = absurd f

pub err_built : (identities : List Identity) (rows : List Row) (fault : InventoryFault) (r : Result InventoryView InventoryFault) → IsErrAnd r (λ e. e ≡ fault)
    → IsBuilt identities rows (Err fault) → IsBuilt identities rows r
err_built identities rows fault (Ok inventory) is built = absurd is
err_built identities rows fault (Err e) is built =
    let P : InventoryFault → Type 0 = λ f. IsBuilt identities rows (Err f) in
    subst P (sym is) built

pub from_row : (identities : List Identity) (rows : List Row) (places : List Place) (n : ℕ) → AreFew identities rows → IsFirst (IsDuplicateIdentity identities) None
    → HasBases identities places (length identities) → IsFirst (IsDuplicateRow rows) (Some n) → IsBuilt identities rows (Err (DuplicateRow n))
from_row identities rows places n few names has f = inr (few, names, all_known identities places has, f)

pub complete : (identities : List Identity) (rows : List Row) (places : List Place) → AreFew identities rows → IsFirst (IsDuplicateIdentity identities) None
    → HasBases identities places (length identities) → IsFirst (IsDuplicateRow rows) None → IsInventory identities rows places
complete identities rows places few names has kinds = record {
  sound = record { few = few; names = names; bases = all_known identities places has; kinds = kinds };
  bases = has;
}
