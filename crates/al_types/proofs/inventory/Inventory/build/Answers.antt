use Rattle.std.proofs.Common.{List, length, inr, subst, rules}
use Rattle.std.specs.Prelude.{None, Some}
use Rattle.al_types.specs.Faults.{AreFew}
use Rattle.al_types.specs.Known.{IsDuplicateIdentity, IsDuplicateRow, IsFirst}
use Rattle.al_types.specs.Places.{HasBases, IsBaseFault, IsInventory}
use Rattle.al_types.specs.declared.row.Identity.{Identity}
use Rattle.al_types.specs.declared.row.Row.{Row}
use Rattle.al_types.proofs.Building.{err_built, from_base_fault, from_row, complete}
use Rattle.al_types.proofs.inventory.Inventory.build.Goals as goal

pub returns-in-Some : goal.returns-in-Some
returns-in-Some c =
    let few : AreFew c.args.identities.items c.args.rows.items = (search rules, search rules) in
    let P : List Identity → Type 0 = λ identities. IsFirst (IsDuplicateIdentity identities) (Some c.in-Some.n) in
    inr (few, subst P c.as_slice.ensures.value c.in-Some.ensures)

pub returns-in_err-bases : goal.returns-in_err-bases
returns-in_err-bases c =
    let few : AreFew c.args.identities.items c.args.rows.items = (search rules, search rules) in
    let P : List Identity → Type 0 = λ identities. IsFirst (IsDuplicateIdentity identities) None in
    let names : P c.args.identities.items = subst P c.as_slice.ensures.value c.in_default.ensures in
    let Q : List Identity → Type 0 = λ identities. IsBaseFault identities c.in_err-bases.field-0.0 in
    let fault : Q c.args.identities.items = subst Q c.as_slice-2.ensures.value c.in_err-bases.ensures.fault in
    let built = from_base_fault c.args.identities.items c.args.rows.items c.in_err-bases.field-0.0 few names fault in
    err_built c.args.identities.items c.args.rows.items c.in_err-bases.field-0.0 c.from_residual.result c.from_residual.ensures.1 built

pub returns-in-Some-duplicate_row : goal.returns-in-Some-duplicate_row
returns-in-Some-duplicate_row c =
    let few : AreFew c.args.identities.items c.args.rows.items = (search rules, search rules) in
    let P : List Identity → Type 0 = λ identities. IsFirst (IsDuplicateIdentity identities) None in
    let names : P c.args.identities.items = subst P c.as_slice.ensures.value c.in_default.ensures in
    let Q : List Identity → Type 0 = λ identities. HasBases identities c.in_ok-bases.bases.items (length identities) in
    let has : Q c.args.identities.items = subst Q c.as_slice-2.ensures.value c.in_ok-bases.ensures.bases in
    let R : List Row → Type 0 = λ rows. IsFirst (IsDuplicateRow rows) (Some c.in-Some-duplicate_row.n) in
    let repeated : R c.args.rows.items = subst R c.as_slice-3.ensures.value c.in-Some-duplicate_row.ensures in
    from_row c.args.identities.items c.args.rows.items c.in_ok-bases.bases.items c.in-Some-duplicate_row.n few names has repeated

pub invariant_of-result : goal.invariant_of-result
invariant_of-result c =
    let few : AreFew c.args.identities.items c.args.rows.items = (search rules, search rules) in
    let P : List Identity → Type 0 = λ identities. IsFirst (IsDuplicateIdentity identities) None in
    let names : P c.args.identities.items = subst P c.as_slice.ensures.value c.in_default.ensures in
    let Q : List Identity → Type 0 = λ identities. HasBases identities c.in_ok-bases.bases.items (length identities) in
    let has : Q c.args.identities.items = subst Q c.as_slice-2.ensures.value c.in_ok-bases.ensures.bases in
    let R : List Row → Type 0 = λ rows. IsFirst (IsDuplicateRow rows) None in
    let kinds : R c.args.rows.items = subst R c.as_slice-3.ensures.value c.in_default-duplicate_row.ensures in
    rw (c.of.ensures, c.of-2.ensures) (complete c.args.identities.items c.args.rows.items c.in_ok-bases.bases.items few names has kinds)

pub returns : goal.returns
returns c =
    let sound : IsInventory c.of.result c.of-2.result c.in_ok-bases.bases.items = invariant_of-result c in
    (rw (← c.of.ensures, ← c.of-2.ensures) sound.sound, search rules)
