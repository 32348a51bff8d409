-- The row of a type and qualifier, and the severities that it allows.
use Rattle.std.proofs.Common.{◌≡◌, ℕ, zero, suc, Bool, true, false, cond, List, [], ◌∷◌, refl, sym, ◌∙◌, ap}
use Rattle.std.proofs.lemmas.Bool.Decides.{Decides-and, Decides-or, Decides-not, Decides-eqb}
use Rattle.std.proofs.lemmas.Option.{same_Some}
use Rattle.std.specs.Bool.{Decides}
use Rattle.std.specs.Cmp.Lexicographic.{bytes_decides}
use Rattle.std.specs.Borrow.{Bor}
use Rattle.std.specs.Prelude.{◌↔◌, Option, None, Some, IfSome, slice_get, find, bit_and, option_copied, ◌^◌}
use Rattle.al_base.specs.Names.{rank_of}
use Rattle.al_base.specs.declared.severity.Severity.{Severity}
use Rattle.al_types.specs.Inventories.{InventoryView, IsRowOf, IsOnlyRow, is_of, row_of, allows, Allows}
use Rattle.al_types.specs.Known.{IsDuplicateRow}
use Rattle.al_types.specs.declared.row.Row.{Row}
use Rattle.al_types.proofs.Found.{only_row}

-- what is found stands somewhere and passes
abbrev IsFound : (Row → Bool) → List Row → Row → Type 0
IsFound test rows row = (place : ℕ) × (slice_get rows place ≡ Some row) × (test row ≡ true)

shifted : (test : Row → Bool) (rows : List Row) (first row : Row) → IsFound test rows row → IsFound test (first ∷ rows) row
shifted test rows first row f = (suc f.0, f.1, f.2)

found_by : (test : Row → Bool) (rows : List Row) (first row : Row) (passes : Bool) → passes ≡ test first → (find test rows ≡ Some row → IsFound test rows row)
    → cond passes (Some first) (find test rows) ≡ Some row → IsFound test (first ∷ rows) row
found_by test rows first row true e later h =
    let same : first ≡ row = same_Some first row h in
    (0, ap Some same, ap test (sym same) ∙ sym e)
found_by test rows first row false e later h = shifted test rows first row (later h)

pub found : (test : Row → Bool) (rows : List Row) (row : Row) → find test rows ≡ Some row → IsFound test rows row
found test [] row h = absurd (cc)
found test (first ∷ rows) row h = found_by test rows first row (test first) refl (found test rows row) h

none_by : (test : Row → Bool) (rows : List Row) (first : Row) (passes : Bool) → passes ≡ test first → (find test rows ≡ None → (row : Row) → ¬ (IsFound test rows row))
    → cond passes (Some first) (find test rows) ≡ None → (row : Row) → ¬ (IsFound test (first ∷ rows) row)
none_by test rows first true e later h row f = absurd (cc)
none_by test rows first false e later h row (zero, at, passes) =
    let same : first ≡ row = same_Some first row at in
    let fails : test row ≡ false = ap test (sym same) ∙ sym e in
    absurd (cc)
none_by test rows first false e later h row (suc place, at, passes) = later h row (place, at, passes)

pub none_found : (test : Row → Bool) (rows : List Row) → find test rows ≡ None → (row : Row) → ¬ (IsFound test rows row)
none_found test [] h row (zero, at, passes) = absurd (cc)
none_found test [] h row (suc place, at, passes) = absurd (cc)
none_found test (first ∷ rows) h row f = none_by test rows first (test first) refl (none_found test rows) h row f

pub is_of_decides : (type_id qualifier : List ℕ) (row : Row) → Decides (is_of type_id qualifier row) ((row.type_id ≡ type_id) × (row.qualifier ≡ qualifier))
is_of_decides type_id qualifier row = Decides-and _ _ (bytes_decides row.type_id type_id) (bytes_decides row.qualifier qualifier)

pub row_stands : (i : InventoryView) (type_id qualifier : List ℕ) (row : Row) → row_of i type_id qualifier ≡ Some row → IsRowOf i type_id qualifier row
row_stands i type_id qualifier row h =
    let f = found (is_of type_id qualifier) i.rows row h in
    let same = (is_of_decides type_id qualifier row).0 f.2 in
    record { place = f.0; stands = f.1; same_type = same.0; same_qualifier = same.1 }

found_so : (i : InventoryView) (type_id qualifier : List ℕ) (row : Row) → IsRowOf i type_id qualifier row → IsFound (is_of type_id qualifier) i.rows row
found_so i type_id qualifier row o = (o.place, o.stands, (is_of_decides type_id qualifier row).1 (o.same_type, o.same_qualifier))

-- there is none exactly where no row is of the type and qualifier
pub no_row : (i : InventoryView) (type_id qualifier : List ℕ) → (row_of i type_id qualifier ≡ None) ↔ ((row : Row) → ¬ (IsRowOf i type_id qualifier row))
no_row i type_id qualifier = (
  λ h row o. none_found (is_of type_id qualifier) i.rows h row (found_so i type_id qualifier row o),
  λ none. none_then (row_of i type_id qualifier) refl none,
)
  where
    none_then : (o : Option Row) → row_of i type_id qualifier ≡ o → ((row : Row) → ¬ (IsRowOf i type_id qualifier row)) → o ≡ None
    none_then None e none = refl
    none_then (Some row) e none = absurd (none row (row_stands i type_id qualifier row e))

-- and what there is is the only one
pub one_row_found : (i : InventoryView) → ((n : ℕ) → ¬ (IsDuplicateRow i.rows n)) → (type_id qualifier : List ℕ) (row : Row)
    → (row_of i type_id qualifier ≡ Some row) ↔ (IsOnlyRow i type_id qualifier row)
one_row_found i kinds type_id qualifier row = (
  λ h. (let o = row_stands i type_id qualifier row h in only_row i kinds o.place row type_id qualifier o.stands o.same_type o.same_qualifier),
  λ o. some_then (row_of i type_id qualifier) refl o,
)
  where
    some_then : (found : Option Row) → row_of i type_id qualifier ≡ found → IsOnlyRow i type_id qualifier row → found ≡ Some row
    some_then None e o = absurd ((no_row i type_id qualifier).0 e row o.is)
    some_then (Some other) e o = ap Some (o.only other (row_stands i type_id qualifier other e))

-- what a reference to the row found says
pub only_row_found : (i : InventoryView) → ((n : ℕ) → ¬ (IsDuplicateRow i.rows n)) → (type_id qualifier : List ℕ) (r : Option (Bor Row))
    → option_copied r ≡ row_of i type_id qualifier → IfSome r (λ row. IsOnlyRow i type_id qualifier row.now)
only_row_found i kinds type_id qualifier None e = tt
only_row_found i kinds type_id qualifier (Some row) e = (one_row_found i kinds type_id qualifier row.now).0 (sym e)

pub no_row_found : (i : InventoryView) (type_id qualifier : List ℕ) (r : Option (Bor Row))
    → option_copied r ≡ row_of i type_id qualifier → (r ≡ None) ↔ ((row : Row) → ¬ (IsRowOf i type_id qualifier row))
no_row_found i type_id qualifier None e = (λ _. (no_row i type_id qualifier).0 (sym e), λ _. refl)
no_row_found i type_id qualifier (Some row) e = (
  λ h. absurd (cc),
  λ none. (let nothing : row_of i type_id qualifier ≡ None = (no_row i type_id qualifier).1 none in absurd (cc)),
)

pub allows_decides : (row : Row) (severity : Severity) → Decides (allows row severity) (Allows row severity)
allows_decides row severity =
    Decides-or _ _ (Decides-eqb row.severities 0) (Decides-not _ (Decides-eqb (bit_and row.severities (2 ^ rank_of severity)) 0))
