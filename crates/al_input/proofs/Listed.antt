-- The items of an array are the list that the kit sees.
use Rattle.std.proofs.Common.{◌≡◌, ℕ, suc, ◌<◌, ◌≤◌, true, false, None, Some, Result, Err, List, [], ◌∷◌, length, map, refl, sym, ap, arith, nat_le}
use Rattle.std.proofs.lemmas.Bool.Decides.{nat_tests}
use Rattle.al_base.specs.Answers.{each}
use Rattle.serde_json.specs.Data.{Data}
use Rattle.serde_json.specs.Find.{as_array}
use Rattle.serde_json.specs.View.{items_of, items_view, view}
use Rattle.serde_json.specs.declared.value.Value.{Value}
use Rattle.al_input.specs.Readers.{list, listed}
use Rattle.al_input.specs.declared.fault.InputFault.{InputFault}
use Rattle.al_input.specs.declared.fault.InputFault.TheVariants.{BadValue}

listed_all : (ds : List Data) → listed (items_of ds) ≡ ds
listed_all [] = refl
listed_all (d ∷ ds) = ap (λ rest. d ∷ rest) (listed_all ds)

listed_length : (values : List Value) → length (listed (items_view values)) ≡ length values
listed_length [] = refl
listed_length (v ∷ values) = ap (λ n. suc n) (listed_length values)

le_false : (n most : ℕ) → most < n → nat_le n most ≡ false
le_false n most h = grind (arith, nat_tests)

le_true : (n most : ℕ) → n ≤ most → nat_le n most ≡ true
le_true n most h = grind (arith, nat_tests)

-- no list
pub list_none : {A : Type 0} (most : ℕ) (read : Data → Result A InputFault) (d : Data) → None ≡ as_array d → list most read d ≡ Err BadValue
unfolding list
list_none most read d is = rw (sym is) refl

-- a list that is too long
pub list_long : {A : Type 0} (most : ℕ) (read : Data → Result A InputFault) (d : Data) (values : List Value)
    → Some (items_view values) ≡ as_array d → most < length values → list most read d ≡ Err BadValue
unfolding list
list_long most read d values is long = rw (sym is, listed_length values, le_false (length values) most long) refl

-- another list
pub list_short : {A : Type 0} (most : ℕ) (read : Data → Result A InputFault) (d : Data) (values : List Value)
    → Some (items_view values) ≡ as_array d → length values ≤ most → list most read d ≡ each read (map view values)
unfolding list
list_short most read d values is short =
    rw (sym is, listed_length values, le_true (length values) most short, listed_all (map view values)) refl
