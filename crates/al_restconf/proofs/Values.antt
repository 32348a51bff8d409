-- The values of the fields of a name.
use Rattle.std.proofs.Common.{◌≡◌, ℕ, zero, suc, ◌+◌, Bool, true, false, ◌||◌, inl, inr, Some, None, Err, List, [], ◌∷◌, length, drop, refl, add-one, arith}
use Rattle.std.specs.List.{list_any, slice_get}
use Rattle.std.specs.Option.{option_map_or}
use Rattle.std.specs.Prelude.{IsUtf8}
use Rattle.std.proofs.lemmas.Bool.{cases_lt}
use Rattle.std.proofs.lemmas.List.{get_or_past}
use Rattle.std.proofs.lemmas.Str.{IsUtf8-from_ascii}
use Rattle.al_base.proofs.FormTests.{decides_operator_name}
use Rattle.al_base.specs.Limits.{IsOperatorName, is_operator_name}
use Rattle.al_restconf.specs.Fields.{operator_in}
use Rattle.al_restconf.specs.declared.fault.Fault.TheVariants.{MissingOperator, BadOperator}

-- some value from an index on passes where the one there does, or one behind it
pub any_from : {X : Type 0} (p : X → Bool) (xs : List X) (n : ℕ) → list_any p (drop n xs) ≡ (option_map_or p (slice_get xs n) false || list_any p (drop (n + 1) xs))
any_from p [] zero = refl
any_from p [] (suc n) = rw add-one refl
any_from p (x ∷ xs) zero = refl
any_from p (x ∷ xs) (suc n) = rw add-one (rw add-one at (any_from p xs n))

-- ---- an operator's name

pub no_value : (values : List (List ℕ)) → None ≡ slice_get values 0 → operator_in values ≡ Err MissingOperator
no_value [] none = refl
no_value (value ∷ values) none = absurd (cc)

pub one_value : (values : List (List ℕ)) (name : List ℕ) → Some name ≡ slice_get values 0 → None ≡ slice_get values 1 → operator_in values ≡ operator_in (name ∷ [])
one_value [] name some none = absurd (cc)
one_value (value ∷ []) name some none = let e : value ≡ name = cc in rw e refl
one_value (value ∷ other ∷ values) name some none = absurd (cc)

pub two_values : (values : List (List ℕ)) (name : List ℕ) → Some name ≡ slice_get values 1 → operator_in values ≡ Err BadOperator
two_values [] name some = absurd (cc)
two_values (value ∷ []) name some = absurd (cc)
two_values (value ∷ other ∷ values) name some = refl

pub operator_holds : (name : List ℕ) → is_operator_name name ≡ true → IsOperatorName name
operator_holds name passed = (decides_operator_name name).0 passed
