-- Keys that compare as equal are one.
use Rattle.std.proofs.Common.{◌≡◌, ℕ, List, true, ap, refl, ◌∙◌, rules}
use Rattle.std.specs.Bool.{Decides}
use Rattle.std.specs.Ordering.{is_eq}
use Rattle.std.proofs.lemmas.Map.Text.{is_eq-slice_cmp}
use Rattle.std.proofs.lemmas.Slice.Eq.{bytes_eq-Decides}
use Rattle.std.specs.Cmp.Lexicographic.{slice_cmp}
use Rattle.std.specs.Ordering.{nat_cmp, ordering_then}
use Rattle.std.specs.declared.cmp.Ordering.{Ordering}
use Rattle.std.specs.declared.cmp.Ordering.TheVariants.{Less, Equal, Greater}
use Rattle.std.proofs.lemmas.Map.Lookups.{exact_bytes}
use Rattle.al_ids.specs.Keys.{is_same_key, key_cmp}
use Rattle.al_ids.specs.declared.key.AlarmKey.{AlarmKey}

first_equal : (a b : Ordering) → ordering_then a b ≡ Equal → a ≡ Equal
first_equal Equal b h = refl
first_equal Less b h = h
first_equal Greater b h = h

second_equal : (a b : Ordering) → ordering_then a b ≡ Equal → b ≡ Equal
second_equal Equal b h = h
second_equal Less b h = cc
second_equal Greater b h = cc

pub exact_key : (a b : AlarmKey) → key_cmp a b ≡ Equal → a ≡ b
exact_key a b h =
    let resource = exact_bytes a.resource b.resource (first_equal _ _ h) in
    let later = second_equal (slice_cmp nat_cmp a.resource b.resource) _ h in
    let type_id = exact_bytes a.type_id b.type_id (first_equal _ _ later) in
    let qualifier = exact_bytes a.qualifier b.qualifier (second_equal (slice_cmp nat_cmp a.type_id b.type_id) _ later) in
    search (rules, resource, type_id, qualifier)

equal_from : (o : Ordering) → is_eq o ≡ true → o ≡ Equal
equal_from Less h = cc
equal_from Equal h = refl
equal_from Greater h = cc

same_bytes : (xs : List ℕ) → slice_cmp nat_cmp xs xs ≡ Equal
same_bytes xs = equal_from (slice_cmp nat_cmp xs xs) (is_eq-slice_cmp xs xs ∙ (bytes_eq-Decides xs xs).1 refl)

pub equal_key : (a b : AlarmKey) → a ≡ b → key_cmp a b ≡ Equal
equal_key a b e = rw e (rw (same_bytes b.resource, same_bytes b.type_id, same_bytes b.qualifier) refl)

pub decides_key : (a b : AlarmKey) → Decides (is_same_key a b) (a ≡ b)
decides_key a b = (λ h. exact_key a b (equal_from (key_cmp a b) h), λ e. ap is_eq (equal_key a b e))
