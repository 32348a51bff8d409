-- How far a search for a shelf has come.
use Rattle.std.proofs.Common.{◌≡◌, ℕ, ◌+◌, ◌<◌, ◌≤◌, List, length, sym, ◌∙◌, ap, subst, inl, inr, arith}
use Rattle.std.proofs.Math.Nat.{eq-or-lt_of_le}
use Rattle.std.proofs.lemmas.Option.{same_Some, slice_get_within}
use Rattle.std.specs.Prelude.{Some, slice_get}
use Rattle.al_ids.specs.declared.key.AlarmKey.{AlarmKey}
use Rattle.al_types.specs.Inventories.{InventoryView}
use Rattle.al_shelf.specs.Takes.{Takes, TakesAt}
use Rattle.al_shelf.specs.declared.shelf.Shelf.{Shelf}

-- a shelf that doesn't take the key adds none
pub none_to_next : (i : InventoryView) (key : AlarmKey) (shelves : List Shelf) (n : ℕ) (shelf : Shelf) → slice_get shelves n ≡ Some shelf → ¬ (Takes i key shelf)
    → ((k : ℕ) → k < n → ¬ (TakesAt i key shelves k)) → (k : ℕ) → k < n + 1 → ¬ (TakesAt i key shelves k)
none_to_next i key shelves n shelf there differs before k lt taken =
    let le : k ≤ n = omega arith in
    elim (eq-or-lt_of_le le) [
      | inl e ↦
          let same : taken.0 ≡ shelf = same_Some taken.0 shelf (sym taken.1 ∙ ap (slice_get shelves) e ∙ there) in
          let P : Shelf → Type 0 = Takes i key in
          differs (subst P same taken.2)
      | inr below ↦ before k below taken
    ]

pub none_at_all : (i : InventoryView) (key : AlarmKey) (shelves : List Shelf) (n : ℕ) → length shelves ≤ n
    → ((k : ℕ) → k < n → ¬ (TakesAt i key shelves k)) → (k : ℕ) → ¬ (TakesAt i key shelves k)
none_at_all i key shelves n all before k taken =
    let lt = slice_get_within shelves k taken.0 taken.1 in
    before k (omega arith) taken
