-- What is the same is equal.
use Rattle.std.proofs.Common.{◌≡◌, ℕ, Bool, cond, ◌==◌, Option, None, Some, List, refl, ap, rules}
use Rattle.std.specs.Bool.{Decides}
use Rattle.std.specs.Cmp.Lexicographic.{pointwise_decides}
use Rattle.std.specs.Option.{option_eq}
use Rattle.std.proofs.lemmas.Bool.Decides.{Decides-eqb}
use Rattle.std.proofs.lemmas.Option.{same_Some}
use Rattle.al_notify.specs.declared.rule.Mode.{Mode}
use Rattle.al_notify.specs.declared.rule.Mode.TheVariants.{AllStateChanges, RaiseAndClear, SeverityLevel}
use Rattle.al_notify.specs.declared.rule.NotifyRule.{NotifyRule}
use Rattle.al_select.proofs.Takings.{decides_both, decides_by_number, decides_severity}
use Rattle.al_shelf.specs.Exact.{same_shelf_decides}
use Rattle.al_shelf.specs.declared.shelf.Shelf.{Shelf}
use Rattle.al_types.specs.Exact.{same_inventory_decides}
use Rattle.al_types.specs.Inventories.{InventoryView}
use Rattle.al_types.specs.Same.{same_inventory}
use Rattle.al_model.specs.Sames.{mode_number, same_installed, same_mode, same_rule, same_shelves}

-- a test of parts decides what the parts decide together
regrouped : {P Q : Type 0} (b : Bool) → (P → Q) → (Q → P) → Decides b P → Decides b Q
regrouped b there back d = (λ h. there (d.0 h), λ q. d.1 (back q))

pub decides_option : {X : Type 0} (same : X → X → Bool) → ((x y : X) → Decides (same x y) (x ≡ y)) → (a b : Option X) → Decides (option_eq same a b) (a ≡ b)
decides_option same each None None = (λ h. refl, λ h. refl)
decides_option same each None (Some y) = (λ h. absurd (cc), λ h. absurd (cc))
decides_option same each (Some x) None = (λ h. absurd (cc), λ h. absurd (cc))
decides_option same each (Some x) (Some y) = (λ h. ap Some ((each x y).0 h), λ h. (each x y).1 (same_Some x y h))

pub decides_mode : (a b : Mode) → Decides (same_mode a b) (a ≡ b)
decides_mode a b = decides_by_number mode_number at back a b
  where
    at : ℕ → Mode
    at n = cond (n == 0) AllStateChanges (cond (n == 1) RaiseAndClear SeverityLevel)

    back : (x : Mode) → at (mode_number x) ≡ x
    back AllStateChanges = refl
    back RaiseAndClear = refl
    back SeverityLevel = refl

pub decides_rule : (a b : NotifyRule) → Decides (same_rule a b) (a ≡ b)
decides_rule a b =
    regrouped (same_rule a b) (λ p. (search (rules, p.0, p.1))) (λ e. (ap (λ r. r.mode) e, ap (λ r. r.level) e))
    (decides_both _ _ (decides_mode a.mode b.mode) (decides_severity a.level b.level))

pub decides_shelves : (a b : List Shelf) → Decides (same_shelves a b) (a ≡ b)
decides_shelves a b = pointwise_decides same_shelf_decides a b

pub decides_installed : (a b : Option InventoryView) → Decides (same_installed a b) (a ≡ b)
decides_installed a b = decides_option same_inventory same_inventory_decides a b

pub decides_max : (a b : Option ℕ) → Decides (option_eq ◌==◌ a b) (a ≡ b)
decides_max a b = decides_option ◌==◌ Decides-eqb a b
