-- The tests of sameness hold exactly where two values are one, which the laws of equality cite.
use Rattle.std.proofs.Common.{◌≡◌, false, Option, None, Some, List, ap, refl}
use Rattle.std.specs.Bool.{Decides}
use Rattle.std.specs.Cmp.Lexicographic.{bytes_decides, pointwise, pointwise_decides}
use Rattle.std.specs.Option.{option_eq}
use Rattle.std.specs.Prelude.{◌==◌, ℕ}
use Rattle.std.proofs.lemmas.Bool.{false≢true}
use Rattle.std.proofs.lemmas.Bool.Decides.{Decides-and, Decides-like}
use Rattle.al_shelf.specs.Same.{same_shelf, same_spot, same_type_match}
use Rattle.al_shelf.specs.declared.shelf.Shelf.{Shelf}
use Rattle.al_shelf.specs.declared.shelf.TypeMatch.{TypeMatch}
use Rattle.al_shelf.specs.declared.spot.Spot.{Spot}
use Rattle.al_shelf.specs.declared.spot.Spot.TheVariants.{First, Last, Before, After, Keep}

pub same_type_match_decides : (a b : TypeMatch) → Decides (same_type_match a b) (a ≡ b)
same_type_match_decides a b =
    Decides-like (same_type_match a b) (λ h. λ i. record { type_id = h.0 i; qualifier = h.1 i })
    (λ e. (ap (λ (m : TypeMatch). m.type_id) e, ap (λ (m : TypeMatch). m.qualifier) e))
    (Decides-and _ _ (bytes_decides a.type_id b.type_id) (bytes_decides a.qualifier b.qualifier))

same_text_decides : (a b : Option (List ℕ)) → Decides (option_eq (pointwise ◌==◌) a b) (a ≡ b)
same_text_decides None None = (λ h. refl, λ h. refl)
same_text_decides None (Some b) = (λ h. absurd (false≢true h), λ h. absurd (cc))
same_text_decides (Some a) None = (λ h. absurd (false≢true h), λ h. absurd (cc))
same_text_decides (Some a) (Some b) = Decides-like (pointwise ◌==◌ a b) (λ e. ap Some e) (λ e. cc) (bytes_decides a b)

pub same_shelf_decides : (a b : Shelf) → Decides (same_shelf a b) (a ≡ b)
unfolding same_shelf
same_shelf_decides a b =
    Decides-like (same_shelf a b) (λ h. λ i. record { name = h.0.0.0 i; resources = h.0.0.1 i; types = h.0.1 i; description = h.1 i })
    (λ e. (((ap (λ (s : Shelf). s.name) e, ap (λ (s : Shelf). s.resources) e), ap (λ (s : Shelf). s.types) e), ap (λ (s : Shelf). s.description) e))
    (Decides-and _ _
    (Decides-and _ _ (Decides-and _ _ (bytes_decides a.name b.name) (pointwise_decides bytes_decides a.resources b.resources))
    (pointwise_decides same_type_match_decides a.types b.types))
    (same_text_decides a.description b.description))

never : {P : Type 0} → (P → ⊥) → Decides false P
never none = (λ h. absurd (false≢true h), λ h. absurd (none h))

pub same_spot_decides : (a b : Spot) → Decides (same_spot a b) (a ≡ b)
same_spot_decides First First = (λ h. refl, λ h. refl)
same_spot_decides First Last = never (λ e. cc)
same_spot_decides First (Before b) = never (λ e. cc)
same_spot_decides First (After b) = never (λ e. cc)
same_spot_decides First Keep = never (λ e. cc)
same_spot_decides Last First = never (λ e. cc)
same_spot_decides Last Last = (λ h. refl, λ h. refl)
same_spot_decides Last (Before b) = never (λ e. cc)
same_spot_decides Last (After b) = never (λ e. cc)
same_spot_decides Last Keep = never (λ e. cc)
same_spot_decides (Before a) First = never (λ e. cc)
same_spot_decides (Before a) Last = never (λ e. cc)
same_spot_decides (Before a) (Before b) = Decides-like (pointwise ◌==◌ a b) (λ e. ap Before e) (λ e. cc) (bytes_decides a b)
same_spot_decides (Before a) (After b) = never (λ e. cc)
same_spot_decides (Before a) Keep = never (λ e. cc)
same_spot_decides (After a) First = never (λ e. cc)
same_spot_decides (After a) Last = never (λ e. cc)
same_spot_decides (After a) (Before b) = never (λ e. cc)
same_spot_decides (After a) (After b) = Decides-like (pointwise ◌==◌ a b) (λ e. ap After e) (λ e. cc) (bytes_decides a b)
same_spot_decides (After a) Keep = never (λ e. cc)
same_spot_decides Keep First = never (λ e. cc)
same_spot_decides Keep Last = never (λ e. cc)
same_spot_decides Keep (Before b) = never (λ e. cc)
same_spot_decides Keep (After b) = never (λ e. cc)
same_spot_decides Keep Keep = (λ h. refl, λ h. refl)
