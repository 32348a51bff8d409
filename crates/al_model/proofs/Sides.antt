-- The time of a side moves exactly where its alarms do.
use Rattle.std.proofs.Common.{◌≡◌, ◌≢◌, Bool, true, false, cond, ◌&&◌, ◌||◌, Option, None, Some, List, [], ◌∷◌, refl, sym, ap, ◌∙◌}
use Rattle.std.specs.List.{AllByRecursion, cons_option, filter, filter_map, list_any}
use Rattle.std.specs.List.Sorted.{IsStrictlySortedBy}
use Rattle.std.specs.Option.{IfSome}
use Rattle.std.specs.declared.cmp.Ordering.TheVariants.{Less, Equal}
use Rattle.al_ids.proofs.Keyed.{equal_key}
use Rattle.al_ids.specs.Keys.{key_cmp}
use Rattle.al_ids.specs.declared.key.AlarmKey.{AlarmKey}
use Rattle.al_model.specs.Events.{touches}
use Rattle.al_model.specs.State.{AlarmState}
use Rattle.al_model.specs.Validity.{IsInOrder}
use Rattle.al_model.proofs.Order.{above_filter_map}
use Rattle.al_model.proofs.Tools.{all_filter, none_true}

-- ---- lists of which each member becomes something or goes

-- How what becomes of each member goes with whether it is touched, and with its side before and after.
pub record AreSided (f : AlarmState → Option AlarmState) (t : AlarmState → Bool) (p q : AlarmKey → Bool) (P : AlarmState → Type 0) : Type 0 where
  pub lives : (x : AlarmState) → t x ≡ false → f x ≡ Some x
  pub differs : (x : AlarmState) → P x → t x ≡ true → f x ≢ Some x
  pub key : (x : AlarmState) → IfSome (f x) (λ y. y.key ≡ x.key)
  pub side : (x : AlarmState) → t x ≡ false → p x.key ≡ q x.key
  pub gone : (x : AlarmState) → f x ≡ None → p x.key ≡ q x.key

module _ (f : AlarmState → Option AlarmState) (t : AlarmState → Bool) (p q : AlarmKey → Bool) (P : AlarmState → Type 0) (r : AreSided f t p q P) where
  -- one that isn't touched stays where it was
  kept : (x : AlarmState) (xs : List AlarmState) → t x ≡ false → filter (λ a. q a.key) (filter_map f xs) ≡ filter (λ a. p a.key) xs → filter (λ a. q a.key) (filter_map f (x ∷ xs)) ≡ filter (λ a. p a.key) (x ∷ xs)
  kept x xs still same =
      ap (λ o. filter (λ a. q a.key) (cons_option o (filter_map f xs))) (r.lives x still)
      ∙ ap (λ b. cond b (x ∷ filter (λ a. q a.key) (filter_map f xs)) (filter (λ a. q a.key) (filter_map f xs))) (sym (r.side x still))
      ∙ ap (λ ys. cond (p x.key) (x ∷ ys) ys) same

  -- one that is on the side neither before nor after isn't missed
  left_out : (x : AlarmState) (xs : List AlarmState) → p x.key ≡ false → q x.key ≡ false → filter (λ a. q a.key) (filter_map f (x ∷ xs)) ≡ filter (λ a. q a.key) (filter_map f xs)
  left_out x xs before after = by (f x) (r.key x)
    where
      by : (o : Option AlarmState) → IfSome o (λ y. y.key ≡ x.key) → filter (λ a. q a.key) (cons_option o (filter_map f xs)) ≡ filter (λ a. q a.key) (filter_map f xs)
      by None same = refl
      by (Some y) same =
          ap (λ b. cond b (y ∷ filter (λ a. q a.key) (filter_map f xs)) (filter (λ a. q a.key) (filter_map f xs))) (ap q same ∙ after)

  pub untouched_side : (xs : List AlarmState) → list_any (λ x. t x && (p x.key || q x.key)) xs ≡ false → filter (λ a. q a.key) (filter_map f xs) ≡ filter (λ a. p a.key) xs
  untouched_side [] h = refl
  untouched_side (x ∷ xs) h =
      let parts = none_true (t x && (p x.key || q x.key)) (list_any (λ y. t y && (p y.key || q y.key)) xs) h in
      by (t x) refl parts.0 (untouched_side xs parts.1)
    where
      by : (b : Bool) → t x ≡ b → (b && (p x.key || q x.key)) ≡ false → filter (λ a. q a.key) (filter_map f xs) ≡ filter (λ a. p a.key) xs → filter (λ a. q a.key) (filter_map f (x ∷ xs)) ≡ filter (λ a. p a.key) (x ∷ xs)
      by true is out same =
          let neither = none_true (p x.key) (q x.key) out in
          left_out x xs neither.0 neither.1 ∙ same ∙ sym (ap (λ b. cond b (x ∷ filter (λ a. p a.key) xs) (filter (λ a. p a.key) xs)) neither.0)
      by false is out same = kept x xs is same

  -- what is above a key isn't of it
  not_above : (x y : AlarmState) (ys zs : List AlarmState) → y.key ≡ x.key → AllByRecursion (λ a. key_cmp x.key a.key ≡ Less) zs → zs ≡ y ∷ ys → ⊥
  not_above x y ys [] same above is = cc
  not_above x y ys (z ∷ zs) same above is =
      let first : z ≡ y = cc in
      let both : Less ≡ Equal = sym above.0 ∙ ap (λ a. key_cmp x.key a.key) first ∙ ap (key_cmp x.key) same ∙ equal_key x.key x.key refl in
      cc

  pub same_side : (xs : List AlarmState) → IsInOrder xs → AllByRecursion P xs → filter (λ a. q a.key) (filter_map f xs) ≡ filter (λ a. p a.key) xs → list_any (λ x. t x && (p x.key || q x.key)) xs ≡ false
  unfolding IsStrictlySortedBy
  same_side [] order all same = refl
  same_side (x ∷ xs) order all same = by (f x) refl (r.key x) (p x.key) refl (q x.key) refl (t x) refl same (same_side xs order.1 all.1)
    where
      further : Bool
      further = list_any (λ y. t y && (p y.key || q y.key)) xs

      after : List AlarmState
      after = filter (λ a. q a.key) (filter_map f xs)

      before : List AlarmState
      before = filter (λ a. p a.key) xs

      above_after : AllByRecursion (λ a. key_cmp x.key a.key ≡ Less) after
      above_after = all_filter (λ a. key_cmp x.key a.key ≡ Less) (λ a. q a.key) (filter_map f xs) (above_filter_map x.key f r.key xs order.0)

      above_before : AllByRecursion (λ a. key_cmp x.key a.key ≡ Less) before
      above_before = all_filter (λ a. key_cmp x.key a.key ≡ Less) (λ a. p a.key) xs order.0

      -- on neither side
      out : (touching : Bool) → (after ≡ before → further ≡ false) → after ≡ before → ((touching && (false || false)) || further) ≡ false
      out true more same = more same
      out false more same = more same

      -- on a side, and the same
      on : (y : AlarmState) → f x ≡ Some y → y ≡ x → (here : Bool) (touching : Bool) → t x ≡ touching → further ≡ false → ((touching && here) || further) ≡ false
      on y is first here true touches rest = absurd (r.differs x all.0 touches (is ∙ ap Some first))
      on y is first here false touches rest = rest

      by : (o : Option AlarmState) → f x ≡ o → IfSome o (λ y. y.key ≡ x.key) → (b : Bool) → p x.key ≡ b → (c : Bool) → q x.key ≡ c → (touching : Bool) → t x ≡ touching → filter (λ a. q a.key) (cons_option o (filter_map f xs)) ≡ cond b (x ∷ before) before → (after ≡ before → further ≡ false) → ((touching && (b || c)) || further) ≡ false
      by None gone key true was c is touching touches same more = absurd (not_above x x before after refl above_after same)
      by None gone key false was true is touching touches same more = let both : false ≡ true = sym was ∙ r.gone x gone ∙ is in absurd (cc)
      by None gone key false was false is touching touches same more = out touching more same
      by (Some y) gone key true was true is touching touches same more =
          let shown : y ∷ after ≡ x ∷ before = sym (ap (λ d. cond d (y ∷ after) after) (ap q key ∙ is)) ∙ same in
          let first : y ≡ x = cc in
          let rest : after ≡ before = cc in
          on y gone first (true || true) touching touches (more rest)
      by (Some y) gone key true was false is touching touches same more =
          let shown : after ≡ x ∷ before = sym (ap (λ d. cond d (y ∷ after) after) (ap q key ∙ is)) ∙ same in
          absurd (not_above x x before after refl above_after shown)
      by (Some y) gone key false was true is touching touches same more =
          let shown : y ∷ after ≡ before = sym (ap (λ d. cond d (y ∷ after) after) (ap q key ∙ is)) ∙ same in
          absurd (not_above x y after before key above_before (sym shown))
      by (Some y) gone key false was false is touching touches same more =
          let shown : after ≡ before = sym (ap (λ d. cond d (y ∷ after) after) (ap q key ∙ is)) ∙ same in
          out touching more shown
