-- Views by their places, after one of them changed.
use Rattle.std.proofs.Common.{◌≡◌, ◌≢◌, ℕ, zero, suc, ◌+◌, ◌-◌, ◌≤◌, nat_lt, lt-ltb, Bool, true, cond, List, [], ◌∷◌, ◌++◌, length, set, sym, ap, subst, arith, ⊎_elim}
use mathlib.Core.Option.{some, some-injective, some-ne-none}
use lib.ListN.{get_elem?}
use Rattle.atomic_table.proofs.Lists.{at_set}
use Rattle.al_turn.specs.Rule.{to_draw, total}
use Rattle.al_turn.specs.Views.{rank}
use Rattle.al_turn.specs.declared.view.View.{View}

-- a fact of each view, after one changed
pub each_set : (P : ℕ → View → Type 0) (views : List View) (id : ℕ) (w : View) → P id w → ((by : ℕ) (u : View) → by ≢ id → get_elem? views by ≡ some u → P by u)
    → (by : ℕ) (u : View) → get_elem? (set views id w) by ≡ some u → P by u
each_set P views id w here there by u at =
    ⊎_elim
    (λ t. subst (λ (k : ℕ). P k u) (sym t.0) (subst (λ (x : View). P id x) t.1 here))
    (λ t. there by u t.0 t.1)
    (at_set views id by w u at)

pub total_set : (views : List View) (id : ℕ) (v w : View) → get_elem? views id ≡ some v → total (set views id w) + to_draw v ≡ total views + to_draw w
total_set [] id v w at = absurd (some-ne-none v (sym at))
total_set (u ∷ us) zero v w at = let e = ap to_draw (some-injective u v at) in omega arith
total_set (u ∷ us) (suc id) v w at = let e = total_set us id v w at in omega arith

pub total-append : (us vs : List View) → total (us ++ vs) ≡ total us + total vs
total-append [] vs = omega arith
total-append (u ∷ us) vs = let e = total-append us vs in omega arith

-- a view at a place stands in the list
pub is_place : (views : List View) (id : ℕ) (v : View) → get_elem? views id ≡ some v → suc id ≤ length views
is_place [] id v at = absurd (some-ne-none v (sym at))
is_place (u ∷ us) zero v at = omega arith
is_place (u ∷ us) (suc id) v at = let e = is_place us id v at in omega arith

-- what one pass may draw is within what all may
pub draws_within : (views : List View) (id : ℕ) (v : View) → get_elem? views id ≡ some v → to_draw v ≤ total views
draws_within [] id v at = absurd (some-ne-none v (sym at))
draws_within (u ∷ us) zero v at = let e = ap to_draw (some-injective u v at) in omega arith
draws_within (u ∷ us) (suc id) v at = let e = draws_within us id v at in omega arith

pub draws_idle : (v : View) → rank v.stage ≡ 0 → to_draw v ≡ v.left
draws_idle v idle = ap (λ (n : ℕ). cond (nat_lt 0 n) (v.left - 1) v.left) idle

pub draws_waiting : (v : View) → 1 ≤ rank v.stage → to_draw v ≡ v.left - 1
draws_waiting v waits = let e : nat_lt 0 (rank v.stage) ≡ true = lt-ltb 0 (rank v.stage) (omega arith) in ap (λ (b : Bool). cond b (v.left - 1) v.left) e
