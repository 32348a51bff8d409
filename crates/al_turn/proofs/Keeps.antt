-- What a step of one seat owes the rule, and that this is enough.
use Rattle.std.proofs.Common.{◌≡◌, ◌≢◌, ℕ, suc, ◌+◌, ◌<◌, ◌≤◌, List, [], ◌∷◌, length, drop, set, refl, sym, ap, ◌∙◌, subst, arith, ⊎_elim, inl, inr, Option, length-set}
use mathlib.Core.Option as options
use mathlib.Core.Option.{some-injective}
use lib.ListN.{get_elem?}
use Rattle.atomic_table.proofs.Lists.{at_set, set_else}
use Rattle.atomic_table.specs.Table.{State}
use Rattle.al_model.specs.declared.kept.Mark.{Mark}
use Rattle.al_turn.proofs.Grows.{goes_further}
use Rattle.al_turn.proofs.Places.{each_set, total_set}
use Rattle.al_turn.specs.Histories.{GoesOn, Numbered, entries_of}
use Rattle.al_turn.specs.Rule.{Fits, Gathered, HomeIs, InLine, Turning, to_draw}
use Rattle.al_turn.specs.Views.{rank}
use Rattle.al_turn.specs.declared.view.Joined.{Joined}
use Rattle.al_turn.specs.declared.view.View.{View}

module _ {T : Type 0} (mark : T → Mark) where
  -- Where the seat's pass doesn't hold the value before its step, where the value is stays as it was.
  pub home_stays : (homes : List (options.Option (Option T))) (views : List View) (now : Mark) (id : ℕ) (v w : View)
      → get_elem? views id ≡ options.some v → rank v.stage ≢ 3 → HomeIs mark homes views now → HomeIs mark homes (set views id w) now
  home_stays homes views now id v w at not_out home =
      ⊎_elim
      inl
      (λ out. let h = out.1 in inr (
        out.0,
        (h.0, h.1, set_else views id h.0 w (λ e. not_out (ap (λ (x : View). rank x.stage) (some-injective v h.1 (sym at ∙ ap (get_elem? views) (sym e) ∙ h.2)) ∙ h.3)) ∙ h.2, h.3),
      ))
      home

module _ {T : Type 0} (mark : T → Mark) (start : Mark) where
  -- The seat id, whose view was v, has the view w, and the words, the homes and the history are those given.
  pub record Change (s : State (Option T) View) (r : Turning mark start s) (id : ℕ) (v w : View) (drawn serving : ℕ) (now : Mark) (homes : List (options.Option (Option T))) : Type 0 where
    pub at : get_elem? s.views id ≡ options.some v
    pub live : 0 < v.number
    pub joined : w.joined ≡ v.joined
    pub behind : serving ≤ drawn
    pub home : HomeIs mark homes (set s.views id w) now
    pub others : (by : ℕ) (u : View) → by ≢ id → get_elem? s.views by ≡ options.some u → InLine drawn serving u
    pub mine : InLine drawn serving w
    pub lone : (by : ℕ) (u : View) → by ≢ id → get_elem? s.views by ≡ options.some u → 1 ≤ rank u.stage → 1 ≤ rank w.stage → u.ticket ≢ w.ticket
    pub looks : (by : ℕ) (u : View) → by ≢ id → get_elem? s.views by ≡ options.some u → rank u.stage ≡ 3 → u.seen ≡ now
    pub goes : GoesOn r.now now
    pub own_same : (p : ℕ) → p ≢ v.number → entries_of now.entries p (length start.entries) ≡ entries_of r.now.entries p (length start.entries)
    pub fits : Fits start (length s.views) now id w
    pub room : drawn + to_draw w ≤ r.drawn + to_draw v
    pub origins : Numbered (length s.views) (drop (length start.entries) now.entries)

  -- What is kept of joined passes stays true.
  gathered_on : (s : State (Option T) View) (r : Turning mark start s) (id : ℕ) (v w : View) (drawn serving : ℕ) (now : Mark) (homes : List (options.Option (Option T)))
      → Change s r id v w drawn serving now homes → (js : List Joined) → Gathered start s.views r.now js → Gathered start (set s.views id w) now js
  gathered_on s r id v w drawn serving now homes c [] past = tt
  gathered_on s r id v w drawn serving now homes c (j ∷ js) past =
      let p = past.0 in
      let number = p.number in
      let live = c.live in
      let other : (k : ℕ) → j.number ≡ suc k → k ≢ id = λ k is same. let zero_is = p.spent id v (is ∙ ap suc same) c.at in absurd (omega arith) in
      let own_number = (r.fits id v c.at c.live).number in
      let n = length-set s.views id w in (
        record {
          spent = λ k u is at. ⊎_elim (λ t. absurd (other k is t.0)) (λ t. p.spent k u is t.1) (at_set s.views id k w u at);
          number = (omega arith, omega arith);
          seen = goes_further j.seen r.now now p.seen c.goes;
          own_now = c.own_same j.number (λ e. other id (e ∙ own_number) refl) ∙ p.own_now;
        },
        gathered_on s r id v w drawn serving now homes c js past.1,
      )

  pub keeps_rule : (s : State (Option T) View) (r : Turning mark start s) (id : ℕ) (v w : View) (drawn serving : ℕ) (now : Mark) (homes : List (options.Option (Option T)))
      → Change s r id v w drawn serving now homes → Turning mark start record { words = drawn ∷ serving ∷ length now.entries ∷ []; homes = homes; views = set s.views id w }
  keeps_rule s r id v w drawn serving now homes c =
      let n = length-set s.views id w in
      let old_room = r.room in
      let old_few = r.few in
      let step_room = c.room in
      let sums = total_set s.views id v w c.at in
      let own_number = (r.fits id v c.at c.live).number in
      record {
        drawn = drawn;
        serving = serving;
        now = now;
        words = refl;
        behind = c.behind;
        home = c.home;
        line = each_set (λ by u. InLine drawn serving u) s.views id w c.mine c.others;
        apart = λ i j u x at_i at_j waits_i waits_j same.
            ⊎_elim
            (λ p. ⊎_elim
            (λ q. p.0 ∙ sym q.0)
            (λ q. absurd (c.lone j x q.0 q.1 waits_j (subst (λ (y : View). 1 ≤ rank y.stage) (sym p.1) waits_i) (sym same ∙ ap (λ (y : View). y.ticket) (sym p.1))))
            (at_set s.views id j w x at_j))
            (λ p. ⊎_elim
            (λ q. absurd (c.lone i u p.0 p.1 waits_i (subst (λ (y : View). 1 ≤ rank y.stage) (sym q.1) waits_j) (same ∙ ap (λ (y : View). y.ticket) (sym q.1))))
            (λ q. r.apart i j u x p.1 q.1 waits_i waits_j same)
            (at_set s.views id j w x at_j))
            (at_set s.views id i w u at_i);
        fits = subst (λ (k : ℕ). (by : ℕ) (u : View) → get_elem? (set s.views id w) by ≡ options.some u → 0 < u.number → Fits start k now by u) (sym n)
            (each_set (λ by u. 0 < u.number → Fits start (length s.views) now by u) s.views id w (λ live. c.fits)
            (λ by u ne at live. let f = r.fits by u at live in let number = f.number in record {
              number = f.number;
              counts = f.counts;
              base = f.base;
              seen = goes_further u.seen r.now now f.seen c.goes;
              deep = f.deep;
              own_now = subst (λ (k : ℕ). entries_of now.entries u.number k ≡ entries_of r.now.entries u.number k) (sym f.base) (c.own_same u.number (λ e. ne (omega arith))) ∙ f.own_now;
              looks = c.looks by u ne at;
            }));
        gone = each_set (λ by u. Gathered start (set s.views id w) now u.joined) s.views id w
            (subst (Gathered start (set s.views id w) now) (sym c.joined) (gathered_on s r id v w drawn serving now homes c v.joined (r.gone id v c.at)))
            (λ by u ne at. gathered_on s r id v w drawn serving now homes c u.joined (r.gone by u at));
        room = omega arith;
        few = omega arith;
        origins = subst (λ (k : ℕ). Numbered k (drop (length start.entries) now.entries)) (sym n) c.origins;
        goes_on = goes_further start r.now now r.goes_on c.goes;
      }
