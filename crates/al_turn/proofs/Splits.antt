-- Pass 1 makes another pass, and takes in passes at the end.
use Rattle.std.proofs.Common.{◌≡◌, ◌⊎◌, ℕ, zero, suc, ◌<◌, ◌≤◌, List, [], ◌∷◌, ◌++◌, length, drop, set, refl, sym, ap, ◌∙◌, subst, arith, ⊎_elim, inl, inr, length-set, length-append}
use mathlib.Core.Option as options
use mathlib.Core.Option.{some-injective}
use lib.ListN.{get_elem?}
use Rattle.atomic_table.proofs.Lists.{at_longer, at_set, set_else}
use Rattle.atomic_table.specs.Table.{Joins, Splits}
use Rattle.al_model.specs.declared.kept.Mark.{Mark}
use Rattle.al_turn.proofs.Grows.{is_longer, none_yet, numbered_more}
use Rattle.al_turn.proofs.Keeps.{home_stays}
use Rattle.al_turn.proofs.Places.{each_set, is_place, total-append, total_set}
use Rattle.al_turn.specs.Histories.{Numbered, entries_of}
use Rattle.al_turn.specs.Rule.{Fits, Gathered, InLine, Past, Turning}
use Rattle.al_turn.specs.Views.{joined_of, next_view, one_more, rank, spent_view, with_joined}
use Rattle.al_turn.specs.declared.view.Joined.{Joined}
use Rattle.al_turn.specs.declared.view.View.{View}

-- one more view behind the others: which one stands at a place
at_one_more : (views : List View) (w : View) (by : ℕ) (u : View) → get_elem? (views ++ w ∷ []) by ≡ options.some u → ((by ≡ length views) × (w ≡ u)) ⊎ ((by < length views) × (get_elem? views by ≡ options.some u))
at_one_more [] w zero u at = inl (refl, some-injective w u at)
at_one_more [] w (suc by) u at = absurd (options.some-ne-none u (sym at))
at_one_more (v ∷ vs) w zero u at = inr (omega arith, at)
at_one_more (v ∷ vs) w (suc by) u at =
    ⊎_elim (λ p. let e = p.0 in inl (omega arith, p.1)) (λ p. let lt = p.0 in inr (omega arith, p.1)) (at_one_more vs w by u at)

-- a fact of each view, once one more stands behind
each_more : (P : ℕ → View → Type 0) (views : List View) (w : View) → P (length views) w → ((by : ℕ) (u : View) → get_elem? views by ≡ options.some u → P by u)
    → (by : ℕ) (u : View) → get_elem? (views ++ w ∷ []) by ≡ options.some u → P by u
each_more P views w last each by u at =
    ⊎_elim (λ p. subst (λ (k : ℕ). P k u) (sym p.0) (subst (λ (x : View). P (length views) x) p.1 last)) (λ p. each by u p.1) (at_one_more views w by u at)

module _ {T : Type 0} (mark : T → Mark) (start : Mark) where
  -- what is kept of joined passes stays true, where no spent pass comes back
  gathered_more : (views more : List View) (now : Mark) → length views ≤ length more
      → ((k : ℕ) (u : View) → suc k ≤ length views → get_elem? more k ≡ options.some u → ((x : View) → get_elem? views k ≡ options.some x → x.number ≡ 0) → u.number ≡ 0)
      → (js : List Joined) → Gathered start views now js → Gathered start more now js
  gathered_more views more now longer spent [] past = tt
  gathered_more views more now longer spent (j ∷ js) past =
      let p = past.0 in
      let number = p.number in (
        record {
          spent = λ k u is at. spent k u (omega arith) at (λ x at_x. p.spent k x is at_x);
          number = (omega arith, omega arith);
          seen = p.seen;
          own_now = p.own_now;
        },
        gathered_more views more now longer spent js past.1,
      )

  pub splits : (id : ℕ) (v : View) → v.number ≡ 1 → rank v.stage ≡ 0 → v.made < 65535 → Splits (Turning mark start) id v (one_more v) (next_view v)
  splits id v first idle few_made s r at =
      let w = one_more v in
      let new = next_view v in
      let f = r.fits id v at (omega arith) in
      let made = f.counts first in
      let present = is_place s.views id v at in
      let changed = set s.views id w in
      let all = changed ++ new ∷ [] in
      let n = length-set s.views id w in
      let more = length-append changed (new ∷ []) in
      let longer : length all ≡ suc (length s.views) = omega arith in
      let sums = total_set s.views id v w at in
      let sum_all = total-append changed (new ∷ []) in
      let room = r.room in
      let gone : (js : List Joined) → Gathered start s.views r.now js → Gathered start all r.now js =
      gathered_more s.views all r.now (omega arith)
      (λ k u within at_u old. ⊎_elim
      (λ p. absurd (omega arith))
      (λ p. ⊎_elim
      (λ q. let zero_is = old v (ap (get_elem? s.views) q.0 ∙ at) in absurd (omega arith))
      (λ q. old u q.1)
      (at_set s.views id k w u p.1))
      (at_one_more changed new k u at_u)) in
      record {
        drawn = r.drawn;
        serving = r.serving;
        now = r.now;
        words = r.words;
        behind = r.behind;
        home = ⊎_elim
            inl
            (λ out. let h = out.1 in inr (out.0, (h.0, h.1, at_longer changed (new ∷ []) h.0 h.1 h.2, h.3)))
            (home_stays mark s.homes s.views r.now id v w at (λ e. absurd (omega arith)) r.home);
        line = each_more (λ by u. InLine r.drawn r.serving u) changed new
            (record { waits = λ h. absurd (omega arith); turn = λ h. absurd (omega arith) })
            (each_set (λ by u. InLine r.drawn r.serving u) s.views id w (let l = r.line id v at in record { waits = l.waits; turn = l.turn }) (λ by u ne at_by. r.line by u at_by));
        apart = λ i j u x at_i at_j waits_i waits_j same.
            let place : (k : ℕ) (y : View) → get_elem? all k ≡ options.some y → 1 ≤ rank y.stage → get_elem? s.views k ≡ options.some y = λ k y at_y waits.
            ⊎_elim
            (λ p. let none : rank new.stage ≡ rank y.stage = ap (λ (z : View). rank z.stage) p.1 in absurd (omega arith))
            (λ p. ⊎_elim
            (λ q. let same_rank : rank v.stage ≡ rank y.stage = ap (λ (z : View). rank z.stage) q.1 in absurd (omega arith))
            (λ q. q.1)
            (at_set s.views id k w y p.1))
            (at_one_more changed new k y at_y) in
            r.apart i j u x (place i u at_i waits_i) (place j x at_j waits_j) waits_i waits_j same;
        fits = subst (λ (k : ℕ). (by : ℕ) (u : View) → get_elem? all by ≡ options.some u → 0 < u.number → Fits start k r.now by u) (sym longer)
            (each_more (λ by u. 0 < u.number → Fits start (suc (length s.views)) r.now by u) changed new
            (λ live. record {
              number = omega arith;
              counts = λ one. absurd (omega arith);
              base = f.base;
              seen = f.seen;
              deep = f.deep;
              own_now = subst (λ (k : ℕ). entries_of r.now.entries new.number k ≡ entries_of v.seen.entries new.number k) (sym f.base)
                  (none_yet v.seen.entries r.now.entries (length s.views) new.number (length start.entries) (is_longer start.entries v.seen.entries f.deep.begins) f.seen.begins (omega arith) r.origins);
              looks = λ h. absurd (omega arith);
            })
            (each_set (λ by u. 0 < u.number → Fits start (suc (length s.views)) r.now by u) s.views id w
            (λ live. record { number = f.number; counts = λ one. omega arith; base = f.base; seen = f.seen; deep = f.deep; own_now = f.own_now; looks = f.looks })
            (λ by u ne at_by live. let g = r.fits by u at_by live in let place = g.number in let mine = f.number in
            record { number = g.number; counts = λ one. absurd (ne (omega arith)); base = g.base; seen = g.seen; deep = g.deep; own_now = g.own_now; looks = g.looks })));
        gone = each_more (λ by u. Gathered start all r.now u.joined) changed new tt
            (each_set (λ by u. Gathered start all r.now u.joined) s.views id w (gone v.joined (r.gone id v at)) (λ by u ne at_by. gone u.joined (r.gone by u at_by)));
        room = omega arith;
        few = omega arith;
        origins = numbered_more (length s.views) (length all) (drop (length start.entries) r.now.entries) (omega arith) r.origins;
        goes_on = r.goes_on;
      }

  pub joins : (id other : ℕ) (v w : View) → 0 < v.number → rank v.stage ≡ 0 → 0 < w.number → rank w.stage ≡ 0 → Joins (Turning mark start) id v other w (with_joined v w) spent_view
  joins id other v w live idle live_w idle_w s r at apart_of at_w_after =
      let both = with_joined v w in
      let at_w : get_elem? s.views other ≡ options.some w = sym (set_else s.views id other both apart_of) ∙ at_w_after in
      let f = r.fits id v at live in
      let g = r.fits other w at_w live_w in
      let changed = set s.views id both in
      let all = set changed other spent_view in
      let n = length-set s.views id both in
      let m = length-set changed other spent_view in
      let same_length : length all ≡ length s.views = m ∙ n in
      let sums = total_set s.views id v both at in
      let sums_other = total_set changed other w spent_view at_w_after in
      let room = r.room in
      let few = r.few in
      let other_number = g.number in
      let other_place = is_place s.views other w at_w in
      let gone : (js : List Joined) → Gathered start s.views r.now js → Gathered start all r.now js =
      gathered_more s.views all r.now (omega arith)
      (λ k u within at_u old. ⊎_elim
      (λ p. ap (λ (x : View). x.number) (sym p.1))
      (λ p. ⊎_elim
      (λ q. ap (λ (x : View). x.number) (sym q.1) ∙ old v (ap (get_elem? s.views) q.0 ∙ at))
      (λ q. old u q.1)
      (at_set s.views id k both u p.1))
      (at_set changed other k spent_view u at_u)) in
      let joined_w : Past start all r.now (joined_of w) = record {
        spent = λ k u is at_u. ⊎_elim
            (λ p. ap (λ (x : View). x.number) (sym p.1))
            (λ p. absurd (p.0 (omega arith)))
            (at_set changed other k spent_view u at_u);
        number = (omega arith, omega arith);
        seen = g.seen;
        own_now = subst (λ (k : ℕ). entries_of r.now.entries w.number k ≡ entries_of w.seen.entries w.number k) g.base g.own_now;
      } in
      let place : (k : ℕ) (y : View) → get_elem? all k ≡ options.some y → 1 ≤ rank y.stage → get_elem? s.views k ≡ options.some y = λ k y at_y waits.
      ⊎_elim
      (λ p. let none : 0 ≡ rank y.stage = ap (λ (z : View). rank z.stage) p.1 in absurd (omega arith))
      (λ p. ⊎_elim
      (λ q. let same_rank : rank v.stage ≡ rank y.stage = ap (λ (z : View). rank z.stage) q.1 in absurd (omega arith))
      (λ q. q.1)
      (at_set s.views id k both y p.1))
      (at_set changed other k spent_view y at_y) in
      record {
        drawn = r.drawn;
        serving = r.serving;
        now = r.now;
        words = r.words;
        behind = r.behind;
        home = home_stays mark s.homes changed r.now other w spent_view at_w_after (λ e. absurd (omega arith))
            (home_stays mark s.homes s.views r.now id v both at (λ e. absurd (omega arith)) r.home);
        line = each_set (λ by u. InLine r.drawn r.serving u) changed other spent_view
            (record { waits = λ h. absurd (omega arith); turn = λ h. absurd (omega arith) })
            (λ by u _ at_by. each_set (λ by u. InLine r.drawn r.serving u) s.views id both (let l = r.line id v at in record { waits = l.waits; turn = l.turn }) (λ by u ne at_by. r.line by u at_by) by u at_by);
        apart = λ i j u x at_i at_j waits_i waits_j same. r.apart i j u x (place i u at_i waits_i) (place j x at_j waits_j) waits_i waits_j same;
        fits = subst (λ (k : ℕ). (by : ℕ) (u : View) → get_elem? all by ≡ options.some u → 0 < u.number → Fits start k r.now by u) (sym same_length)
            (each_set (λ by u. 0 < u.number → Fits start (length s.views) r.now by u) changed other spent_view (λ none. absurd (omega arith))
            (λ by u _ at_by. each_set (λ by u. 0 < u.number → Fits start (length s.views) r.now by u) s.views id both
            (λ _. record { number = f.number; counts = f.counts; base = f.base; seen = f.seen; deep = f.deep; own_now = f.own_now; looks = f.looks })
            (λ by u ne at_by. r.fits by u at_by) by u at_by));
        gone = each_set (λ by u. Gathered start all r.now u.joined) changed other spent_view tt
            (λ by u _ at_by. each_set (λ by u. Gathered start all r.now u.joined) s.views id both (joined_w, gone v.joined (r.gone id v at)) (λ by u ne at_by. gone u.joined (r.gone by u at_by)) by u at_by);
        room = omega arith;
        few = omega arith;
        origins = subst (λ (k : ℕ). Numbered k (drop (length start.entries) r.now.entries)) (sym same_length) r.origins;
        goes_on = r.goes_on;
      }
