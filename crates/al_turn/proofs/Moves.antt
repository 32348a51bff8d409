-- The steps of a turn keep the rule, and tell what they are said to tell.
use Rattle.std.proofs.Common.{◌≡◌, ◌≢◌, ◌==◌, ℕ, ◌+◌, ◌-◌, ◌%◌, ◌^◌, ◌<◌, ◌≤◌, true, false, cond, List, [], ◌∷◌, length, set, slice_index, slice_set, refl, sym, ap, ◌∙◌, subst, arith, ⊎_elim, inl, inr, Option, Some, unwrap_or, ne_eqb, mod-eq_of_lt}
use mathlib.Core.Option as options
use mathlib.Core.Option.{some-injective}
use mathlib.Core.Logic.{dite}
use native.Mathlib.Decide.{ℕ_discrete}
use lib.ListN.{get_elem?}
use Rattle.atomic_table.proofs.Lists.{set_here}
use Rattle.atomic_table.specs.Table.{Act, Allows, Me, State, Valid, carried_after, homes_after}
use Rattle.atomic_table.specs.Table.Act.{keeps, takes, gives}
use Rattle.al_model.specs.declared.kept.Mark.{Mark}
use Rattle.al_turn.proofs.Grows.{goes_further, goes_on_itself, is_longer, numbered_longer, own_stays}
use Rattle.al_turn.proofs.Keeps.{Change, home_stays, keeps_rule}
use Rattle.al_turn.proofs.Places.{draws_idle, draws_waiting, draws_within, is_place}
use Rattle.al_turn.specs.Histories.{GoesOn, MadeBy, further}
use Rattle.al_turn.specs.Rule.{InLine, Turning, to_draw}
use Rattle.al_turn.specs.Views.{Fetched, Found, GivenBack, counted, drew, ended, fetched, looked, rank}
use Rattle.al_turn.specs.declared.view.Stage.TheVariants.{Served}
use Rattle.al_turn.specs.declared.view.View.{View}

module _ {T : Type 0} where
  -- what `Allows` asks where the table has these words and homes
  abbrev Goes : (State (Option T) View → Type 0) → State (Option T) View → ℕ → Me (Option T) View → ℕ → (ℕ → ℕ) → (ℕ → Me (Option T) View → Type 0) → List ℕ → List (options.Option (Option T)) → Type 0
  Goes holds s id me i f then ws hs =
      (w : View) × (a : Act (Option T)) × Valid hs me.1 a
      × holds record { words = slice_set ws i (f (slice_index ws i)); homes = homes_after hs me.1 a; views = slice_set s.views id w }
      × then (slice_index ws i) (w, carried_after me.1 a)

  abbrev value_in : T → List (ℕ × Option T) → T
  value_in d [] = d
  value_in d (x ∷ xs) = unwrap_or x.1 d

module _ {T : Type 0} (mark : T → Mark) (start : Mark) where
  -- the other passes stand in line as they stood
  line_of : (s : State (Option T) View) (r : Turning mark start s) (id : ℕ) → (by : ℕ) (u : View) → by ≢ id → get_elem? s.views by ≡ options.some u → InLine r.drawn r.serving u
  line_of s r id by u ne at = r.line by u at

  -- the history hasn't changed
  same_looks : (s : State (Option T) View) (r : Turning mark start s) (id : ℕ) → (by : ℕ) (u : View) → by ≢ id → get_elem? s.views by ≡ options.some u → rank u.stage ≡ 3 → u.seen ≡ r.now
  same_looks s r id by u ne at out = (r.fits by u at ((r.line by u at).waits (omega arith)).3).looks out

  -- no other pass has the ticket of one that has a ticket
  alone_with : (s : State (Option T) View) (r : Turning mark start s) (id : ℕ) (v : View) → get_elem? s.views id ≡ options.some v → 1 ≤ rank v.stage
      → (by : ℕ) (u : View) → by ≢ id → get_elem? s.views by ≡ options.some u → 1 ≤ rank u.stage → u.ticket ≢ v.ticket
  alone_with s r id v at waits by u ne at_by waits_by same = ne (r.apart by id u v at_by at waits_by waits same)

  -- no other pass has the turn
  only_turn : (s : State (Option T) View) (r : Turning mark start s) (id : ℕ) (v : View) → get_elem? s.views id ≡ options.some v → 2 ≤ rank v.stage
      → (by : ℕ) (u : View) → by ≢ id → get_elem? s.views by ≡ options.some u → 2 ≤ rank u.stage → ⊥
  only_turn s r id v at turn by u ne at_by turn_by =
      alone_with s r id v at (omega arith) by u ne at_by (omega arith) ((r.line by u at_by).turn turn_by ∙ sym ((r.line id v at).turn turn))

  -- where a pass has the turn and not the value, the value is at home
  at_home : (s : State (Option T) View) (r : Turning mark start s) (id : ℕ) (v : View) → get_elem? s.views id ≡ options.some v → 2 ≤ rank v.stage → rank v.stage ≢ 3
      → (c : T) × (s.homes ≡ options.some (Some c) ∷ []) × (mark c ≡ r.now)
  at_home s r id v at turn not_out =
      ⊎_elim (λ h. h)
      (λ out. let h = out.1 in absurd (dite (ℕ_discrete h.0 id)
      (λ e. not_out (ap (λ (x : View). rank x.stage) (some-injective v h.1 (sym at ∙ ap (get_elem? s.views) (sym e) ∙ h.2)) ∙ h.3))
      (λ ne. let three = h.3 in only_turn s r id v at turn h.0 h.1 ne h.2 (omega arith))))
      r.home

  pub draws : (slots id : ℕ) (v : View) → 0 < v.number → rank v.stage ≡ 0 → 0 < v.left
      → Allows (Turning mark start) slots id (v, []) 0 (λ n. (n + 1) % 2 ^ 64) (λ n after. after ≡ (drew v n, []))
  draws slots id v live idle some_left s r _ at _ =
      let w = drew v r.drawn in
      let f = r.fits id v at live in
      let behind = r.behind in
      let room = r.room in
      let few = r.few in
      let here : to_draw v ≡ v.left = draws_idle v idle in
      let within = draws_within s.views id v at in
      let change : Change mark start s r id v w (r.drawn + 1) r.serving r.now s.homes = record {
        at = at;
        live = live;
        joined = refl;
        behind = omega arith;
        home = home_stays mark s.homes s.views r.now id v w at (λ e. absurd (omega arith)) r.home;
        others = λ by u ne at_by. let l = r.line by u at_by in record { waits = λ h. let x = l.waits h in (x.0, omega arith, x.2, x.3); turn = l.turn };
        mine = record { waits = λ h. (behind, omega arith, some_left, live); turn = λ h. absurd (omega arith) };
        lone = λ by u ne at_by waits_by waits same. let x = (r.line by u at_by).waits waits_by in absurd (omega arith);
        looks = same_looks s r id;
        goes = goes_on_itself r.now;
        own_same = λ p ne. refl;
        fits = record { number = f.number; counts = f.counts; base = f.base; seen = f.seen; deep = f.deep; own_now = f.own_now; looks = λ h. absurd (omega arith) };
        room = omega arith;
        origins = r.origins;
      } in
      let fits_word : (r.drawn + 1) % 2 ^ 64 ≡ r.drawn + 1 = mod-eq_of_lt (omega arith) in
      subst (λ ws. Goes (Turning mark start) s id (v, []) 0 (λ n. (n + 1) % 2 ^ 64) (λ n after. after ≡ (drew v n, [])) ws s.homes) (sym r.words) (
        w,
        keeps,
        tt,
        subst (λ n. Turning mark start record { words = n ∷ r.serving ∷ length r.now.entries ∷ []; homes = s.homes; views = set s.views id w }) (sym fits_word)
            (keeps_rule mark start s r id v w (r.drawn + 1) r.serving r.now s.homes change),
        refl,
      )

  -- a pass that waits reads a ticket: the two cases are where it is its own, and where it isn't
  looked_rank : (v : View) (n : ℕ) → 1 ≤ rank v.stage → 1 ≤ rank (looked v n).stage
  looked_rank v n waits = elim (n == v.ticket) as (λ b. 1 ≤ rank (cond b Served v.stage)) [ true ↦ omega arith | false ↦ waits ]

  pub looks : (slots id : ℕ) (v : View) → 0 < v.number → rank v.stage ≡ 1
      → Allows (Turning mark start) slots id (v, []) 1 (λ n. n) (λ n after. after ≡ (looked v n, []))
  looks slots id v live waiting s r _ at _ =
      let w = looked v r.serving in
      let f = r.fits id v at live in
      let line = (r.line id v at).waits (omega arith) in
      let rank_w : 1 ≤ rank w.stage = looked_rank v r.serving (omega arith) in
      let not_out : rank w.stage ≢ 3 = elim (r.serving == v.ticket) as (λ b. rank (cond b Served v.stage) ≢ 3) [ true ↦ (λ e. absurd (omega arith)) | false ↦ (λ e. absurd (omega arith)) ] in
      let draw_v : to_draw v ≡ v.left - 1 = draws_waiting v (omega arith) in
      let draw_w : to_draw w ≡ v.left - 1 = draws_waiting w rank_w in
      let change : Change mark start s r id v w r.drawn r.serving r.now s.homes = record {
        at = at;
        live = live;
        joined = refl;
        behind = r.behind;
        home = home_stays mark s.homes s.views r.now id v w at (λ e. absurd (omega arith)) r.home;
        others = line_of s r id;
        mine = record {
          waits = λ h. line;
          turn = dite (ℕ_discrete r.serving v.ticket)
              (λ e h. sym e)
              (λ ne. subst (λ b. 2 ≤ rank (cond b Served v.stage) → v.ticket ≡ r.serving) (sym (ne_eqb r.serving v.ticket ne)) (λ h. absurd (omega arith)));
        };
        lone = λ by u ne at_by waits_by waits. alone_with s r id v at (omega arith) by u ne at_by waits_by;
        looks = same_looks s r id;
        goes = goes_on_itself r.now;
        own_same = λ p ne. refl;
        fits = record { number = f.number; counts = f.counts; base = f.base; seen = f.seen; deep = f.deep; own_now = f.own_now; looks = λ h. absurd (not_out h) };
        room = omega arith;
        origins = r.origins;
      } in
      subst (λ ws. Goes (Turning mark start) s id (v, []) 1 (λ n. n) (λ n after. after ≡ (looked v n, [])) ws s.homes) (sym r.words)
      (w, keeps, tt, keeps_rule mark start s r id v w r.drawn r.serving r.now s.homes change, refl)

  pub fetches : (slots id : ℕ) (v : View) → 0 < v.number → rank v.stage ≡ 2
      → Allows (Turning mark start) slots id (v, []) 2 (λ n. n) (λ n after. Fetched mark (v, []) n after)
  fetches slots id v live served s r _ at _ =
      let home = at_home s r id v at (omega arith) (λ e. absurd (omega arith)) in
      let w = fetched v r.now in
      let f = r.fits id v at live in
      let line = r.line id v at in
      let deep = is_longer start.entries v.seen.entries f.deep.begins in
      let base = f.base in
      let draw_v : to_draw v ≡ v.left - 1 = draws_waiting v (omega arith) in
      let change : Change mark start s r id v w r.drawn r.serving r.now (options.none ∷ []) = record {
        at = at;
        live = live;
        joined = refl;
        behind = r.behind;
        home = inr (refl, (id, w, set_here s.views id w (is_place s.views id v at), refl));
        others = line_of s r id;
        mine = record { waits = λ h. line.waits (omega arith); turn = λ h. line.turn (omega arith) };
        lone = λ by u ne at_by waits_by waits. alone_with s r id v at (omega arith) by u ne at_by waits_by;
        looks = same_looks s r id;
        goes = goes_on_itself r.now;
        own_same = λ p ne. refl;
        fits = record { number = f.number; counts = f.counts; base = f.base; seen = goes_on_itself r.now; deep = r.goes_on; own_now = refl; looks = λ h. refl };
        room = omega arith;
        origins = r.origins;
      } in
      subst (λ ws. Goes (Turning mark start) s id (v, []) 2 (λ n. n) (λ n after. Fetched mark (v, []) n after) ws s.homes) (sym r.words)
      (subst (λ hs. Goes (Turning mark start) s id (v, []) 2 (λ n. n) (λ n after. Fetched mark (v, []) n after) (r.drawn ∷ r.serving ∷ length r.now.entries ∷ []) hs) (sym home.1) (
        w,
        takes 0 (Some home.0),
        refl,
        keeps_rule mark start s r id v w r.drawn r.serving r.now (options.none ∷ []) change,
        record {
          value = home.0;
          seat = ap (λ (m : Mark). (fetched v m, (0, Some home.0) ∷ [])) (sym home.2);
          length_is = ap (λ (m : Mark). length m.entries) (sym home.2);
          found = subst (Found v) (sym home.2) (f.seen, f.own_now, omega arith);
        },
      ))

  -- the table has one slot
  one_home : (s : State (Option T) View) → Turning mark start s → (h : options.Option (Option T)) × (s.homes ≡ h ∷ [])
  one_home s r = ⊎_elim (λ h. (options.some (Some h.0), h.1)) (λ out. (options.none, out.0)) r.home

  pub counts : (slots id : ℕ) (v : View) (x : T) (added : ℕ) → 0 < v.number → rank v.stage ≡ 3
      → GoesOn v.seen (mark x) → MadeBy (λ p. p == v.number) (further (mark x).entries v.seen.entries)
      → length v.seen.entries + added ≡ length (mark x).entries → length (mark x).entries < 2 ^ 64
      → Allows (Turning mark start) slots id (v, (0, Some x) ∷ []) 2 (λ n. (n + added) % 2 ^ 64) (λ n after. GivenBack mark (v, (0, Some x) ∷ []) after)
  counts slots id v x added live out grows made sum fits_word s r _ at _ =
      let w = counted v (mark x) in
      let f = r.fits id v at live in
      let line = r.line id v at in
      let now_is : v.seen ≡ r.now = f.looks out in
      let grown : GoesOn r.now (mark x) = subst (λ (m : Mark). GoesOn m (mark x)) now_is grows in
      let made_now : MadeBy (λ p. p == v.number) (further (mark x).entries r.now.entries) = subst (λ (m : Mark). MadeBy (λ p. p == v.number) (further (mark x).entries m.entries)) now_is made in
      let sum_now : length r.now.entries + added ≡ length (mark x).entries = subst (λ (m : Mark). length m.entries + added ≡ length (mark x).entries) now_is sum in
      let deep = is_longer start.entries r.now.entries r.goes_on.begins in
      let number = f.number in
      let place = is_place s.views id v at in
      let draw_v : to_draw v ≡ v.left - 1 = draws_waiting v (omega arith) in
      let home = one_home s r in
      let change : Change mark start s r id v w r.drawn r.serving (mark x) (options.some (Some x) ∷ []) = record {
        at = at;
        live = live;
        joined = refl;
        behind = r.behind;
        home = inl (x, refl, refl);
        others = line_of s r id;
        mine = record { waits = λ h. line.waits (omega arith); turn = λ h. line.turn (omega arith) };
        lone = λ by u ne at_by waits_by waits. alone_with s r id v at (omega arith) by u ne at_by waits_by;
        looks = λ by u ne at_by three. absurd (only_turn s r id v at (omega arith) by u ne at_by (omega arith));
        goes = grown;
        own_same = λ p ne. own_stays r.now.entries (mark x).entries (λ q. q == v.number) p (length start.entries) deep grown.begins made_now (ne_eqb p v.number ne);
        fits = record {
          number = f.number;
          counts = f.counts;
          base = f.base;
          seen = goes_on_itself (mark x);
          deep = goes_further start r.now (mark x) r.goes_on grown;
          own_now = refl;
          looks = λ h. absurd (omega arith);
        };
        room = omega arith;
        origins = numbered_longer r.now.entries (mark x).entries v.number (length s.views) (length start.entries) deep grown.begins (omega arith) (omega arith) made_now r.origins;
      } in
      let word_is : (length r.now.entries + added) % 2 ^ 64 ≡ length (mark x).entries = ap (λ n. n % 2 ^ 64) sum_now ∙ mod-eq_of_lt fits_word in
      let play : ℕ → Me (Option T) View → Type 0 = λ n after. GivenBack mark (v, (0, Some x) ∷ []) after in
      subst (λ ws. Goes (Turning mark start) s id (v, (0, Some x) ∷ []) 2 (λ n. (n + added) % 2 ^ 64) play ws s.homes) (sym r.words)
      (subst (λ hs. Goes (Turning mark start) s id (v, (0, Some x) ∷ []) 2 (λ n. (n + added) % 2 ^ 64) play (r.drawn ∷ r.serving ∷ length r.now.entries ∷ []) hs) (sym home.1) (
        w,
        gives,
        tt,
        subst (λ n. Turning mark start record { words = r.drawn ∷ r.serving ∷ n ∷ []; homes = options.some (Some x) ∷ []; views = set s.views id w }) (sym word_is)
            (keeps_rule mark start s r id v w r.drawn r.serving (mark x) (options.some (Some x) ∷ []) change),
        (λ y e. let same : x ≡ y = ap (value_in x) e in let f : T → Me (Option T) View = λ z. (counted v (mark z), []) in ap f same),
      ))

  pub ends : (slots id : ℕ) (v : View) → 0 < v.number → rank v.stage ≡ 4
      → Allows (Turning mark start) slots id (v, []) 1 (λ n. (n + 1) % 2 ^ 64) (λ n after. after ≡ (ended v, []))
  ends slots id v live given s r _ at _ =
      let w = ended v in
      let f = r.fits id v at live in
      let line = (r.line id v at).waits (omega arith) in
      let turn = (r.line id v at).turn (omega arith) in
      let room = r.room in
      let few = r.few in
      let draw_v : to_draw v ≡ v.left - 1 = draws_waiting v (omega arith) in
      let change : Change mark start s r id v w r.drawn (r.serving + 1) r.now s.homes = record {
        at = at;
        live = live;
        joined = refl;
        behind = omega arith;
        home = inl (at_home s r id v at (omega arith) (λ e. absurd (omega arith)));
        others = λ by u ne at_by. let l = r.line by u at_by in record {
          waits = λ h. let y = l.waits h in let apart = alone_with s r id v at (omega arith) by u ne at_by h in (omega arith, y.1, y.2, y.3);
          turn = λ h. absurd (only_turn s r id v at (omega arith) by u ne at_by h);
        };
        mine = record { waits = λ h. absurd (omega arith); turn = λ h. absurd (omega arith) };
        lone = λ by u ne at_by waits_by waits. absurd (omega arith);
        looks = same_looks s r id;
        goes = goes_on_itself r.now;
        own_same = λ p ne. refl;
        fits = record { number = f.number; counts = f.counts; base = f.base; seen = f.seen; deep = f.deep; own_now = f.own_now; looks = λ h. absurd (omega arith) };
        room = omega arith;
        origins = r.origins;
      } in
      let fits_word : (r.serving + 1) % 2 ^ 64 ≡ r.serving + 1 = mod-eq_of_lt (omega arith) in
      subst (λ ws. Goes (Turning mark start) s id (v, []) 1 (λ n. (n + 1) % 2 ^ 64) (λ n after. after ≡ (ended v, [])) ws s.homes) (sym r.words) (
        w,
        keeps,
        tt,
        subst (λ n. Turning mark start record { words = r.drawn ∷ n ∷ length r.now.entries ∷ []; homes = s.homes; views = set s.views id w }) (sym fits_word)
            (keeps_rule mark start s r id v w r.drawn (r.serving + 1) r.now s.homes change),
        refl,
      )
