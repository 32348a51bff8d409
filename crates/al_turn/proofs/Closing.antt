-- What is known once pass 1 has taken in all other passes.
use Rattle.std.proofs.Common.{◌≡◌, ◌≢◌, ℕ, zero, suc, ◌+◌, ◌<◌, List, [], ◌∷◌, ◌++◌, length, drop, refl, sym, ap, ◌∙◌, subst, arith, ⊎_elim, Option, Some, slice_get, slice_index_or, take, append_assoc}
use mathlib.Core.Option as options
use mathlib.Core.Option.{some-injective}
use mathlib.Core.Logic.{dite}
use native.Mathlib.Decide.{ℕ_discrete}
use lib.ListN.{get_elem?}
use Rattle.atomic_table.specs.Seated.{TableId}
use Rattle.atomic_table.specs.Table.{Final, Me, Seen, State}
use Rattle.std.specs.List.{AllByRecursion}
use Rattle.al_model.specs.declared.kept.Mark.{Mark}
use Rattle.al_turn.proofs.Places.{is_place}
use Rattle.al_turn.specs.Histories.{GoesOn, Numbered, entries_of}
use Rattle.al_turn.specs.Passes.{AllPasses, Closed, Ended, PassState}
use Rattle.al_turn.specs.Rule.{Gathered, Past, Turning}
use Rattle.al_turn.specs.Views.{joined_of, rank, with_joined}
use Rattle.al_turn.specs.declared.view.View.{View}

-- the view after the passes were joined into it, the last one first
abbrev pub with_all : View → List PassState → View
with_all v [] = v
with_all v (p ∷ ps) = with_joined (with_all v ps) p.view

-- Joining passes changes nothing but what is kept of them.
pub same_but_joined : (v : View) (ps : List PassState) → with_all v ps ≡ record v { joined = (with_all v ps).joined }
same_but_joined v [] = refl
same_but_joined v (p ∷ ps) = ap (λ (y : View). record y { joined = joined_of p.view ∷ (with_all v ps).joined }) (same_but_joined v ps)

get_here : (xs : List PassState) (k : ℕ) → k < length xs → (p : PassState) × (slice_get xs k ≡ Some p)
get_here [] k lt = absurd (omega arith)
get_here (x ∷ xs) zero lt = (x, refl)
get_here (x ∷ xs) (suc k) lt = get_here xs k (omega arith)

-- what is kept of the k-th joined pass
gathered_at : (start : Mark) (views : List View) (now : Mark) (v : View) (ps : List PassState) → Gathered start views now (with_all v ps).joined
    → (k : ℕ) (p : PassState) → slice_get ps k ≡ Some p → Past start views now (joined_of p.view)
gathered_at start views now v [] all k p at = absurd cc
gathered_at start views now v (q ∷ qs) all zero p at = let e : q ≡ p = cc in subst (λ (x : PassState). Past start views now (joined_of x.view)) e all.0
gathered_at start views now v (q ∷ qs) all (suc k) p at = gathered_at start views now v qs all.1 k p at

-- All passes are of one table.
pub of_table : (table : TableId) (ps : List PassState) → ((k : ℕ) (p : PassState) → slice_get ps k ≡ Some p → p.table ≡ table) → AllByRecursion (λ (p : PassState). p.table ≡ table) ps
of_table table [] each = tt
of_table table (p ∷ ps) each = (each 0 p refl, of_table table ps (λ k q at. each (suc k) q at))

pub all_at : (P : PassState → Type 0) (front : List PassState) (p : PassState) (back : List PassState) → AllByRecursion P (front ++ p ∷ back) → P p
all_at P [] p back all = all.0
all_at P (q ∷ qs) p back all = all_at P qs p back all.1

module _ {T : Type 0} (mark : T → Mark) (start : Mark) (s : State (Option T) View) (r : Turning mark start s) (table : TableId) (id : ℕ) (first : PassState) (others : List PassState)
    (all : AllPasses table (first ∷ others)) (idle : rank first.view.stage ≡ 0) (at : get_elem? s.views id ≡ options.some (with_all first.view others)) where
  abbrev last : View
  last = with_all first.view others

  is_first : first.view.number ≡ 1
  is_first = let e = (all.each 0 first refl).0 in omega arith

  last_number : last.number ≡ 1
  last_number = ap (λ (v : View). v.number) (same_but_joined first.view others) ∙ is_first

  last_made : last.made ≡ suc (length others)
  last_made = ap (λ (v : View). v.made) (same_but_joined first.view others) ∙ all.made first refl

  last_idle : rank last.stage ≡ 0
  last_idle = ap (λ (v : View). rank v.stage) (same_but_joined first.view others) ∙ idle

  last_seen : last.seen ≡ first.view.seen
  last_seen = ap (λ (v : View). v.seen) (same_but_joined first.view others)

  past_of : (k : ℕ) (p : PassState) → slice_get others k ≡ Some p → Past start s.views r.now (joined_of p.view)
  past_of k p at_p = gathered_at start s.views r.now first.view others (r.gone id last at) k p at_p

  -- there are as many views as passes
  all_views : length s.views ≡ suc (length others)
  all_views =
      let number = last_number in
      sym ((r.fits id last at (omega arith)).counts number) ∙ last_made

  -- every view but the first is spent
  spent : (by : ℕ) (u : View) → get_elem? s.views by ≡ options.some u → 0 < u.number → by ≢ id → ⊥
  spent zero u at_u live ne =
      let number = last_number in
      let place = (r.fits id last at (omega arith)).number in
      ne (omega arith)
  spent (suc k) u at_u live ne =
      let views = all_views in
      let place = is_place s.views (suc k) u at_u in
      let p = get_here others k (omega arith) in
      let number : p.0.view.number ≡ suc k + 1 = (all.each (suc k) p.0 p.1).0 in
      let zero_is = (past_of k p.0 p.1).spent (suc k) u (omega arith) at_u in
      omega arith

  pub is_home : (c : T) × (s.homes ≡ options.some (Some c) ∷ []) × (mark c ≡ r.now)
  is_home =
      ⊎_elim (λ h. h)
      (λ out. let h = out.1 in
      let three : rank h.1.stage ≡ 3 = h.3 in
      let live : 0 < h.1.number = ((r.line h.0 h.1 h.2).waits (omega arith)).3 in
      absurd (dite (ℕ_discrete h.0 id)
      (λ e. let zero_is = last_idle in let same : last ≡ h.1 = some-injective last h.1 (sym at ∙ ap (get_elem? s.views) (sym e) ∙ h.2) in let ranks = ap (λ (v : View). rank v.stage) same in omega arith)
      (λ ne. spent h.0 h.1 h.2 live ne)))
      r.home

  is_ended : (k : ℕ) (p : PassState) → slice_get (first ∷ others) k ≡ Some p → Ended start p r.now
  is_ended zero p at_p =
      let number = last_number in
      let f = r.fits id last at (omega arith) in
      let same : first ≡ p = cc in
      subst (λ (x : PassState). Ended start x r.now) same record {
        goes_on = subst (λ (m : Mark). GoesOn m r.now) last_seen f.seen;
        own = subst (λ (v : View). entries_of r.now.entries v.number (length start.entries) ≡ entries_of v.seen.entries v.number (length start.entries)) (same_but_joined first.view others)
            (subst (λ (n : ℕ). entries_of r.now.entries last.number n ≡ entries_of last.seen.entries last.number n) f.base f.own_now);
      }
  is_ended (suc k) p at_p = let past = past_of k p at_p in record { goes_on = past.seen; own = past.own_now }

  pub is_closed : (m : Mark) → m ≡ r.now → Closed start (first ∷ others) m
  is_closed m e =
      subst (λ (x : Mark). Closed start (first ∷ others) x) (sym e) record {
        goes_on = r.goes_on;
        each = is_ended;
        origins = subst (λ (k : ℕ). Numbered k (drop (length start.entries) r.now.entries)) all_views r.origins;
      }

-- the list before its first element was removed
pub split_first : (ps : List PassState) (p : PassState) (rest : List PassState) → 0 < length ps → p ≡ slice_index_or ps 0 p → rest ≡ take 0 ps ++ drop 1 ps → ps ≡ p ∷ rest
split_first [] p rest some_pass is others = absurd (omega arith)
split_first (x ∷ xs) p rest some_pass is others = cc

-- The last pass that isn't joined yet is of the table too.
pub popped_table : (table : TableId) (ps : List PassState) (p : PassState) (rest before now : List PassState) (q : PassState) (gone : List PassState)
    → AllPasses table ps → ps ≡ p ∷ rest → rest ≡ before ++ gone → before ≡ now ++ q ∷ [] → q.table ≡ table
popped_table table ps p rest before now q gone all split joined popped =
    let of_all = subst (AllByRecursion (λ (x : PassState). x.table ≡ table)) split (of_table table ps (λ k x at. (all.each k x at).1)) in
    all_at (λ (x : PassState). x.table ≡ table) now q gone
    (subst (AllByRecursion (λ (x : PassState). x.table ≡ table)) (joined ∙ ap (λ (l : List PassState). l ++ gone) popped ∙ append_assoc now (q ∷ []) gone) of_all.1)

-- The slot has the value, and the value is as `close` promises.
pub closes : {T : Type 0} (mark : T → Mark) (start : Mark) (table : TableId) (id : ℕ) (v : View) (first : PassState) (others : List PassState) (ws : List ℕ) (xs : List (Option T)) (out : Option T)
    → AllPasses table (first ∷ others) → rank first.view.stage ≡ 0 → v ≡ with_all first.view others → Final (Seen (Turning mark start) id v) ws xs → get_elem? xs 0 ≡ options.some out
    → (c : T) × (out ≡ Some c) × Closed start (first ∷ others) (mark c)
closes {T} mark start table id v first others ws xs out all idle is final at_out =
    let s = final.0 in
    let r = final.1.0 in
    let at : get_elem? s.views id ≡ options.some (with_all first.view others) = final.1.1 ∙ ap options.some is in
    let home = is_home mark start s r table id first others all idle at in
    let stands : get_elem? xs 0 ≡ options.some (Some home.0) = final.4 0 (Some home.0) (ap (λ (hs : List (options.Option (Option T))). get_elem? hs 0) home.1) in
    (home.0, some-injective out (Some home.0) (sym at_out ∙ stands), is_closed mark start s r table id first others all idle at (mark home.0) home.2)

pub none_left : (ps : List PassState) → length ps ≡ 0 → ps ≡ []
none_left [] e = refl
none_left (p ∷ ps) e = absurd (omega arith)

-- `close`, from what its loop leaves: `seen_first` is what pass 1 knew, no pass is left, and the others are gone.
pub closing : {T : Type 0} (mark : T → Mark) (start : Mark) (table : TableId) (id : ℕ) (me : Me (Option T) View) (ps : List PassState) (first : PassState) (seen_first : View) (rest left gone : List PassState)
    (ws : List ℕ) (xs : List (Option T)) (out : Option T)
    → AllPasses table ps → ps ≡ first ∷ rest → rank seen_first.stage ≡ 0 → seen_first ≡ first.view → rest ≡ left ++ gone → length left ≡ 0 → me ≡ (with_all seen_first gone, [])
    → Final (Seen (Turning mark start) id me.0) ws xs → get_elem? xs 0 ≡ options.some out
    → (c : T) × (out ≡ Some c) × Closed start ps (mark c)
closing {T} mark start table id me ps first seen_first rest left gone ws xs out all split idle same joined empty is final at_out =
    let all_gone : rest ≡ gone = joined ∙ ap (λ (l : List PassState). l ++ gone) (none_left left empty) in
    let parts : ps ≡ first ∷ gone = split ∙ ap (λ (l : List PassState). first ∷ l) all_gone in
    let view : me.0 ≡ with_all first.view gone = ap (λ (m : Me (Option T) View). m.0) is ∙ ap (λ (v : View). with_all v gone) same in
    let done = closes mark start table id me.0 first gone ws xs out (subst (AllPasses table) parts all) (subst (λ (v : View). rank v.stage ≡ 0) same idle) view final at_out in
    (done.0, done.1, subst (λ (l : List PassState). Closed start l (mark done.0)) (sym parts) done.2)
