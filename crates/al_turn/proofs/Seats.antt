-- The steps of a turn at a seat that is known by an equation, and what the seat is after them.
use Rattle.std.proofs.Common.{◌≡◌, ◌≢◌, ◌==◌, ℕ, ◌+◌, ◌%◌, ◌^◌, ◌<◌, Bool, false, cond, List, [], ◌∷◌, length, refl, sym, ap, ◌∙◌, subst, Option, None, Some, unwrap_or, eq-eqb, ne_eqb}
use Rattle.atomic_table.specs.Table.{Allows, Me, rest}
use Rattle.al_model.specs.declared.kept.Mark.{Mark}
use Rattle.al_turn.proofs.Moves.{counts, draws, ends, fetches, looks}
use Rattle.al_turn.specs.Histories.{GoesOn, MadeBy, further}
use Rattle.al_turn.specs.Passes.{IsIdle}
use Rattle.al_turn.specs.Rule.{Turning}
use Rattle.al_turn.specs.Views.{Fetched, Found, GivenBack, counted, drew, ended, fetched, looked, rank}
use Rattle.al_turn.specs.declared.view.Stage.TheVariants.{Served, Waiting}
use Rattle.al_turn.specs.declared.view.View.{View}

-- a ticket that is read is served
pub served_rank : (v : View) (t : ℕ) → rank (looked (drew v t) t).stage ≡ 2
served_rank v t = ap (λ (b : Bool). rank (cond b Served Waiting)) (eq-eqb t t refl)

-- a ticket that isn't read is waited for
pub still_waiting : (v : View) (t n : ℕ) → n == t ≡ false → looked (drew v t) n ≡ drew v t
still_waiting v t n other = ap (λ (b : Bool). record (drew v t) { stage = cond b Served Waiting }) other

module _ {T : Type 0} where
  abbrev seat_of : View → List (ℕ × Option T) → Me (Option T) View
  seat_of v hs = (v, hs)

  with_slots : (v : View) (hs ks : List (ℕ × Option T)) → hs ≡ ks → seat_of v hs ≡ seat_of v ks
  with_slots v hs ks e = ap (seat_of v) e

  pub no_slots : (me : Me (Option T) View) → IsIdle me → me ≡ (me.0, [])
  no_slots me idle = with_slots me.0 me.1 [] idle.slots

  -- the seat after the value was put into its slot
  pub holding : (before after : Me (Option T) View) (x : T) → before.1 ≡ (0, None) ∷ [] → after ≡ (before.0, (0, Some x) ∷ rest before.1) → after ≡ (before.0, (0, Some x) ∷ [])
  holding before after x out is = is ∙ with_slots before.0 ((0, Some x) ∷ rest before.1) ((0, Some x) ∷ []) (ap (λ (l : List (ℕ × Option T)). (0, Some x) ∷ rest l) out)

module _ {T : Type 0} (mark : T → Mark) (start : Mark) where
  pub draws_as : (slots id : ℕ) (me : Me (Option T) View) → IsIdle me → 0 < me.0.left
      → Allows (Turning mark start) slots id me 0 (λ n. (n + 1) % 2 ^ 64) (λ n after. after ≡ (drew me.0 n, me.1))
  draws_as slots id me idle some_left =
      subst (λ (m : Me (Option T) View). Allows (Turning mark start) slots id m 0 (λ n. (n + 1) % 2 ^ 64) (λ n after. after ≡ (drew m.0 n, m.1)))
      (with_slots me.0 [] me.1 (sym idle.slots)) (draws mark start slots id me.0 idle.number idle.stage some_left)

  pub looks_as : (slots id : ℕ) (me : Me (Option T) View) (v : View) → me ≡ (v, []) → 0 < v.number → rank v.stage ≡ 1
      → Allows (Turning mark start) slots id me 1 (λ n. n) (λ n after. after ≡ (looked me.0 n, me.1))
  looks_as slots id me v is live waits =
      subst (λ (m : Me (Option T) View). Allows (Turning mark start) slots id m 1 (λ n. n) (λ n after. after ≡ (looked m.0 n, m.1))) (sym is) (looks mark start slots id v live waits)

  pub fetches_as : (slots id : ℕ) (me : Me (Option T) View) (v : View) → me ≡ (v, []) → 0 < v.number → rank v.stage ≡ 2
      → Allows (Turning mark start) slots id me 2 (λ n. n) (λ n after. Fetched mark me n after)
  fetches_as slots id me v is live served =
      subst (λ (m : Me (Option T) View). Allows (Turning mark start) slots id m 2 (λ n. n) (λ n after. Fetched mark m n after)) (sym is) (fetches mark start slots id v live served)

  pub counts_as : (slots id : ℕ) (me : Me (Option T) View) (v : View) (x : T) (added : ℕ) → me ≡ (v, (0, Some x) ∷ []) → 0 < v.number → rank v.stage ≡ 3
      → GoesOn v.seen (mark x) → MadeBy (λ p. p == v.number) (further (mark x).entries v.seen.entries)
      → length v.seen.entries + added ≡ length (mark x).entries → length (mark x).entries < 2 ^ 64
      → Allows (Turning mark start) slots id me 2 (λ n. (n + added) % 2 ^ 64) (λ n after. GivenBack mark me after)
  counts_as slots id me v x added is live out grows made sum fits =
      subst (λ (m : Me (Option T) View). Allows (Turning mark start) slots id m 2 (λ n. (n + added) % 2 ^ 64) (λ n after. GivenBack mark m after)) (sym is)
      (counts mark start slots id v x added live out grows made sum fits)

  pub ends_as : (slots id : ℕ) (me : Me (Option T) View) (v : View) → me ≡ (v, []) → 0 < v.number → rank v.stage ≡ 4
      → Allows (Turning mark start) slots id me 1 (λ n. (n + 1) % 2 ^ 64) (λ n after. after ≡ (ended me.0, me.1))
  ends_as slots id me v is live given =
      subst (λ (m : Me (Option T) View). Allows (Turning mark start) slots id m 1 (λ n. (n + 1) % 2 ^ 64) (λ n after. after ≡ (ended m.0, m.1))) (sym is) (ends mark start slots id v live given)

module _ {T : Type 0} where
  -- the seat after it read a ticket
  pub looked_as : (before after : Me (Option T) View) (v : View) (n : ℕ) → before ≡ (v, []) → after ≡ (looked before.0 n, before.1) → after ≡ (looked v n, [])
  looked_as before after v n was is = let f : Me (Option T) View → Me (Option T) View = λ m. (looked m.0 n, m.1) in is ∙ ap f was

  pub waits_on : (before after : Me (Option T) View) (v : View) (t n : ℕ) → before ≡ (drew v t, []) → after ≡ (looked before.0 n, before.1) → n ≢ t → after ≡ (drew v t, [])
  waits_on before after v t n was is other =
      let f : View → Me (Option T) View = λ u. (u, []) in looked_as before after (drew v t) n was is ∙ ap f (still_waiting v t n (ne_eqb n t other))

  pub is_served : (before after : Me (Option T) View) (v : View) (t n : ℕ) → before ≡ (drew v t, []) → after ≡ (looked before.0 n, before.1) → n ≡ t → after ≡ (looked (drew v t) t, [])
  is_served before after v t n was is same =
      let f : ℕ → Me (Option T) View = λ k. (looked (drew v t) k, []) in looked_as before after (drew v t) n was is ∙ ap f same

  -- the seat after its turn
  pub ends_seat : (before after : Me (Option T) View) (v : View) → before ≡ (v, []) → after ≡ (ended before.0, before.1) → after ≡ (ended v, [])
  ends_seat before after v was is = let f : Me (Option T) View → Me (Option T) View = λ m. (ended m.0, m.1) in is ∙ ap f was

  pub same_value : (x y : T) (out : Option T) → out ≡ Some x → out ≡ Some y → x ≡ y
  same_value x y out is_x is_y = let value : Option T → T = λ o. unwrap_or o x in ap value (sym is_x ∙ is_y)

  abbrev value_of : Option T → List (ℕ × Option T) → Option T
  value_of d [] = d
  value_of d (x ∷ xs) = x.1

  pub first_slot : (me : Me (Option T) View) (v : View) (x : Option T) → me ≡ (v, (0, x) ∷ []) → me.1 ≡ (0, x) ∷ rest me.1
  first_slot me v x is =
      let p : me.1 ≡ (0, x) ∷ [] = ap (λ (m : Me (Option T) View). m.1) is in
      p ∙ ap (λ (l : List (ℕ × Option T)). (0, x) ∷ rest l) (sym p)

  -- what was taken out of the slot is what stood there
  pub slot_value : (me : Me (Option T) View) (x out : Option T) (v : View) → me ≡ (v, (0, x) ∷ []) → me.1 ≡ (0, out) ∷ rest me.1 → x ≡ out
  slot_value me x out v is stood = ap (value_of x) (sym (ap (λ (m : Me (Option T) View). m.1) is) ∙ stood)

-- What `take` gives, of a pass with the view v that drew the ticket t: the seat `begun` was served, `read` has the slot, and `last` has it empty.
module _ {T : Type 0} (mark : T → Mark) (v : View) (t n : ℕ) (begun read last : Me (Option T) View) (out : Option T) (x : T)
    (served : begun ≡ (looked (drew v t) t, [])) (f : Fetched mark begun n read) (stood : read.1 ≡ (0, out) ∷ rest read.1) (some_value : out ≡ Some x)
    (emptied : last ≡ (read.0, (0, None) ∷ rest read.1)) where
  pub value_is : f.value ≡ x
  value_is =
      let p : Some f.value ≡ Some x = slot_value read (Some f.value) out (fetched begun.0 (mark f.value)) f.seat stood ∙ some_value in
      let of_some : Option T → T = λ o. unwrap_or o x in ap of_some p

  pub takes_seat : last ≡ (fetched (drew v t) (mark x), (0, None) ∷ [])
  takes_seat =
      let emptied_of : Me (Option T) View → Me (Option T) View = λ m. (m.0, (0, None) ∷ rest m.1) in
      let at_begin : Me (Option T) View → Me (Option T) View = λ b. (fetched b.0 (mark x), (0, None) ∷ []) in
      let at_value : T → Me (Option T) View = λ y. (fetched begun.0 (mark y), (0, None) ∷ []) in
      emptied ∙ ap emptied_of f.seat ∙ ap at_value value_is ∙ ap at_begin served

  pub takes_length : n ≡ length (mark x).entries
  takes_length = f.length_is ∙ ap (λ (y : T). length (mark y).entries) value_is

  pub takes_found : Found v (mark x)
  takes_found = subst (λ (y : T). Found v (mark y)) value_is (subst (λ (m : Me (Option T) View). Found m.0 (mark f.value)) served f.found)

module _ {T : Type 0} (mark : T → Mark) where
  -- what the seat is after it put the value x back and counted it
  pub given_back : (held counted_seat : Me (Option T) View) (v : View) (x : T) → held ≡ (v, (0, Some x) ∷ []) → GivenBack mark held counted_seat → counted_seat ≡ (counted v (mark x), [])
  given_back held counted_seat v x is given =
      let f : Me (Option T) View → Me (Option T) View = λ m. (counted m.0 (mark x), []) in given x (ap (λ (m : Me (Option T) View). m.1) is) ∙ ap f is
