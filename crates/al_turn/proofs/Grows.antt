-- How histories grow, and whose entries stand in what they grow by.
use Rattle.std.proofs.Common.{◌≡◌, ◌≢◌, ◌==◌, ℕ, suc, ◌≤◌, Bool, true, false, cond, List, [], ◌∷◌, ◌++◌, length, drop, refl, sym, ap, ◌∙◌, subst, arith, append_assoc, append-nil, ne_eqb, eqb-true}
use Rattle.std.proofs.lemmas.Bool.{false≢true}
use Rattle.std.proofs.lemmas.List.{append_cancel_left, drop-append-le}
use Rattle.std.proofs.lemmas.List.Elements.{filter-append}
use Rattle.std.proofs.lemmas.List.Prefix.{front_fits, front_rest}
use Rattle.al_model.specs.declared.entry.Entry.{Entry}
use Rattle.al_model.specs.declared.kept.Mark.{Mark}
use Rattle.al_turn.specs.Histories.{GoesOn, MadeBy, MadeByOthers, Numbered, StartsWith, entries_by, entries_of, further}

pub begins_with : (h f r : List Entry) → h ≡ f ++ r → StartsWith h f
begins_with h f r e = e ∙ ap (λ (x : List Entry). f ++ x) (sym (front_rest h f r e))

pub begins_itself : (h : List Entry) → StartsWith h h
begins_itself h = begins_with h h [] (sym (append-nil h))

pub begins_further : (a b c : List Entry) → StartsWith b a → StartsWith c b → StartsWith c a
begins_further a b c p q =
    begins_with c a (further b a ++ further c b) (q ∙ ap (λ (x : List Entry). x ++ further c b) p ∙ append_assoc a (further b a) (further c b))

pub is_longer : (a b : List Entry) → StartsWith b a → length a ≤ length b
is_longer a b e = front_fits b a (further b a) e

pub goes_on_itself : (m : Mark) → GoesOn m m
goes_on_itself m = record { begins = begins_itself m.entries; counts = omega arith; same = refl }

pub goes_further : (a b c : Mark) → GoesOn a b → GoesOn b c → GoesOn a c
goes_further a b c p q =
    record { begins = begins_further a.entries b.entries c.entries p.begins q.begins; counts = let x = p.counts in let y = q.counts in omega arith; same = q.same ∙ p.same }

-- what stands from a place on, once more entries stand behind
pub drop_longer : (a b : List Entry) (n : ℕ) → n ≤ length a → StartsWith b a → drop n b ≡ drop n a ++ further b a
drop_longer a b n le e = ap (λ (x : List Entry). drop n x) e ∙ drop-append-le n a (further b a) le

pub own_longer : (a b : List Entry) (p n : ℕ) → n ≤ length a → StartsWith b a → entries_of b p n ≡ entries_of a p n ++ entries_by p (further b a)
own_longer a b p n le e = ap (entries_by p) (drop_longer a b n le e) ∙ filter-append (λ (x : Entry). x.origin == p) (drop n a) (further b a)

-- no entry of another origin is the origin's
pub none_by : (origins : ℕ → Bool) (p : ℕ) (es : List Entry) → MadeBy origins es → origins p ≡ false → entries_by p es ≡ []
none_by origins p [] m none = refl
none_by origins p (e ∷ es) m none =
    let ne : e.origin ≢ p = λ q. false≢true (sym none ∙ ap origins (sym q) ∙ m.0) in
    ap (λ (b : Bool). cond b (e ∷ entries_by p es) (entries_by p es)) (ne_eqb e.origin p ne) ∙ none_by origins p es m.1 none

pub own_stays : (a b : List Entry) (origins : ℕ → Bool) (p n : ℕ) → n ≤ length a → StartsWith b a → MadeBy origins (further b a) → origins p ≡ false → entries_of b p n ≡ entries_of a p n
own_stays a b origins p n le e m none =
    own_longer a b p n le e ∙ ap (λ (x : List Entry). entries_of a p n ++ x) (none_by origins p (further b a) m none) ∙ append-nil (entries_of a p n)

not_first : (b : Bool) (e : Entry) (x : List Entry) → cond b (e ∷ x) x ≡ [] → (b ≡ false) × (x ≡ [])
not_first true e x h = cc
not_first false e x h = (refl, h)

others_made : (p : ℕ) (es : List Entry) → entries_by p es ≡ [] → MadeByOthers (λ q. q == p) es
others_made p [] h = tt
others_made p (e ∷ es) h = let s = not_first (e.origin == p) e (entries_by p es) h in (s.0, others_made p es s.1)

-- where an origin's entries stay the same, others made the further ones
pub found_others : (a b : List Entry) (p n : ℕ) → n ≤ length a → StartsWith b a → entries_of b p n ≡ entries_of a p n → MadeByOthers (λ q. q == p) (further b a)
found_others a b p n le e same =
    others_made p (further b a) (append_cancel_left (entries_of a p n) (entries_by p (further b a)) [] (sym (own_longer a b p n le e) ∙ same ∙ sym (append-nil (entries_of a p n))))

pub numbered_append : (n : ℕ) (xs ys : List Entry) → Numbered n xs → Numbered n ys → Numbered n (xs ++ ys)
numbered_append n [] ys p q = q
numbered_append n (x ∷ xs) ys p q = (p.0, numbered_append n xs ys p.1 q)

pub numbered_more : (m n : ℕ) (xs : List Entry) → m ≤ n → Numbered m xs → Numbered n xs
numbered_more m n [] le p = tt
numbered_more m n (x ∷ xs) le p = let low = p.0.0 in let high = p.0.1 in ((low, omega arith), numbered_more m n xs le p.1)

numbered_by : (p n : ℕ) (es : List Entry) → 1 ≤ p → p ≤ n → MadeBy (λ q. q == p) es → Numbered n es
numbered_by p n [] low high m = tt
numbered_by p n (e ∷ es) low high m = let is = eqb-true e.origin p m.0 in ((omega arith, omega arith), numbered_by p n es low high m.1)

pub numbered_longer : (a b : List Entry) (p n from : ℕ) → from ≤ length a → StartsWith b a → 1 ≤ p → p ≤ n → MadeBy (λ q. q == p) (further b a) → Numbered n (drop from a) → Numbered n (drop from b)
numbered_longer a b p n from le e low high m before =
    subst (Numbered n) (sym (drop_longer a b from le e)) (numbered_append n (drop from a) (further b a) before (numbered_by p n (further b a) low high m))

pub none_numbered : (n p : ℕ) (es : List Entry) → suc n ≤ p → Numbered n es → entries_by p es ≡ []
none_numbered n p [] above m = refl
none_numbered n p (e ∷ es) above m =
    let high = m.0.1 in
    let ne : e.origin ≢ p = λ q. absurd (omega arith) in
    ap (λ (b : Bool). cond b (e ∷ entries_by p es) (entries_by p es)) (ne_eqb e.origin p ne) ∙ none_numbered n p es above m.1

numbered_front : (n : ℕ) (xs ys : List Entry) → Numbered n (xs ++ ys) → Numbered n xs
numbered_front n [] ys m = tt
numbered_front n (x ∷ xs) ys m = (m.0, numbered_front n xs ys m.1)

-- an origin that made no entry yet has none in either history
pub none_yet : (a b : List Entry) (n p from : ℕ) → from ≤ length a → StartsWith b a → suc n ≤ p → Numbered n (drop from b) → entries_of b p from ≡ entries_of a p from
none_yet a b n p from le e above m =
    none_numbered n p (drop from b) above m
    ∙ sym (none_numbered n p (drop from a) above (numbered_front n (drop from a) (further b a) (subst (Numbered n) (drop_longer a b from le e) m)))
