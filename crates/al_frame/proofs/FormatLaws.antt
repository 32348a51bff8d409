-- Formats that are made of others keep three laws: what is read is spelled so, what is spelled so is read again, and what is cut is truncated.
use Rattle.std.proofs.Common.{◌≡◌, ℕ, zero, suc, ◌+◌, ◌-◌, ◌^◌, ◌<◌, ◌≤◌, Bool, true, false, cond, ◌&&◌, ◌⊎◌, inl, inr, ltb, List, [], ◌∷◌, ◌++◌, length, get_or, take, drop, Option, Some, None, Result, Ok, Err, refl, sym, ap, subst, ◌∙◌, append_assoc, arith}
use Rattle.std.specs.Prelude.{nat_lt, nat_le}
use Rattle.std.specs.Int.{Width, w16, w64, byte_len, from_be_bytes, to_be_bytes}
use Rattle.std.specs.List.{list_all}
use Rattle.std.proofs.lemmas.Bool.{cases_lt, and_parts, and_from, ltb-true, ltb-false, leb-true, lt-ltb, le-ltb}
use Rattle.std.proofs.lemmas.List.{take_at, drop_at, take-append-drop, length-append, length-take, get_or-drop, get_or-take, get_or_past}
use Rattle.std.proofs.lemmas.Nat.{be_bytes_2, be_bytes_8, from_be_bytes-to_be_bytes_2, from_be_bytes-to_be_bytes_8}
use Rattle.al_frame.specs.declared.fault.FrameFault.{FrameFault}
use Rattle.al_frame.specs.declared.fault.FrameFault.TheVariants.{Truncated, Byte}
use Rattle.al_frame.specs.Formats.{Format, both, byte, byte_at, bytes_at, checked, coded, each_at, list, named, number, number_at, opt, opt_at, passed, piece, piece_at, seen, spelled_each, spelled_opt, fits_opt}
use Rattle.al_base.specs.Answers.{and_then}

-- ---- steps

-- the value of a step that did not fail
pub bind_ok : {A B : Type 0} (r : Result A FrameFault) (next : A → Result B FrameFault) (y : B) → and_then r next ≡ Ok y → (x : A) × (r ≡ Ok x) × (next x ≡ Ok y)
bind_ok (Ok x) next y e = (x, refl, e)
bind_ok (Err fault) next y e = absurd cc

abbrev done : {A : Type 0} → A → Result A FrameFault
done x = Ok x

pub ok_is : {A : Type 0} (x y : A) → done x ≡ done y → x ≡ y
ok_is x y e = cc

-- a test that did not fail
pub guard_ok : {A : Type 0} (b : Bool) (fault : FrameFault) (x y : A) → cond b (Err fault) (Ok x) ≡ Ok y → (b ≡ false) × (x ≡ y)
guard_ok true fault x y e = absurd cc
guard_ok false fault x y e = (refl, cc)

pub pass_ok : {A : Type 0} (b : Bool) (fault : FrameFault) (x y : A) → cond b (Ok x) (Err fault) ≡ Ok y → (b ≡ true) × (x ≡ y)
pass_ok true fault x y e = (refl, cc)
pass_ok false fault x y e = absurd cc

passed_ok : {A : Type 0} (test : A → Bool) (place : ℕ) (x y : A) → passed test place x ≡ Ok y → (test x ≡ true) × (x ≡ y)
unfolding passed
passed_ok test place x y e = pass_ok (test x) (Byte place) x y e

passed_again : {A : Type 0} (test : A → Bool) (place : ℕ) (x : A) → test x ≡ true → passed test place x ≡ Ok x
unfolding passed
passed_again test place x h = rw h refl

pub named_ok : {A : Type 0} (place : ℕ) (o : Option A) (x : A) → named place o ≡ Ok x → o ≡ Some x
named_ok place (Some a) x e = ap (λ y. Some y) (ok_is a x e)
named_ok place None x e = absurd cc

-- ---- bytes

abbrev pub IsBytes : List ℕ → Type 0
IsBytes bytes = (i : ℕ) → get_or bytes i 0 < 256

IsBytes-drop : (n : ℕ) (bytes : List ℕ) → IsBytes bytes → IsBytes (drop n bytes)
IsBytes-drop n bytes h i = rw get_or-drop (h (n + i))

IsBytes-take : (n : ℕ) (bytes : List ℕ) → IsBytes bytes → IsBytes (take n bytes)
IsBytes-take n bytes h i =
    elim (cases_lt i n) [
      | inl lt ↦ rw (get_or-take n bytes i 0 lt) (h i)
      | inr le ↦ rw (get_or_past (take n bytes) i 0 (omega (arith, length-take n bytes))) (omega arith)
    ]

pub IsBytes-rest : (b : ℕ) (bytes : List ℕ) → IsBytes (b ∷ bytes) → IsBytes bytes
IsBytes-rest b bytes h i = h (suc i)

-- what a reader took from the front
pub record Takes (bytes spelled rest : List ℕ) : Type 0 where
  pub parts : bytes ≡ spelled ++ rest
  pub rest_fits : IsBytes rest

pub Takes-then : (a x b y c : List ℕ) → Takes a x b → Takes b y c → Takes a (x ++ y) c
Takes-then a x b y c p q = record { parts = p.parts ∙ ap (λ (t : List ℕ). x ++ t) q.parts ∙ sym (append_assoc x y c); rest_fits = q.rest_fits }

-- two texts that are cut inside: the cut is in the first, or it is in the second
pub where_cut : (x y front : List ℕ) (b : ℕ) (behind : List ℕ) → x ++ y ≡ front ++ (b ∷ behind)
    → ((second : List ℕ) × (x ≡ front ++ (b ∷ second))) ⊎ ((second : List ℕ) × (front ≡ x ++ second) × (y ≡ second ++ (b ∷ behind)))
where_cut [] y front b behind e = inr (front, refl, e)
where_cut (a ∷ x) y [] b behind e = let same : a ≡ b = cc in inl (x, ap (λ h. h ∷ x) same)
where_cut (a ∷ x) y (c ∷ front) b behind e =
    let same : a ≡ c = cc in
    let tails : x ++ y ≡ front ++ (b ∷ behind) = cc in
    elim (where_cut x y front b behind tails) [
      | inl q ↦ let inside = q.1 in inl (q.0, cc)
      | inr q ↦ let inside = q.1 in inr (q.0, cc, q.2)
    ]

-- ---- formats

pub record IsFormat {A : Type 0} (f : Format A) : Type 0 where
  pub takes : (n : ℕ) (bytes : List ℕ) (a : A) (rest : List ℕ) → IsBytes bytes → f.read n bytes ≡ Ok (a, rest) → Takes bytes (f.spell a) rest × (f.fits a ≡ true)
  pub again : (n : ℕ) (a : A) (rest : List ℕ) → f.fits a ≡ true → f.read n (f.spell a ++ rest) ≡ Ok (a, rest)
  pub cut : (n : ℕ) (a : A) (front : List ℕ) (b : ℕ) (behind : List ℕ) → f.fits a ≡ true → f.spell a ≡ front ++ (b ∷ behind) → f.read n front ≡ Err (Truncated n)

-- ---- numbers and bytes

pub record IsWide (w : Width) : Type 0 where
  pub len : (x : ℕ) → length (to_be_bytes w x) ≡ byte_len w
  pub back : (bytes : List ℕ) → length bytes ≡ byte_len w → IsBytes bytes → to_be_bytes w (from_be_bytes w bytes) ≡ bytes
  pub again : (x : ℕ) → x < 256 ^ byte_len w → from_be_bytes w (to_be_bytes w x) ≡ x
  pub below : (bytes : List ℕ) → IsBytes bytes → from_be_bytes w bytes < 256 ^ byte_len w

pub wide16 : IsWide w16
wide16 = record {
  len = λ x. refl;
  back = λ bytes len fits. be_bytes_2 bytes _ len fits refl;
  again = λ x lt. from_be_bytes-to_be_bytes_2 x lt;
  below = λ bytes fits. omega (arith, fits 0, fits 1);
}

pub wide64 : IsWide w64
wide64 = record {
  len = λ x. refl;
  back = λ bytes len fits. be_bytes_8 bytes _ len fits refl;
  again = λ x lt. from_be_bytes-to_be_bytes_8 x lt;
  below = λ bytes fits. omega (arith, fits 0, fits 1, fits 2, fits 3, fits 4, fits 5, fits 6, fits 7);
}

number_takes : (w : Width) → IsWide w → (n : ℕ) (bytes : List ℕ) (x : ℕ) (rest : List ℕ) → IsBytes bytes → number_at w n bytes ≡ Ok (x, rest) → Takes bytes (to_be_bytes w x) rest × (nat_lt x (256 ^ byte_len w) ≡ true)
unfolding number_at
number_takes w wide n bytes x rest fits e =
    let g = guard_ok (ltb (length bytes) (byte_len w)) (Truncated n) (from_be_bytes w (take (byte_len w) bytes), drop (byte_len w) bytes) (x, rest) e in
    let long : byte_len w ≤ length bytes = ltb-false _ _ g.0 in
    let x-is : from_be_bytes w (take (byte_len w) bytes) ≡ x = ap (λ (p : ℕ × List ℕ). p.0) g.1 in
    let rest-is : drop (byte_len w) bytes ≡ rest = ap (λ (p : ℕ × List ℕ). p.1) g.1 in
    let front : to_be_bytes w x ≡ take (byte_len w) bytes = rw (← x-is) (wide.back (take (byte_len w) bytes) (omega (arith, length-take (byte_len w) bytes)) (IsBytes-take (byte_len w) bytes fits)) in
    let below : x < 256 ^ byte_len w = rw (← x-is) (wide.below (take (byte_len w) bytes) (IsBytes-take (byte_len w) bytes fits)) in
    (record { parts = rw (front, ← rest-is) (sym (take-append-drop (byte_len w) bytes)); rest_fits = rw (← rest-is) (IsBytes-drop (byte_len w) bytes fits) }, lt-ltb _ _ below)

number_again : (w : Width) → IsWide w → (n x : ℕ) (rest : List ℕ) → nat_lt x (256 ^ byte_len w) ≡ true → number_at w n (to_be_bytes w x ++ rest) ≡ Ok (x, rest)
unfolding number_at
number_again w wide n x rest fit =
    let lt : x < 256 ^ byte_len w = ltb-true _ _ fit in
    let len = wide.len x in
    let long : ltb (length (to_be_bytes w x ++ rest)) (byte_len w) ≡ false = le-ltb _ _ (omega (arith, length-append (to_be_bytes w x) rest)) in
    rw (long, take_at (to_be_bytes w x) rest (byte_len w) len, drop_at (to_be_bytes w x) rest (byte_len w) len, wide.again x lt) refl

number_cut : (w : Width) → IsWide w → (n x : ℕ) (front : List ℕ) (b : ℕ) (behind : List ℕ) → to_be_bytes w x ≡ front ++ (b ∷ behind) → number_at w n front ≡ Err (Truncated n)
unfolding number_at
number_cut w wide n x front b behind e =
    let len = wide.len x in
    let whole = ap length e ∙ length-append front (b ∷ behind) in
    let short : ltb (length front) (byte_len w) ≡ true = lt-ltb _ _ (omega arith) in
    rw short refl

pub number_is : (w : Width) → IsWide w → IsFormat (number w)
number_is w wide = record {
  takes = λ n bytes x rest fits e. number_takes w wide n bytes x rest fits e;
  again = λ n x rest fit. number_again w wide n x rest fit;
  cut = λ n x front b behind fit e. number_cut w wide n x front b behind e;
}

byte_takes : (n : ℕ) (bytes : List ℕ) (x : ℕ) (rest : List ℕ) → IsBytes bytes → byte_at n bytes ≡ Ok (x, rest) → Takes bytes (x ∷ []) rest × (nat_lt x 256 ≡ true)
unfolding byte_at
byte_takes n [] x rest fits e = absurd cc
byte_takes n (first ∷ bytes) x rest fits e =
    subst (λ (p : ℕ × List ℕ). Takes (first ∷ bytes) (p.0 ∷ []) p.1 × (nat_lt p.0 256 ≡ true)) (ok_is (first, bytes) (x, rest) e)
    (record { parts = refl; rest_fits = IsBytes-rest first bytes fits }, lt-ltb _ _ (fits 0))

-- nothing stands before a cut in one byte
one_cut : (x : ℕ) (front : List ℕ) (b : ℕ) (behind : List ℕ) → x ∷ [] ≡ front ++ (b ∷ behind) → front ≡ []
one_cut x [] b behind e = refl
one_cut x (c ∷ front) b behind e = let long = ap length e ∙ length-append (c ∷ front) (b ∷ behind) in absurd (omega arith)

pub byte_is : IsFormat byte
unfolding byte_at
byte_is = record {
  takes = λ n bytes x rest fits e. byte_takes n bytes x rest fits e;
  again = λ n x rest fit. refl;
  cut = λ n x front b behind fit e. rw (one_cut x front b behind e) refl;
}

-- ---- pieces

bytes_takes : (count n : ℕ) (bytes t rest : List ℕ) → IsBytes bytes → bytes_at count n bytes ≡ Ok (t, rest) → Takes bytes t rest × (length t ≡ count)
unfolding bytes_at
bytes_takes count n bytes t rest fits e =
    let g = guard_ok (ltb (length bytes) count) (Truncated n) (take count bytes, drop count bytes) (t, rest) e in
    let long : count ≤ length bytes = ltb-false _ _ g.0 in
    subst (λ (p : List ℕ × List ℕ). Takes bytes p.0 p.1 × (length p.0 ≡ count)) g.1
    (record { parts = sym (take-append-drop count bytes); rest_fits = IsBytes-drop count bytes fits }, omega (arith, length-take count bytes))

bytes_again : (n : ℕ) (t rest : List ℕ) → bytes_at (length t) n (t ++ rest) ≡ Ok (t, rest)
unfolding bytes_at
bytes_again n t rest =
    let long : ltb (length (t ++ rest)) (length t) ≡ false = le-ltb _ _ (omega (arith, length-append t rest)) in
    rw (long, take_at t rest (length t) refl, drop_at t rest (length t) refl) refl

bytes_cut : (n : ℕ) (t front : List ℕ) (b : ℕ) (behind : List ℕ) → t ≡ front ++ (b ∷ behind) → bytes_at (length t) n front ≡ Err (Truncated n)
unfolding bytes_at
bytes_cut n t front b behind e =
    let whole = ap length e ∙ length-append front (b ∷ behind) in
    let short : ltb (length front) (length t) ≡ true = lt-ltb _ _ (omega arith) in
    rw short refl

piece_takes : (n : ℕ) (bytes t rest : List ℕ) → IsBytes bytes → piece_at n bytes ≡ Ok (t, rest) → Takes bytes (to_be_bytes w16 (length t) ++ t) rest × (nat_lt (length t) (2 ^ 16) ≡ true)
unfolding piece_at
piece_takes n bytes t rest fits e =
    let a = bind_ok (number_at w16 n bytes) (λ count. bytes_at count.0 n count.1) (t, rest) e in
    let first = number_takes w16 wide16 n bytes a.0.0 a.0.1 fits a.1 in
    let second = bytes_takes a.0.0 n a.0.1 t rest first.0.rest_fits a.2 in
    subst (λ (k : ℕ). Takes bytes (to_be_bytes w16 k ++ t) rest × (nat_lt k (2 ^ 16) ≡ true)) (sym second.1)
    (Takes-then bytes (to_be_bytes w16 a.0.0) a.0.1 t rest first.0 second.0, first.1)

piece_again : (n : ℕ) (t rest : List ℕ) → nat_lt (length t) (2 ^ 16) ≡ true → piece_at n ((to_be_bytes w16 (length t) ++ t) ++ rest) ≡ Ok (t, rest)
unfolding piece_at
piece_again n t rest fit =
    ap (piece_at n) (append_assoc (to_be_bytes w16 (length t)) t rest) ∙ rw (number_again w16 wide16 n (length t) (t ++ rest) fit) (bytes_again n t rest)

piece_cut : (n : ℕ) (t front : List ℕ) (b : ℕ) (behind : List ℕ) → nat_lt (length t) (2 ^ 16) ≡ true → to_be_bytes w16 (length t) ++ t ≡ front ++ (b ∷ behind) → piece_at n front ≡ Err (Truncated n)
unfolding piece_at
piece_cut n t front b behind fit e =
    elim (where_cut (to_be_bytes w16 (length t)) t front b behind e) [
      | inl q ↦ rw (number_cut w16 wide16 n (length t) front b q.0 q.1) refl
      | inr q ↦ ap (piece_at n) q.1 ∙ rw (number_again w16 wide16 n (length t) q.0 fit) (bytes_cut n t q.0 b behind q.2)
    ]

pub piece_is : IsFormat piece
piece_is = record {
  takes = λ n bytes t rest fits e. piece_takes n bytes t rest fits e;
  again = λ n t rest fit. piece_again n t rest fit;
  cut = λ n t front b behind fit e. piece_cut n t front b behind fit e;
}

-- ---- formats of formats

pub checked_is : {A : Type 0} (test : A → Bool) (f : Format A) → IsFormat f → IsFormat (checked test f)
checked_is {A} test f is = record {
  takes = λ n bytes x rest fits e.
      let a = bind_ok (f.read n bytes) (λ x. and_then (passed test (n - length bytes) x.0) (λ y. Ok (y, x.1))) (x, rest) e in
      let b = bind_ok (passed test (n - length bytes) a.0.0) (λ y. Ok (y, a.0.1)) (x, rest) a.2 in
      let p = passed_ok test (n - length bytes) a.0.0 b.0 b.1 in
      let t = is.takes n bytes a.0.0 a.0.1 fits a.1 in
      let made : (a.0.0, a.0.1) ≡ (x, rest) = ap (λ (y : A). (y, a.0.1)) p.1 ∙ ok_is (b.0, a.0.1) (x, rest) b.2 in
      subst (λ (y : A × List ℕ). Takes bytes (f.spell y.0) y.1 × ((f.fits y.0 && test y.0) ≡ true)) made (t.0, and_from _ _ t.1 p.0);
  again = λ n x rest fit.
      let both_fit = and_parts (f.fits x) (test x) fit in
      rw (is.again n x rest both_fit.0, passed_again test (n - length (f.spell x ++ rest)) x both_fit.1) refl;
  cut = λ n x front b behind fit e. rw (is.cut n x front b behind (and_parts (f.fits x) (test x) fit).0 e) refl;
}

-- codes and what they stand for
pub record IsCode {A B : Type 0} (of : B → Option A) (code : A → B) (fits : A → Bool) (f : Format B) : Type 0 where
  pub stands_for : (b : B) (a : A) → f.fits b ≡ true → of b ≡ Some a → (code a ≡ b) × (fits a ≡ true)
  pub is_code : (a : A) → fits a ≡ true → (of (code a) ≡ Some a) × (f.fits (code a) ≡ true)

pub coded_is : {A B : Type 0} (of : B → Option A) (code : A → B) (fits : A → Bool) (f : Format B) → IsCode of code fits f → IsFormat f → IsFormat (coded of code fits f)
coded_is {A} of code fits f words is = record {
  takes = λ n bytes x rest bytes_fit e.
      let a = bind_ok (f.read n bytes) (λ y. and_then (named (n - length bytes) (of y.0)) (λ z. Ok (z, y.1))) (x, rest) e in
      let b = bind_ok (named (n - length bytes) (of a.0.0)) (λ z. Ok (z, a.0.1)) (x, rest) a.2 in
      let t = is.takes n bytes a.0.0 a.0.1 bytes_fit a.1 in
      let w = words.stands_for a.0.0 b.0 t.1 (named_ok (n - length bytes) (of a.0.0) b.0 b.1) in
      subst (λ (y : A × List ℕ). Takes bytes (f.spell (code y.0)) y.1 × (fits y.0 ≡ true)) (ok_is (b.0, a.0.1) (x, rest) b.2) (rw w.0 t.0, w.1);
  again = λ n x rest fit.
      let w = words.is_code x fit in
      rw (is.again n (code x) rest w.1, w.0) refl;
  cut = λ n x front b behind fit e. rw (is.cut n (code x) front b behind (words.is_code x fit).1 e) refl;
}

pub seen_is : {A B : Type 0} (to : A → B) (from : B → A) (f : Format A) → ((b : B) → to (from b) ≡ b) → ((a : A) → from (to a) ≡ a) → IsFormat f → IsFormat (seen to from f)
seen_is {A} {B} to from f there back is = record {
  takes = λ n bytes x rest fits e.
      let a = bind_ok (f.read n bytes) (λ y. Ok (to y.0, y.1)) (x, rest) e in
      let t = is.takes n bytes a.0.0 a.0.1 fits a.1 in
      subst (λ (y : B × List ℕ). Takes bytes (f.spell (from y.0)) y.1 × (f.fits (from y.0) ≡ true)) (ok_is (to a.0.0, a.0.1) (x, rest) a.2)
      (subst (λ (y : A). Takes bytes (f.spell y) a.0.1 × (f.fits y ≡ true)) (sym (back a.0.0)) t);
  again = λ n x rest fit. rw (is.again n (from x) rest fit, there x) refl;
  cut = λ n x front b behind fit e. rw (is.cut n (from x) front b behind fit e) refl;
}

pub both_is : {A B : Type 0} (f : Format A) (g : Format B) → IsFormat f → IsFormat g → IsFormat (both f g)
both_is {A} {B} f g is_f is_g = record {
  takes = λ n bytes p rest fits e.
      let a = bind_ok (f.read n bytes) (λ x. and_then (g.read n x.1) (λ y. Ok ((x.0, y.0), y.1))) (p, rest) e in
      let b = bind_ok (g.read n a.0.1) (λ y. Ok ((a.0.0, y.0), y.1)) (p, rest) a.2 in
      let s = is_f.takes n bytes a.0.0 a.0.1 fits a.1 in
      let t = is_g.takes n a.0.1 b.0.0 b.0.1 s.0.rest_fits b.1 in
      subst (λ (y : (A × B) × List ℕ). Takes bytes (f.spell y.0.0 ++ g.spell y.0.1) y.1 × ((f.fits y.0.0 && g.fits y.0.1) ≡ true))
      (ok_is ((a.0.0, b.0.0), b.0.1) (p, rest) b.2)
      (Takes-then bytes (f.spell a.0.0) a.0.1 (g.spell b.0.0) b.0.1 s.0 t.0, and_from _ _ s.1 t.1);
  again = λ n p rest fit.
      let fits = and_parts (f.fits p.0) (g.fits p.1) fit in
      rw (append_assoc (f.spell p.0) (g.spell p.1) rest, is_f.again n p.0 (g.spell p.1 ++ rest) fits.0, is_g.again n p.1 rest fits.1) refl;
  cut = λ n p front b behind fit e.
      let fits = and_parts (f.fits p.0) (g.fits p.1) fit in
      elim (where_cut (f.spell p.0) (g.spell p.1) front b behind e) [
        | inl q ↦ rw (is_f.cut n p.0 front b q.0 fits.0 q.1) refl
        | inr q ↦ rw (q.1, is_f.again n p.0 q.0 fits.0, is_g.cut n p.1 q.0 b behind fits.1 q.2) refl
      ];
}

-- ---- values that may be absent

opt_takes : {A : Type 0} (f : Format A) → IsFormat f → (n : ℕ) (bytes : List ℕ) (o : Option A) (rest : List ℕ) → IsBytes bytes → opt_at f.read n bytes ≡ Ok (o, rest) → Takes bytes (spelled_opt f.spell o) rest × (fits_opt f.fits o ≡ true)
unfolding opt_at
opt_takes f is n [] o rest fits e = absurd cc
opt_takes {A} f is n (zero ∷ bytes) o rest fits e =
    subst (λ (y : Option A × List ℕ). Takes (0 ∷ bytes) (spelled_opt f.spell y.0) y.1 × (fits_opt f.fits y.0 ≡ true)) (ok_is (None, bytes) (o, rest) e)
    (record { parts = refl; rest_fits = IsBytes-rest 0 bytes fits }, refl)
opt_takes {A} f is n (suc zero ∷ bytes) o rest fits e =
    let a = bind_ok (f.read n bytes) (λ x. Ok (Some x.0, x.1)) (o, rest) e in
    let t = is.takes n bytes a.0.0 a.0.1 (IsBytes-rest 1 bytes fits) a.1 in
    subst (λ (y : Option A × List ℕ). Takes (1 ∷ bytes) (spelled_opt f.spell y.0) y.1 × (fits_opt f.fits y.0 ≡ true)) (ok_is (Some a.0.0, a.0.1) (o, rest) a.2)
    (record { parts = ap (λ (t : List ℕ). 1 ∷ t) t.0.parts; rest_fits = t.0.rest_fits }, t.1)
opt_takes f is n (suc (suc b) ∷ bytes) o rest fits e = absurd cc

opt_again : {A : Type 0} (f : Format A) → IsFormat f → (n : ℕ) (o : Option A) (rest : List ℕ) → fits_opt f.fits o ≡ true → opt_at f.read n (spelled_opt f.spell o ++ rest) ≡ Ok (o, rest)
unfolding opt_at
opt_again f is n None rest fit = refl
opt_again f is n (Some a) rest fit = rw (is.again n a rest fit) refl

-- what is cut behind a first byte, or before it
opt_cut : {A : Type 0} (f : Format A) → IsFormat f → (n : ℕ) (o : Option A) (front : List ℕ) (b : ℕ) (behind : List ℕ) → fits_opt f.fits o ≡ true → spelled_opt f.spell o ≡ front ++ (b ∷ behind) → opt_at f.read n front ≡ Err (Truncated n)
unfolding opt_at
opt_cut f is n None front b behind fit e = rw (one_cut 0 front b behind e) refl
opt_cut f is n (Some a) [] b behind fit e = refl
opt_cut f is n (Some a) (c ∷ front) b behind fit e =
    let first : 1 ≡ c = cc in
    let inside : f.spell a ≡ front ++ (b ∷ behind) = cc in
    rw (← first, is.cut n a front b behind fit inside) refl

pub opt_is : {A : Type 0} (f : Format A) → IsFormat f → IsFormat (opt f)
opt_is f is = record {
  takes = λ n bytes o rest fits e. opt_takes f is n bytes o rest fits e;
  again = λ n o rest fit. opt_again f is n o rest fit;
  cut = λ n o front b behind fit e. opt_cut f is n o front b behind fit e;
}

-- ---- lists

each_takes : {A : Type 0} (f : Format A) → IsFormat f → (count n : ℕ) (bytes : List ℕ) (x : List A × List ℕ) → IsBytes bytes → each_at f.read count n bytes ≡ Ok x
    → Takes bytes (spelled_each f.spell x.0) x.1 × (length x.0 ≡ count) × (list_all f.fits x.0 ≡ true)
each_takes {A} f is zero n bytes x fits e =
    subst (λ (y : List A × List ℕ). Takes bytes (spelled_each f.spell y.0) y.1 × (length y.0 ≡ 0) × (list_all f.fits y.0 ≡ true)) (ok_is ([], bytes) x e)
    (record { parts = refl; rest_fits = fits }, refl, refl)
each_takes {A} f is (suc count) n bytes x fits e =
    let a = bind_ok (f.read n bytes) (λ y. and_then (each_at f.read count n y.1) (λ ys. Ok (y.0 ∷ ys.0, ys.1))) x e in
    let b = bind_ok (each_at f.read count n a.0.1) (λ ys. Ok (a.0.0 ∷ ys.0, ys.1)) x a.2 in
    let first = is.takes n bytes a.0.0 a.0.1 fits a.1 in
    let second = each_takes f is count n a.0.1 b.0 first.0.rest_fits b.1 in
    let made : List A × List ℕ = (a.0.0 ∷ b.0.0, b.0.1) in
    subst (λ (y : List A × List ℕ). Takes bytes (spelled_each f.spell y.0) y.1 × (length y.0 ≡ suc count) × (list_all f.fits y.0 ≡ true)) (ok_is made x b.2)
    (Takes-then bytes (f.spell a.0.0) a.0.1 (spelled_each f.spell b.0.0) b.0.1 first.0 second.0, ap suc second.1, and_from (f.fits a.0.0) (list_all f.fits b.0.0) first.1 second.2)

each_again : {A : Type 0} (f : Format A) → IsFormat f → (n : ℕ) (xs : List A) (rest : List ℕ) → list_all f.fits xs ≡ true → each_at f.read (length xs) n (spelled_each f.spell xs ++ rest) ≡ Ok (xs, rest)
each_again f is n [] rest fit = refl
each_again f is n (x ∷ xs) rest fit =
    let fits = and_parts (f.fits x) (list_all f.fits xs) fit in
    rw (append_assoc (f.spell x) (spelled_each f.spell xs) rest, is.again n x (spelled_each f.spell xs ++ rest) fits.0, each_again f is n xs rest fits.1) refl

each_cut : {A : Type 0} (f : Format A) → IsFormat f → (n : ℕ) (xs : List A) (front : List ℕ) (b : ℕ) (behind : List ℕ) → list_all f.fits xs ≡ true → spelled_each f.spell xs ≡ front ++ (b ∷ behind) → each_at f.read (length xs) n front ≡ Err (Truncated n)
each_cut f is n [] front b behind fit e = let long = ap length e ∙ length-append front (b ∷ behind) in absurd (omega arith)
each_cut f is n (x ∷ xs) front b behind fit e =
    let fits = and_parts (f.fits x) (list_all f.fits xs) fit in
    elim (where_cut (f.spell x) (spelled_each f.spell xs) front b behind e) [
      | inl q ↦ rw (is.cut n x front b q.0 fits.0 q.1) refl
      | inr q ↦ rw (q.1, is.again n x q.0 fits.0, each_cut f is n xs q.0 b behind fits.1 q.2) refl
    ]

abbrev is_few : ℕ → ℕ → Bool
is_few most count = nat_le count most

-- a count of values, as a field
few_fit : {A : Type 0} (most : ℕ) (f : Format A) (xs : List A) → most < 2 ^ 16 → (nat_le (length xs) most && list_all f.fits xs) ≡ true → ((nat_lt (length xs) (2 ^ 16) && nat_le (length xs) most) ≡ true) × (list_all f.fits xs ≡ true)
few_fit most f xs small fit =
    let fits = and_parts (nat_le (length xs) most) (list_all f.fits xs) fit in
    let few : length xs ≤ most = leb-true _ _ fits.0 in
    (and_from _ _ (lt-ltb (length xs) (2 ^ 16) (omega arith)) fits.0, fits.1)

pub list_is : {A : Type 0} (most : ℕ) (f : Format A) → most < 2 ^ 16 → IsFormat f → IsFormat (list most f)
list_is {A} most f small is =
    let counted : IsFormat (checked (is_few most) (number w16)) = checked_is (is_few most) (number w16) (number_is w16 wide16) in
    record {
      takes = λ n bytes xs rest fits e.
          let a = bind_ok ((checked (is_few most) (number w16)).read n bytes) (λ count. each_at f.read count.0 n count.1) (xs, rest) e in
          let first = counted.takes n bytes a.0.0 a.0.1 fits a.1 in
          let second = each_takes f is a.0.0 n a.0.1 (xs, rest) first.0.rest_fits a.2 in
          let few = and_parts (nat_lt a.0.0 (2 ^ 16)) (nat_le a.0.0 most) first.1 in
          subst (λ (k : ℕ). Takes bytes (to_be_bytes w16 k ++ spelled_each f.spell xs) rest × ((nat_le k most && list_all f.fits xs) ≡ true)) (sym second.1)
          (Takes-then bytes (to_be_bytes w16 a.0.0) a.0.1 (spelled_each f.spell xs) rest first.0 second.0, and_from _ _ few.1 second.2);
      again = λ n xs rest fit.
          let fits = few_fit most f xs small fit in
          rw (append_assoc (to_be_bytes w16 (length xs)) (spelled_each f.spell xs) rest, counted.again n (length xs) (spelled_each f.spell xs ++ rest) fits.0, each_again f is n xs rest fits.1) refl;
      cut = λ n xs front b behind fit e.
          let fits = few_fit most f xs small fit in
          elim (where_cut (to_be_bytes w16 (length xs)) (spelled_each f.spell xs) front b behind e) [
            | inl q ↦ rw (counted.cut n (length xs) front b q.0 fits.0 q.1) refl
            | inr q ↦ rw (q.1, counted.again n (length xs) q.0 fits.0, each_cut f is n xs q.0 b behind fits.1 q.2) refl
          ];
    }
