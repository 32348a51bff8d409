-- What is read is spelled so: the parts of a token.
use Rattle.std.proofs.Common.{◌≡◌, ◌≤◌, ◌+◌, ℕ, zero, suc, Bool, true, false, not, cond, ◌&&◌, ◌||◌, ◌==◌, ◌⊎◌, inl, inr, nat_lt, nat_le, List, [], ◌∷◌, ◌++◌, length, drop, Option, Some, None, Result, Ok, Err, IfOk, if◌then◌else◌, refl, ap, sym, ◌∙◌, subst, append_assoc, arith}
use Rattle.std.proofs.lemmas.List.{append-nil}
use Rattle.al_pattern.specs.declared.fault.Fault.{Fault}
use Rattle.al_pattern.specs.declared.letter.Letter.{Letter}
use Rattle.al_pattern.specs.declared.letter.Letter.TheVariants.{Plain, Escaped}
use Rattle.al_pattern.specs.declared.letter.Item.{Item}
use Rattle.al_pattern.specs.declared.letter.Item.TheVariants.{One, Range, Digit, Space}
use Rattle.al_pattern.specs.declared.token.Quantifier.{Quantifier}
use Rattle.al_pattern.specs.declared.token.Quantifier.TheVariants.{Optional, Star, Plus}
use Rattle.al_pattern.specs.Bytes.{is_char, is_plain, is_escape, begins_with}
use Rattle.al_pattern.specs.Faults.{◌>>=◌}
use Rattle.al_pattern.specs.Letters.{value_of, escape_at}
use Rattle.al_pattern.specs.Tests.{Test, class, letter_spelling, item_spelling, items_spelling, test_spelling, is_class_letter, is_hyphen, is_item, are_items_after, are_items, begins_negated, is_test}
use Rattle.al_pattern.specs.Classes.{is_unsupported_in_class, only_letter, last_at, range_of, range_at, item_behind, item_at, items_from, items_at, class_at}
use Rattle.al_pattern.specs.Trees.{quantifier_spelling, quantifier_nodes}
use Rattle.al_pattern.specs.Tokens.{escape_test, test_at, quantifier_read, quantifier_at}
use Rattle.al_pattern.proofs.CutLemmas.{and_true, true_and, or_true, or_left, or_right}
use Rattle.al_pattern.proofs.TestLemmas.{drop_begins, if_read, bind_read, option_if, lt_from, le_from, eq_from}

-- behind a backslash
pub record EscapeRead (text : List ℕ) (item : Item) (rest : List ℕ) : Type 0 where
  pub spelled : 92 ∷ text ≡ item_spelling item ++ rest
  pub is_an_item : is_item item ≡ true
  pub is_a_test : is_test (escape_test item) ≡ true
  pub same : test_spelling (escape_test item) ≡ item_spelling item

pub escape_found : (text : List ℕ) → IfOk (escape_at text) (λ x. EscapeRead text x.0 x.1)
unfolding escape_at is_test test_spelling
escape_found [] = tt
escape_found (b ∷ rest) =
    let P : Item × List ℕ → Type 0 = λ x. EscapeRead (b ∷ rest) x.0 x.1 in
    if_read P (is_escape b) _ _ (λ h. record { spelled = refl; is_an_item = h; is_a_test = h; same = refl })
    (λ h. if_read P (b == 100) _ _ (λ k. record { spelled = ap (λ n. 92 ∷ n ∷ rest) (eq_from b 100 k); is_an_item = refl; is_a_test = refl; same = refl })
    (λ k. if_read P (b == 115) _ _ (λ j. record { spelled = ap (λ n. 92 ∷ n ∷ rest) (eq_from b 115 j); is_an_item = refl; is_a_test = refl; same = refl })
    (λ j. tt)))

-- the quantifier
pub record QuantifierRead (nodes : ℕ) (text : List ℕ) (q : Quantifier) (nodes' : ℕ) (rest : List ℕ) : Type 0 where
  pub spelled : text ≡ quantifier_spelling q ++ rest
  pub count : nodes' ≡ nodes + quantifier_nodes q
  pub few : nodes' ≤ 256

pub quantifier_found : (nodes : ℕ) (text : List ℕ) → nodes ≤ 256 → IfOk (quantifier_at nodes text) (λ x. QuantifierRead nodes text x.0 x.1 x.2)
unfolding quantifier_at
quantifier_found nodes [] le = record { spelled = refl; count = omega arith; few = le }
quantifier_found nodes (b ∷ rest) le =
    let P : Quantifier × ℕ × List ℕ → Type 0 = λ x. QuantifierRead nodes (b ∷ rest) x.0 x.1 x.2 in
    let R : Option Quantifier → Type 0 = λ o. IfOk (quantifier_read nodes b rest o) P in
    let read : (q : Quantifier) → b ∷ rest ≡ quantifier_spelling q ++ rest → quantifier_nodes q ≡ 1 → R (Some q) =
    λ q spelled one. if_read P (nat_lt nodes 256) _ _ (λ h. record { spelled = spelled; count = omega arith; few = lt_from nodes 256 h }) (λ h. tt) in
    option_if R (b == 63) (Some Optional) (if b == 42 then Some Star else if b == 43 then Some Plus else None)
    (λ h. read Optional (ap (λ n. n ∷ rest) (eq_from b 63 h)) refl)
    (λ h. option_if R (b == 42) (Some Star) (if b == 43 then Some Plus else None)
    (λ k. read Star (ap (λ n. n ∷ rest) (eq_from b 42 k)) refl)
    (λ k. option_if R (b == 43) (Some Plus) None
    (λ j. read Plus (ap (λ n. n ∷ rest) (eq_from b 43 j)) refl)
    (λ j. record { spelled = refl; count = omega arith; few = le })))

-- ---- classes

pub last_found : (text : List ℕ) → IfOk (last_at text) (λ x. (text ≡ letter_spelling x.0 ++ x.1) × (is_class_letter x.0 ≡ true))
unfolding last_at
last_found [] = tt
last_found (b ∷ rest) =
    let P : Letter × List ℕ → Type 0 = λ x. (b ∷ rest ≡ letter_spelling x.0 ++ x.1) × (is_class_letter x.0 ≡ true) in
    if_read P (is_unsupported_in_class (b ∷ rest)) _ _ (λ h. tt)
    (λ h. if_read P (is_plain b) _ _ (λ k. (refl, k))
    (λ k. if_read P (b == 92) _ _
    (λ j. bind_read (λ x. EscapeRead rest x.0 x.1) P (escape_at rest) (only_letter rest) (escape_found rest)
    (λ x found. only b rest (eq_from b 92 j) x.0 x.1 found))
    (λ j. tt))) where
      only : (b : ℕ) (rest : List ℕ) → b ≡ 92 → (item : Item) (after : List ℕ) → EscapeRead rest item after
          → IfOk (only_letter rest (item, after)) (λ x. (b ∷ rest ≡ letter_spelling x.0 ++ x.1) × (is_class_letter x.0 ≡ true))
      only b rest e (One l) after found = (ap (λ n. n ∷ rest) e ∙ found.spelled, found.is_an_item)
      only b rest e (Range l m) after found = tt
      only b rest e Digit after found = tt
      only b rest e Space after found = tt

pub range_found : (from : List ℕ) (first : Letter) (text : List ℕ) → is_class_letter first ≡ true
    → IfOk (range_at from first text) (λ x. (letter_spelling first ++ text ≡ item_spelling x.0 ++ x.1) × (is_item x.0 ≡ true))
unfolding range_at
range_found from first [] one = (refl, one)
range_found from first (b ∷ rest) one =
    let P : Item × List ℕ → Type 0 = λ x. (letter_spelling first ++ b ∷ rest ≡ item_spelling x.0 ++ x.1) × (is_item x.0 ≡ true) in
    if_read P (b == 45 && not (begins_with 93 rest)) _ _
    (λ h. if_read P (begins_with 91 rest) _ _ (λ k. tt)
    (λ k. bind_read (λ x. (rest ≡ letter_spelling x.0 ++ x.1) × (is_class_letter x.0 ≡ true)) P (last_at rest) (range_of from first) (last_found rest)
    (λ x found. if_read P (nat_lt (value_of x.0) (value_of first)) _ _ (λ j. tt)
    (λ j. (
      ap (λ n. letter_spelling first ++ n ∷ rest) (eq_from b 45 (and_true (b == 45) (not (begins_with 93 rest)) h).0)
          ∙ ap (λ t. letter_spelling first ++ 45 ∷ t) found.0 ∙ sym (append_assoc (letter_spelling first) (45 ∷ letter_spelling x.0) x.1),
      true_and (is_class_letter first && is_class_letter x.0) (nat_le (value_of first) (value_of x.0))
          (true_and (is_class_letter first) (is_class_letter x.0) one found.1) (le_from (value_of x.0) (value_of first) j),
    )))))
    (λ h. (refl, one))

-- an item, and where a bare hyphen may stand
pub record ItemRead (is_first : Bool) (text : List ℕ) (item : Item) (rest : List ℕ) : Type 0 where
  pub spelled : text ≡ item_spelling item ++ rest
  pub allowed : (is_item item ≡ true) ⊎ ((is_hyphen item ≡ true) × ((is_first || begins_with 93 rest) ≡ true))

pub item_found : (is_first : Bool) (text : List ℕ) → IfOk (item_at is_first text) (λ x. ItemRead is_first text x.0 x.1)
unfolding item_at
item_found is_first [] = tt
item_found is_first (b ∷ rest) =
    let P : Item × List ℕ → Type 0 = λ x. ItemRead is_first (b ∷ rest) x.0 x.1 in
    if_read P (is_unsupported_in_class (b ∷ rest)) _ _ (λ h. tt)
    (λ h. if_read P (is_plain b) _ _
    (λ k. as_item is_first (b ∷ rest) (range_at (b ∷ rest) (Plain b) rest) (range_found (b ∷ rest) (Plain b) rest k))
    (λ k. if_read P (b == 92) _ _
    (λ j. bind_read (λ x. EscapeRead rest x.0 x.1) P (escape_at rest) (item_behind (b ∷ rest)) (escape_found rest)
    (λ x found. escaped is_first b rest (eq_from b 92 j) x.0 x.1 found))
    (λ j. if_read P (b == 45) _ _
    (λ i. if_read P (is_first || begins_with 93 rest) _ _
    (λ m. record { spelled = ap (λ n. n ∷ rest) (eq_from b 45 i); allowed = inr (refl, m) })
    (λ m. tt))
    (λ i. tt)))) where
      as_item : (is_first : Bool) (text : List ℕ) (read : Result (Item × List ℕ) Fault) → IfOk read (λ x. (text ≡ item_spelling x.0 ++ x.1) × (is_item x.0 ≡ true))
          → IfOk read (λ x. ItemRead is_first text x.0 x.1)
      as_item is_first text (Ok x) found = record { spelled = found.0; allowed = inl found.1 }
      as_item is_first text (Err f) found = tt

      respell : {text text' : List ℕ} → text ≡ text' → (read : Result (Item × List ℕ) Fault) → IfOk read (λ x. (text' ≡ item_spelling x.0 ++ x.1) × (is_item x.0 ≡ true))
          → IfOk read (λ x. (text ≡ item_spelling x.0 ++ x.1) × (is_item x.0 ≡ true))
      respell e (Ok x) found = (e ∙ found.0, found.1)
      respell e (Err f) found = tt

      escaped : (is_first : Bool) (b : ℕ) (rest : List ℕ) → b ≡ 92 → (item : Item) (after : List ℕ) → EscapeRead rest item after
          → IfOk (item_behind (b ∷ rest) (item, after)) (λ x. ItemRead is_first (b ∷ rest) x.0 x.1)
      escaped is_first b rest e (One l) after found =
          as_item is_first (b ∷ rest) (range_at (b ∷ rest) l after)
          (respell (ap (λ n. n ∷ rest) e ∙ found.spelled) (range_at (b ∷ rest) l after) (range_found (b ∷ rest) l after found.is_an_item))
      escaped is_first b rest e (Range l m) after found = record { spelled = ap (λ n. n ∷ rest) e ∙ found.spelled; allowed = inl found.is_an_item }
      escaped is_first b rest e Digit after found = record { spelled = ap (λ n. n ∷ rest) e ∙ found.spelled; allowed = inl refl }
      escaped is_first b rest e Space after found = record { spelled = ap (λ n. n ∷ rest) e ∙ found.spelled; allowed = inl refl }

map_read : {A : Type 0} (P Q : A → Type 0) (r : Result A Fault) → ((x : A) → P x → Q x) → IfOk r P → IfOk r Q
map_read P Q (Ok x) f p = f x p
map_read P Q (Err e) f p = tt

-- the items up to the bracket that closes the class
pub record ItemsRead (is_first : Bool) (items : List Item) (text : List ℕ) (all : List Item) (rest : List ℕ) : Type 0 where
  pub more : List Item
  pub whole : all ≡ items ++ more
  pub spelled : text ≡ items_spelling more ++ 93 ∷ rest
  pub allowed : are_items_after is_first more ≡ true
  pub ended : is_first ≡ false → begins_with 93 text ≡ true → more ≡ []

items_allowed : (is_first : Bool) (item : Item) (rest : List ℕ) (more : List Item)
    → (is_item item ≡ true) ⊎ ((is_hyphen item ≡ true) × ((is_first || begins_with 93 rest) ≡ true)) → are_items_after false more ≡ true
    → (begins_with 93 rest ≡ true → more ≡ []) → are_items_after is_first (item ∷ more) ≡ true
items_allowed is_first item rest [] (inl h) others ended = or_left (is_item item) (is_hyphen item) h
items_allowed is_first item rest [] (inr h) others ended = or_right (is_item item) (is_hyphen item) h.0
items_allowed is_first item rest (next ∷ more) (inl h) others ended =
    true_and (is_item item || (is_hyphen item && is_first)) (are_items_after false (next ∷ more)) (or_left (is_item item) (is_hyphen item && is_first) h) others
items_allowed is_first item rest (next ∷ more) (inr h) others ended =
    true_and (is_item item || (is_hyphen item && is_first)) (are_items_after false (next ∷ more))
    (or_right (is_item item) (is_hyphen item && is_first) (true_and (is_hyphen item) is_first h.0
    (elim (or_true is_first (begins_with 93 rest) h.1) [ inl k ↦ k | inr k ↦ absurd (let e = ended k in cc) ]))) others

pub items_found : (steps : ℕ) (is_first : Bool) (items : List Item) (text : List ℕ) → IfOk (items_from steps is_first items text) (λ x. ItemsRead is_first items text x.0 x.1)
unfolding items_from
items_found zero is_first items text = tt
items_found (suc steps) is_first items text =
    let P : List Item × List ℕ → Type 0 = λ x. ItemsRead is_first items text x.0 x.1 in
    if_read P (not is_first && begins_with 93 text) _ _
    (λ h. let both = and_true (not is_first) (begins_with 93 text) h in
    record { more = []; whole = sym (append-nil items); spelled = drop_begins 93 text both.1; allowed = both.0; ended = λ _ _. refl })
    (λ h. bind_read (λ x. ItemRead is_first text x.0 x.1) P (item_at is_first text) (λ x. items_from steps false (items ++ x.0 ∷ []) x.1) (item_found is_first text)
    (λ x found. map_read (λ y. ItemsRead false (items ++ x.0 ∷ []) x.1 y.0 y.1) P (items_from steps false (items ++ x.0 ∷ []) x.1)
    (λ y r. record {
      more = x.0 ∷ r.more;
      whole = r.whole ∙ append_assoc items (x.0 ∷ []) r.more;
      spelled = found.spelled ∙ ap (λ t. item_spelling x.0 ++ t) r.spelled ∙ sym (append_assoc (item_spelling x.0) (items_spelling r.more) (93 ∷ y.1));
      allowed = items_allowed is_first x.0 x.1 r.more found.allowed r.allowed (r.ended refl);
      ended = λ later ends. absurd (both_ways is_first (begins_with 93 text) later ends h);
    })
    (items_found steps false (items ++ x.0 ∷ []) x.1))) where
      both_ways : (is_first ends : Bool) → is_first ≡ false → ends ≡ true → (not is_first && ends) ≡ false → ⊥
      both_ways true ends e f g = cc
      both_ways false true e f g = cc
      both_ways false false e f g = cc

-- a class that isn't negated doesn't begin with a caret
negated_first : (items : List Item) (rest : List ℕ) → are_items items ≡ true → begins_with 94 (items_spelling items ++ rest) ≡ false → begins_negated items ≡ false
negated_first [] rest some plain = absurd (cc)
negated_first (One (Plain b) ∷ items) rest some plain = plain
negated_first (One (Escaped b) ∷ items) rest some plain = refl
negated_first (Range (Plain b) last ∷ items) rest some plain = plain
negated_first (Range (Escaped b) last ∷ items) rest some plain = refl
negated_first (Digit ∷ items) rest some plain = refl
negated_first (Space ∷ items) rest some plain = refl

pub class_found : (text : List ℕ) → IfOk (class_at text) (λ x. (91 ∷ text ≡ test_spelling x.0 ++ x.1) × (is_test x.0 ≡ true))
unfolding class_at test_spelling is_test
class_found text = by_sign (begins_with 94 text) text refl where
  closing : (all more : List Item) (rest : List ℕ) → all ≡ [] ++ more → items_spelling more ++ 93 ∷ rest ≡ (items_spelling all ++ 93 ∷ []) ++ rest
  closing all more rest e = sym (append_assoc (items_spelling more) (93 ∷ []) rest) ∙ ap (λ i. (items_spelling i ++ 93 ∷ []) ++ rest) (sym e)

  by_sign : (negated : Bool) (text : List ℕ) → begins_with 94 text ≡ negated
      → IfOk {T = Test × List ℕ} (items_at (cond negated (drop 1 text) text) >>= λ x. Ok (class negated x.0, x.1)) (λ x. (91 ∷ text ≡ test_spelling x.0 ++ x.1) × (is_test x.0 ≡ true))
  by_sign true text e =
      bind_read (λ x. ItemsRead true [] (drop 1 text) x.0 x.1) (λ x. (91 ∷ text ≡ test_spelling x.0 ++ x.1) × (is_test x.0 ≡ true)) (items_at (drop 1 text)) (λ x. Ok (class true x.0, x.1))
      (items_found (suc (length (drop 1 text))) true [] (drop 1 text))
      (λ x r. (
        ap (λ t. 91 ∷ t) (drop_begins 94 text e ∙ ap (λ t. 94 ∷ t) r.spelled) ∙ ap (λ t. 91 ∷ (94 ∷ t)) (closing x.0 r.more x.1 r.whole),
        true_and (are_items x.0) true (subst (λ i. are_items i ≡ true) (sym r.whole) r.allowed) refl,
      ))
  by_sign false text e =
      bind_read (λ x. ItemsRead true [] text x.0 x.1) (λ x. (91 ∷ text ≡ test_spelling x.0 ++ x.1) × (is_test x.0 ≡ true)) (items_at text) (λ x. Ok (class false x.0, x.1))
      (items_found (suc (length text)) true [] text)
      (λ x r. let some : are_items x.0 ≡ true = subst (λ i. are_items i ≡ true) (sym r.whole) r.allowed in
      let body : text ≡ items_spelling x.0 ++ 93 ∷ x.1 = r.spelled ∙ ap (λ i. items_spelling i ++ 93 ∷ x.1) (sym r.whole) in (
        ap (λ t. 91 ∷ t) (r.spelled ∙ closing x.0 r.more x.1 r.whole),
        true_and (are_items x.0) (not (begins_negated x.0)) some
            (ap not (negated_first x.0 (93 ∷ x.1) some (ap (begins_with 94) (sym body) ∙ e))),
      ))

pub test_found : (b : ℕ) (rest : List ℕ) → ((b == 46) ≡ false → (b == 92) ≡ false → (b == 91) ≡ false → is_char b ≡ true)
    → IfOk (test_at (b ∷ rest)) (λ x. (b ∷ rest ≡ test_spelling x.0 ++ x.1) × (is_test x.0 ≡ true))
unfolding test_at test_spelling is_test
test_found b rest plain =
    let P : Test × List ℕ → Type 0 = λ x. (b ∷ rest ≡ test_spelling x.0 ++ x.1) × (is_test x.0 ≡ true) in
    if_read P (b == 46) _ _ (λ h. (ap (λ n. n ∷ rest) (eq_from b 46 h), refl))
    (λ h. if_read P (b == 92) _ _
    (λ k. bind_read (λ x. EscapeRead rest x.0 x.1) P (escape_at rest) (λ x. Ok (escape_test x.0, x.1)) (escape_found rest)
    (λ x found. (ap (λ n. n ∷ rest) (eq_from b 92 k) ∙ found.spelled ∙ ap (λ t. t ++ x.1) (sym found.same), found.is_a_test)))
    (λ k. if_read P (b == 91) _ _
    (λ j. map_read (λ x. (91 ∷ rest ≡ test_spelling x.0 ++ x.1) × (is_test x.0 ≡ true)) P (class_at rest)
    (λ x found. (ap (λ n. n ∷ rest) (eq_from b 91 j) ∙ found.0, found.1)) (class_found rest))
    (λ j. (refl, plain h k j))))
