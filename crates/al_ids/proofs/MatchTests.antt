-- The test of resource matches says what their relation says.
-- The parts are those of the law on matching, which hands on no more than the whole.
use Rattle.std.proofs.Common.{◌≡◌, ◌≢◌, IsTrue, ℕ, Bool, true, false, not, ◌&&◌, ◌||◌, ◌⊎◌, inl, inr, Option, Some, None, List, [], ◌∷◌, length, refl, sym, ap, subst, ◌∙◌}
use Rattle.std.specs.Bool.{Decides}
use Rattle.std.specs.Cmp.Lexicographic.{bytes_decides}
use Rattle.std.specs.List.{AllByRecursion, join_with_byte, list_all}
use Rattle.std.specs.Prelude.{◌==◌, nat_le, nat_lt, is_none, IsUtf8}
use Rattle.std.specs.Str.{is_utf8}
use Rattle.std.proofs.lemmas.Bool.{false≢true}
use Rattle.std.proofs.lemmas.Bool.Decides.{Decides-and, Decides-eqb, Decides-like, Decides-ltb, Decides-not, Decides-or}
use Rattle.al_base.proofs.FormTests.{decides_le, decides_utf8}
use Rattle.al_base.specs.Identifiers.{is_identifier}
use Rattle.al_ids.proofs.OidFronts.{IsArc}
use Rattle.al_ids.proofs.SpellingLemmas.{arcs_again, steps_of_path}
use Rattle.al_ids.specs.Matches.{is_rooted, IsMatch, IsPatternMatch, IsXPath}
use Rattle.al_ids.specs.Matching.{is_same, are_rooted, is_oid, are_names, is_predicate, is_step, has_steps, is_of_steps, is_pattern, is_xpath}
use Rattle.al_ids.specs.Oids.{is_arc, arc_value, IsRooted, IsOid}
use Rattle.al_ids.specs.Paths.{Predicate, Step, path_text, AreNames, IsPredicate, IsStep}
use Rattle.al_ids.specs.Spellings.{arcs_of, steps_of}
use Rattle.al_pattern.proofs.OnlyLemmas.{fault_again}
use Rattle.al_pattern.proofs.PatternLemmas.{no_fault_spelled}
use Rattle.al_pattern.specs.Reading.{first_fault, tree_of}
use Rattle.al_pattern.specs.Trees.{IsSpelled}
use Rattle.al_ids.specs.Forms.{is_match}

decides_same : (a b : List ℕ) → Decides (is_same a b) (a ≡ b)
decides_same a b = bytes_decides a b

decides_itself : (b : Bool) → Decides b (IsTrue b)
decides_itself b = (λ h. h, λ h. h)

decides_if : {P Q : Type 0} (x y : Bool) → Decides x P → Decides y Q → Decides (not x || y) (P → Q)
decides_if true y p q = (λ h holds. q.0 h, λ f. q.1 (f (p.0 refl)))
decides_if false y p q = (λ h holds. absurd (false≢true (p.1 holds)), λ f. refl)

decides_each : {X : Type 0} (p : X → Bool) (P : X → Type 0) (each : (x : X) → Decides (p x) (P x)) (xs : List X) → Decides (list_all p xs) (AllByRecursion P xs)
decides_each p P each [] = (λ h. tt, λ h. refl)
decides_each p P each (x ∷ xs) = Decides-and (p x) (list_all p xs) (each x) (decides_each p P each xs)

never : {P : Type 0} → (P → ⊥) → Decides false P
never none = (λ h. absurd (false≢true h), λ h. absurd (none h))

-- ---- object identifiers

decides_rooted : (arcs : List (List ℕ)) → Decides (are_rooted arcs) (IsRooted arcs)
decides_rooted [] = never (λ h. h)
decides_rooted (first ∷ []) = never (λ h. h)
decides_rooted (first ∷ second ∷ rest) =
    Decides-and (nat_le (arc_value first) 2) (not (nat_lt (arc_value first) 2) || nat_le (arc_value second) 39) (decides_le (arc_value first) 2)
    (decides_if (nat_lt (arc_value first) 2) (nat_le (arc_value second) 39) (Decides-ltb (arc_value first) 2) (decides_le (arc_value second) 39))

some_arcs : (arcs : List (List ℕ)) → IsRooted arcs → arcs ≢ []
some_arcs [] rooted = absurd rooted
some_arcs (arc ∷ arcs) rooted = λ e. cc

oid_arcs : (text : List ℕ) (oid : IsOid text) → arcs_of text ≡ oid.arcs
oid_arcs text oid = ap arcs_of oid.spelling ∙ arcs_again oid.arcs (some_arcs oid.arcs oid.rooted) oid.each

abbrev AreArcsOf : List ℕ → List (List ℕ) → Type 0
AreArcsOf text arcs = (AllByRecursion IsArc arcs × IsRooted arcs) × (text ≡ join_with_byte 46 arcs)

decides_oid : (text : List ℕ) → Decides (is_oid text) (IsOid text)
decides_oid text =
    let arcs = arcs_of text in
    Decides-like (is_oid text) (λ h. record { arcs = arcs; each = h.0.0; rooted = h.0.1; spelling = h.1 })
    (λ oid. subst (AreArcsOf text) (sym (oid_arcs text oid)) ((oid.each, oid.rooted), oid.spelling))
    (Decides-and (list_all is_arc arcs && are_rooted arcs) (is_same text (join_with_byte 46 arcs))
    (Decides-and (list_all is_arc arcs) (are_rooted arcs) (decides_each is_arc IsArc (λ arc. decides_itself (is_arc arc)) arcs) (decides_rooted arcs))
    (decides_same text (join_with_byte 46 arcs)))

-- ---- XPaths

decides_names : (owner : Option (List ℕ)) (name : List ℕ) → Decides (are_names owner name) (AreNames owner name)
decides_names None name = (λ h. (tt, h), λ h. h.1)
decides_names (Some o) name = Decides-and (is_identifier o) (is_identifier name) (decides_itself (is_identifier o)) (decides_itself (is_identifier name))

decides_none : {X : Type 0} (o : Option X) → Decides (is_none o) (o ≡ None)
decides_none None = (λ h. refl, λ h. refl)
decides_none (Some x) = never (λ h. cc)

decides_predicate : (p : Predicate) → Decides (is_predicate p) (IsPredicate p)
decides_predicate p =
    let inside : Bool = list_all (λ byte. not (byte == p.quote)) p.value in
    let quotes : Bool = p.quote == 39 || p.quote == 34 in
    let dotted : Bool = is_none p.defined_in && is_same p.name (46 ∷ []) in
    Decides-like (is_predicate p) (λ h. record { names = h.0.0; quotes = h.0.1; inside = h.1 }) (λ is. ((is.names, is.quotes), is.inside))
    (Decides-and ((are_names p.defined_in p.name || dotted) && quotes) inside
    (Decides-and (are_names p.defined_in p.name || dotted) quotes
    (Decides-or (are_names p.defined_in p.name) dotted (decides_names p.defined_in p.name)
    (Decides-and (is_none p.defined_in) (is_same p.name (46 ∷ [])) (decides_none p.defined_in) (decides_same p.name (46 ∷ []))))
    (Decides-or (p.quote == 39) (p.quote == 34) (Decides-eqb p.quote 39) (Decides-eqb p.quote 34)))
    (decides_itself inside))

decides_step : (s : Step) → Decides (is_step s) (IsStep s)
decides_step s =
    Decides-like (is_step s) (λ h. record { names = h.0; each = h.1 }) (λ is. (is.names, is.each))
    (Decides-and (are_names s.defined_in s.name) (list_all is_predicate s.predicates) (decides_names s.defined_in s.name)
    (decides_each is_predicate IsPredicate decides_predicate s.predicates))

abbrev AreStepsOf : List ℕ → List Step → Type 0
AreStepsOf text steps = AllByRecursion IsStep steps × (text ≡ path_text steps)

decides_spelled : (text : List ℕ) → Decides (is_of_steps text) (AreStepsOf text (steps_of text))
decides_spelled text =
    Decides-and (list_all is_step (steps_of text)) (is_same text (path_text (steps_of text))) (decides_each is_step IsStep decides_step (steps_of text))
    (decides_same text (path_text (steps_of text)))

decides_some : (steps : List Step) → Decides (has_steps steps) (steps ≢ [])
decides_some [] = never (λ some. some refl)
decides_some (s ∷ steps) = (λ h e. cc, λ h. refl)

xpath_steps : (text : List ℕ) (xpath : IsXPath text) → steps_of text ≡ xpath.steps
xpath_steps text xpath = ap steps_of xpath.spelling ∙ steps_of_path xpath.steps xpath.each

decides_xpath : (text : List ℕ) → Decides (is_xpath text) (IsXPath text)
decides_xpath text =
    let Is : List Step → Type 0 = λ steps. (AreStepsOf text steps × (steps ≢ [])) × IsUtf8 text in
    Decides-like (is_xpath text) (λ h. record { steps = steps_of text; each = h.0.0.0; some = h.0.1; spelling = h.0.0.1; utf8 = h.1 })
    (λ xpath. subst Is (sym (xpath_steps text xpath)) (((xpath.each, xpath.spelling), xpath.some), xpath.utf8))
    (Decides-and (is_of_steps text && has_steps (steps_of text)) (is_utf8 text)
    (Decides-and (is_of_steps text) (has_steps (steps_of text)) (decides_spelled text) (decides_some (steps_of text)))
    (decides_utf8 text))

-- ---- matches

unrooted : (b : Bool) → Decides (not b) (b ≡ false)
unrooted true = never (λ h. cc)
unrooted false = (λ h. refl, λ h. refl)

decides_pattern : (text : List ℕ) → Decides (is_pattern text) (IsPatternMatch text)
decides_pattern text =
    Decides-like (is_pattern text) (λ h. record { other = record { no_path = h.0.0; no_oid = h.0.1 }; pattern = no_fault_spelled text h.1 })
    (λ is. ((is.other.no_path, is.other.no_oid), fault_again (tree_of text) text is.pattern))
    (Decides-and (not (is_rooted text) && not (is_oid text)) (is_none (first_fault text))
    (Decides-and (not (is_rooted text)) (not (is_oid text)) (unrooted (is_rooted text)) (Decides-not (is_oid text) (decides_oid text)))
    (decides_none (first_fault text)))

pub decides_spelled_pattern : (t : List ℕ) → Decides (is_none (first_fault t)) (IsSpelled (tree_of t) t)
decides_spelled_pattern t =
    Decides-like (is_none (first_fault t)) (no_fault_spelled t) (fault_again (tree_of t) t) (decides_none (first_fault t))

pub decides_match : (t : List ℕ) → Decides (is_match t) (IsMatch t)
unfolding is_match
decides_match t =
    Decides-like (is_match t) (λ h. record { sized = record { shortest = h.0.0; longest = h.0.1 }; formed = formed t h.1 })
    (λ is. ((is.sized.shortest, is.sized.longest), unformed t is.formed))
    (Decides-and (nat_le 1 (length t) && nat_le (length t) 512) (is_xpath t || is_oid t || is_pattern t)
    (Decides-and (nat_le 1 (length t)) (nat_le (length t) 512) (decides_le 1 (length t)) (decides_le (length t) 512))
    (Decides-or (is_xpath t || is_oid t) (is_pattern t) (Decides-or (is_xpath t) (is_oid t) (decides_xpath t) (decides_oid t)) (decides_pattern t)))
  where
    formed : (t : List ℕ) → ((IsXPath t ⊎ IsOid t) ⊎ IsPatternMatch t) → IsXPath t ⊎ IsOid t ⊎ IsPatternMatch t
    formed t (inl (inl xpath)) = inl xpath
    formed t (inl (inr oid)) = inr (inl oid)
    formed t (inr pattern) = inr (inr pattern)

    unformed : (t : List ℕ) → IsXPath t ⊎ IsOid t ⊎ IsPatternMatch t → (IsXPath t ⊎ IsOid t) ⊎ IsPatternMatch t
    unformed t (inl xpath) = inl (inl xpath)
    unformed t (inr (inl oid)) = inl (inr oid)
    unformed t (inr (inr pattern)) = inr pattern
