-- The functions say what the relations say: whether a match takes a resource.
use Rattle.std.proofs.Common.{◌≡◌, ◌≢◌, IsTrue, ℕ, ◌≤◌, Bool, true, false, cond, not, ◌&&◌, ◌||◌, inl, inr, Option, Some, None, IfSome, List, [], ◌∷◌, ◌++◌, refl, sym, ap, subst, ◌∙◌}
use Rattle.std.specs.Bool.{Decides}
use Rattle.std.specs.Cmp.Lexicographic.{pointwise}
use Rattle.std.specs.List.{AllByRecursion, AllZip, join_with_byte, list_all}
use Rattle.std.specs.Prelude.{◌==◌, nat_le, nat_lt, is_none, chars, IsUtf8}
use Rattle.std.specs.Str.{is_utf8}
use Rattle.std.proofs.lemmas.Bool.{false≢true, leb-true, le-leb}
use Rattle.std.proofs.lemmas.Bool.Decides.{Decides-and, Decides-eqb, Decides-like, Decides-ltb, Decides-not, Decides-or, not_from_Decides}
use Rattle.std.proofs.lemmas.Str.{IsUtf8-from_is_utf8, is_utf8-from_IsUtf8}
use lib.Pointwise.{bytes_decides}
use Rattle.al_base.specs.Identifiers.{is_identifier}
use Rattle.al_pattern.specs.Membership.{is_in_language}
use Rattle.al_pattern.specs.Reading.{first_fault, tree_of}
use Rattle.al_pattern.proofs.MembershipLaws.{decides_language}
use Rattle.al_pattern.proofs.OnlyLemmas.{fault_again}
use Rattle.al_pattern.proofs.PatternLemmas.{no_fault_spelled}
use Rattle.al_ids.specs.Matches.{is_rooted, IsXPath, IsPatternMatch, HasPredicate, with_modules, TakesStep, TakesPath, TakesOid, TakesPlain, Matches}
use Rattle.al_ids.specs.Matching.{is_same, are_rooted, is_oid, begins_with_arcs, are_names, is_predicate, is_step, has_steps, begins_in_module, is_of_steps, is_path, is_xpath, takes_module, has_predicate, takes_step, takes_steps, is_pattern, matches}
use Rattle.al_ids.specs.Oids.{is_arc, arc_value, IsRooted, IsOid}
use Rattle.al_ids.specs.Paths.{Predicate, Step, path_text, AreNames, IsPredicate, IsStep, BeginsInModule, IsPath}
use Rattle.al_ids.specs.Spellings.{arcs_of, steps_of}
use Rattle.al_ids.proofs.MatchKinds.{steps_rooted, rooted_no_oid}
use Rattle.al_ids.proofs.OidFronts.{IsArc}
use Rattle.al_ids.proofs.SpellingLemmas.{arcs_again, steps_of_path}

decides_same : (a b : List ℕ) → Decides (is_same a b) (a ≡ b)
decides_same a b = bytes_decides a b

decides_itself : (b : Bool) → Decides b (IsTrue b)
decides_itself b = (λ h. h, λ h. h)

decides_le : (a b : ℕ) → Decides (nat_le a b) (a ≤ b)
decides_le a b = (leb-true a b, le-leb a b)

decides_if : {P Q : Type 0} (x y : Bool) → Decides x P → Decides y Q → Decides (not x || y) (P → Q)
decides_if true y p q = (λ h holds. q.0 h, λ f. q.1 (f (p.0 refl)))
decides_if false y p q = (λ h holds. absurd (false≢true (p.1 holds)), λ f. refl)

decides_each : {X : Type 0} (p : X → Bool) (P : X → Type 0) (each : (x : X) → Decides (p x) (P x)) (xs : List X) → Decides (list_all p xs) (AllByRecursion P xs)
decides_each p P each [] = (λ h. tt, λ h. refl)
decides_each p P each (x ∷ xs) = Decides-and (p x) (list_all p xs) (each x) (decides_each p P each xs)

never : {P : Type 0} → (P → ⊥) → Decides false P
never none = (λ h. absurd (false≢true h), λ h. absurd (none h))

-- ---- object identifiers

decides_rooted : (arcs : List (List ℕ)) → Decides (are_rooted arcs) (IsRooted arcs)
decides_rooted [] = never (λ h. h)
decides_rooted (first ∷ []) = never (λ h. h)
decides_rooted (first ∷ second ∷ rest) =
    Decides-and (nat_le (arc_value first) 2) (not (nat_lt (arc_value first) 2) || nat_le (arc_value second) 39) (decides_le (arc_value first) 2)
    (decides_if (nat_lt (arc_value first) 2) (nat_le (arc_value second) 39) (Decides-ltb (arc_value first) 2) (decides_le (arc_value second) 39))

some_arcs : (arcs : List (List ℕ)) → IsRooted arcs → arcs ≢ []
some_arcs [] rooted = absurd rooted
some_arcs (arc ∷ arcs) rooted = λ e. cc

oid_arcs : (text : List ℕ) (oid : IsOid text) → arcs_of text ≡ oid.arcs
oid_arcs text oid = ap arcs_of oid.spelling ∙ arcs_again oid.arcs (some_arcs oid.arcs oid.rooted) oid.each

abbrev AreArcsOf : List ℕ → List (List ℕ) → Type 0
AreArcsOf text arcs = (AllByRecursion IsArc arcs × IsRooted arcs) × (text ≡ join_with_byte 46 arcs)

decides_oid : (text : List ℕ) → Decides (is_oid text) (IsOid text)
decides_oid text =
    let arcs = arcs_of text in
    Decides-like (is_oid text) (λ h. record { arcs = arcs; each = h.0.0; rooted = h.0.1; spelling = h.1 })
    (λ oid. subst (AreArcsOf text) (sym (oid_arcs text oid)) ((oid.each, oid.rooted), oid.spelling))
    (Decides-and (list_all is_arc arcs && are_rooted arcs) (is_same text (join_with_byte 46 arcs))
    (Decides-and (list_all is_arc arcs) (are_rooted arcs) (decides_each is_arc IsArc (λ arc. decides_itself (is_arc arc)) arcs) (decides_rooted arcs))
    (decides_same text (join_with_byte 46 arcs)))

abbrev AreLonger : List (List ℕ) → List (List ℕ) → Type 0
AreLonger front arcs = (more : List (List ℕ)) × (arcs ≡ front ++ more)

decides_longer : (front arcs : List (List ℕ)) → Decides (begins_with_arcs front arcs) (AreLonger front arcs)
decides_longer [] arcs = (λ h. (arcs, refl), λ h. refl)
decides_longer (first ∷ front) [] = never (λ h. let e = h.1 in cc)
decides_longer (first ∷ front) (arc ∷ arcs) =
    Decides-like (begins_with_arcs (first ∷ front) (arc ∷ arcs)) (λ h. (h.1.0, (let e = h.0 in let f = h.1.1 in cc)))
    (λ h. (let e = h.1 in let same : first ≡ arc = cc in let more : arcs ≡ front ++ h.0 = cc in (same, (h.0, more))))
    (Decides-and (is_same first arc) (begins_with_arcs front arcs) (decides_same first arc) (decides_longer front arcs))

-- ---- paths

decides_names : (owner : Option (List ℕ)) (name : List ℕ) → Decides (are_names owner name) (AreNames owner name)
decides_names None name = (λ h. (tt, h), λ h. h.1)
decides_names (Some o) name = Decides-and (is_identifier o) (is_identifier name) (decides_itself (is_identifier o)) (decides_itself (is_identifier name))

decides_none : {X : Type 0} (o : Option X) → Decides (is_none o) (o ≡ None)
decides_none None = (λ h. refl, λ h. refl)
decides_none (Some x) = never (λ h. cc)

decides_predicate : (p : Predicate) → Decides (is_predicate p) (IsPredicate p)
decides_predicate p =
    let inside : Bool = list_all (λ byte. not (byte == p.quote)) p.value in
    let quotes : Bool = p.quote == 39 || p.quote == 34 in
    let dotted : Bool = is_none p.defined_in && is_same p.name (46 ∷ []) in
    Decides-like (is_predicate p) (λ h. record { names = h.0.0; quotes = h.0.1; inside = h.1 }) (λ is. ((is.names, is.quotes), is.inside))
    (Decides-and ((are_names p.defined_in p.name || dotted) && quotes) inside
    (Decides-and (are_names p.defined_in p.name || dotted) quotes
    (Decides-or (are_names p.defined_in p.name) dotted (decides_names p.defined_in p.name)
    (Decides-and (is_none p.defined_in) (is_same p.name (46 ∷ [])) (decides_none p.defined_in) (decides_same p.name (46 ∷ []))))
    (Decides-or (p.quote == 39) (p.quote == 34) (Decides-eqb p.quote 39) (Decides-eqb p.quote 34)))
    (decides_itself inside))

decides_step : (s : Step) → Decides (is_step s) (IsStep s)
decides_step s =
    Decides-like (is_step s) (λ h. record { names = h.0; each = h.1 }) (λ is. (is.names, is.each))
    (Decides-and (are_names s.defined_in s.name) (list_all is_predicate s.predicates) (decides_names s.defined_in s.name)
    (decides_each is_predicate IsPredicate decides_predicate s.predicates))

abbrev AreStepsOf : List ℕ → List Step → Type 0
AreStepsOf text steps = AllByRecursion IsStep steps × (text ≡ path_text steps)

decides_spelled : (text : List ℕ) → Decides (is_of_steps text) (AreStepsOf text (steps_of text))
decides_spelled text =
    Decides-and (list_all is_step (steps_of text)) (is_same text (path_text (steps_of text))) (decides_each is_step IsStep decides_step (steps_of text))
    (decides_same text (path_text (steps_of text)))

decides_some : (steps : List Step) → Decides (has_steps steps) (steps ≢ [])
decides_some [] = never (λ some. some refl)
decides_some (s ∷ steps) = (λ h e. cc, λ h. refl)

decides_begins : (steps : List Step) → Decides (begins_in_module steps) (BeginsInModule steps)
decides_begins [] = never (λ h. h)
decides_begins (s ∷ steps) = (λ h. h, λ h. h)

path_steps : (text : List ℕ) (path : IsPath text) → steps_of text ≡ path.steps
path_steps text path = ap steps_of path.spelling ∙ steps_of_path path.steps path.each

xpath_steps : (text : List ℕ) (xpath : IsXPath text) → steps_of text ≡ xpath.steps
xpath_steps text xpath = ap steps_of xpath.spelling ∙ steps_of_path xpath.steps xpath.each

decides_path : (text : List ℕ) → Decides (is_path text) (IsPath text)
decides_path text =
    let Is : List Step → Type 0 = λ steps. AreStepsOf text steps × BeginsInModule steps in
    Decides-like (is_path text) (λ h. record { steps = steps_of text; each = h.0.0; begins = h.1; spelling = h.0.1 })
    (λ path. subst Is (sym (path_steps text path)) ((path.each, path.spelling), path.begins))
    (Decides-and (is_of_steps text) (begins_in_module (steps_of text)) (decides_spelled text) (decides_begins (steps_of text)))

decides_xpath : (text : List ℕ) → Decides (is_xpath text) (IsXPath text)
decides_xpath text =
    let Is : List Step → Type 0 = λ steps. (AreStepsOf text steps × (steps ≢ [])) × IsUtf8 text in
    Decides-like (is_xpath text) (λ h. record { steps = steps_of text; each = h.0.0.0; some = h.0.1; spelling = h.0.0.1; utf8 = h.1 })
    (λ xpath. subst Is (sym (xpath_steps text xpath)) (((xpath.each, xpath.spelling), xpath.some), xpath.utf8))
    (Decides-and (is_of_steps text && has_steps (steps_of text)) (is_utf8 text)
    (Decides-and (is_of_steps text) (has_steps (steps_of text)) (decides_spelled text) (decides_some (steps_of text)))
    (IsUtf8-from_is_utf8 text, is_utf8-from_IsUtf8 text))

-- ---- which steps are taken

decides_module : (asked given : Option (List ℕ)) → Decides (takes_module asked given) (IfSome asked (λ owner. given ≡ Some owner))
decides_module None given = (λ h. tt, λ h. refl)
decides_module (Some owner) None = never (λ h. cc)
decides_module (Some owner) (Some other) = Decides-like (is_same other owner) (λ e. ap Some e) (λ e. cc) (decides_same other owner)

decides_among : (predicates : List Predicate) (asked : Predicate) → Decides (has_predicate predicates asked) (HasPredicate predicates asked)
decides_among [] asked = never (λ h. h)
decides_among (p ∷ predicates) asked =
    Decides-or (is_same asked.name p.name && is_same asked.value p.value) (has_predicate predicates asked)
    (Decides-and (is_same asked.name p.name) (is_same asked.value p.value) (decides_same asked.name p.name) (decides_same asked.value p.value))
    (decides_among predicates asked)

decides_taken : (asked given : Step) → Decides (takes_step asked given) (TakesStep asked given)
decides_taken asked given =
    let all : Bool = list_all (has_predicate given.predicates) asked.predicates in
    Decides-like (takes_step asked given) (λ h. record { names = h.0.0; modules = h.0.1; predicates = h.1 }) (λ takes. ((takes.names, takes.modules), takes.predicates))
    (Decides-and (is_same asked.name given.name && takes_module asked.defined_in given.defined_in) all
    (Decides-and (is_same asked.name given.name) (takes_module asked.defined_in given.defined_in) (decides_same asked.name given.name)
    (decides_module asked.defined_in given.defined_in))
    (decides_each (has_predicate given.predicates) (HasPredicate given.predicates) (decides_among given.predicates) asked.predicates))

decides_zip : (asked given : List Step) → Decides (pointwise takes_step asked given) (AllZip TakesStep asked given)
decides_zip [] [] = (λ h. tt, λ h. refl)
decides_zip [] (s ∷ given) = never (λ h. h)
decides_zip (s ∷ asked) [] = never (λ h. h)
decides_zip (a ∷ asked) (g ∷ given) =
    Decides-and (takes_step a g) (pointwise takes_step asked given) (decides_taken a g) (decides_zip asked given)

-- ---- a match by the kind of the resource

path_rooted : (text : List ℕ) → IsPath text → is_rooted text ≡ true
path_rooted text path = ap is_rooted path.spelling ∙ steps_rooted path.steps (some_steps path.steps path.begins) where
  some_steps : (steps : List Step) → BeginsInModule steps → steps ≢ []
  some_steps [] begins = absurd begins
  some_steps (s ∷ steps) begins = λ e. cc

takes_a_path : (asked given : List ℕ) → IsPath given → Matches asked given → TakesPath asked given
takes_a_path asked given path (inl takes) = takes
takes_a_path asked given path (inr (inl takes)) = absurd (rooted_no_oid given (path_rooted given path) takes.oid)
takes_a_path asked given path (inr (inr takes)) = absurd (takes.no_path path)

decides_of_path : (asked given : List ℕ) → IsPath given → Decides (is_xpath asked && takes_steps (steps_of asked) (steps_of given)) (Matches asked given)
decides_of_path asked given path =
    let Zip : List Step → List Step → Type 0 = λ a g. AllZip TakesStep (with_modules None a) (with_modules None g) in
    Decides-like (is_xpath asked && takes_steps (steps_of asked) (steps_of given))
    (λ h. inl (record { xpath = h.0; path = path; steps = subst (λ a. Zip a path.steps) (xpath_steps asked h.0) (subst (λ g. Zip (steps_of asked) g) (path_steps given path) h.1) }))
    (λ matches. let takes = takes_a_path asked given path matches in
    (takes.xpath, subst (λ a. Zip a (steps_of given)) (sym (xpath_steps asked takes.xpath)) (subst (λ g. Zip takes.xpath.steps g) (sym (path_steps given takes.path)) takes.steps)))
    (Decides-and (is_xpath asked) (takes_steps (steps_of asked) (steps_of given)) (decides_xpath asked)
    (decides_zip (with_modules None (steps_of asked)) (with_modules None (steps_of given))))

takes_an_oid : (asked given : List ℕ) → IsOid given → Matches asked given → TakesOid asked given
takes_an_oid asked given oid (inl takes) = absurd (rooted_no_oid given (path_rooted given takes.path) oid)
takes_an_oid asked given oid (inr (inl takes)) = takes
takes_an_oid asked given oid (inr (inr takes)) = absurd (takes.no_oid oid)

decides_of_oid : (asked given : List ℕ) → IsOid given → Decides (is_oid asked && begins_with_arcs (arcs_of asked) (arcs_of given)) (Matches asked given)
decides_of_oid asked given oid =
    Decides-like (is_oid asked && begins_with_arcs (arcs_of asked) (arcs_of given))
    (λ h. let longer = subst (λ a. AreLonger a oid.arcs) (oid_arcs asked h.0) (subst (λ g. AreLonger (arcs_of asked) g) (oid_arcs given oid) h.1) in
    inr (inl (record { front = h.0; oid = oid; more = longer.0; arcs = longer.1 })))
    (λ matches. let takes = takes_an_oid asked given oid matches in
    (takes.front, subst (λ a. AreLonger a (arcs_of given)) (sym (oid_arcs asked takes.front)) (subst (λ g. AreLonger takes.front.arcs g) (sym (oid_arcs given takes.oid)) (takes.more, takes.arcs))))
    (Decides-and (is_oid asked) (begins_with_arcs (arcs_of asked) (arcs_of given)) (decides_oid asked) (decides_longer (arcs_of asked) (arcs_of given)))

unrooted : (b : Bool) → Decides (not b) (b ≡ false)
unrooted true = never (λ h. cc)
unrooted false = (λ h. refl, λ h. refl)

decides_pattern : (text : List ℕ) → Decides (is_pattern text) (IsPatternMatch text)
decides_pattern text =
    Decides-like (is_pattern text) (λ h. record { other = record { no_path = h.0.0; no_oid = h.0.1 }; pattern = no_fault_spelled text h.1 })
    (λ is. ((is.other.no_path, is.other.no_oid), fault_again (tree_of text) text is.pattern))
    (Decides-and (not (is_rooted text) && not (is_oid text)) (is_none (first_fault text))
    (Decides-and (not (is_rooted text)) (not (is_oid text)) (unrooted (is_rooted text)) (Decides-not (is_oid text) (decides_oid text)))
    (decides_none (first_fault text)))

takes_a_plain : (asked given : List ℕ) → ¬ (IsPath given) → ¬ (IsOid given) → Matches asked given → TakesPlain asked given
takes_a_plain asked given no_path no_oid (inl takes) = absurd (no_path takes.path)
takes_a_plain asked given no_path no_oid (inr (inl takes)) = absurd (no_oid takes.oid)
takes_a_plain asked given no_path no_oid (inr (inr takes)) = takes

decides_of_plain : (asked given : List ℕ) → ¬ (IsPath given) → ¬ (IsOid given) → Decides (is_pattern asked && is_in_language asked (chars given)) (Matches asked given)
decides_of_plain asked given no_path no_oid =
    Decides-like (is_pattern asked && is_in_language asked (chars given)) (λ h. inr (inr (record { pattern = h.0; no_path = no_path; no_oid = no_oid; language = h.1 })))
    (λ matches. let takes = takes_a_plain asked given no_path no_oid matches in (takes.pattern, takes.language))
    (Decides-and (is_pattern asked) (is_in_language asked (chars given)) (decides_pattern asked) (decides_language asked (chars given)))

by_kind : {P : Type 0} (path oid a b c : Bool) → (path ≡ true → Decides a P) → (path ≡ false → oid ≡ true → Decides b P) → (path ≡ false → oid ≡ false → Decides c P) → Decides (cond path a (cond oid b c)) P
by_kind true oid a b c first second third = first refl
by_kind false true a b c first second third = second refl refl
by_kind false false a b c first second third = third refl refl

-- The function is true exactly where the relation holds.
pub decides_match : (asked given : List ℕ) → Decides (matches asked given) (Matches asked given)
unfolding matches
decides_match asked given =
    by_kind (is_path given) (is_oid given) (is_xpath asked && takes_steps (steps_of asked) (steps_of given)) (is_oid asked && begins_with_arcs (arcs_of asked) (arcs_of given))
    (is_pattern asked && is_in_language asked (chars given))
    (λ path. decides_of_path asked given ((decides_path given).0 path))
    (λ no_path oid. decides_of_oid asked given ((decides_oid given).0 oid))
    (λ no_path no_oid. decides_of_plain asked given (not_from_Decides (is_path given) (decides_path given) no_path) (not_from_Decides (is_oid given) (decides_oid given) no_oid))
