-- What is read back from a text is what it was spelled of.
use Rattle.std.proofs.Common.{◌≡◌, ◌≢◌, ℕ, zero, suc, ◌≤◌, true, cond, Some, None, List, [], ◌∷◌, ◌++◌, length, refl, ap, ◌∙◌, append_assoc, length-append, arith}
use Rattle.std.specs.Prelude.{◌==◌}
use Rattle.std.specs.List.{AllByRecursion, flat_map, join_with_byte, list_all}
use Rattle.std.specs.Option.{option_map_or}
use Rattle.std.proofs.lemmas.Bool.{and_parts, not-true}
use Rattle.al_ids.specs.Paths.{Predicate, Step, qualified, predicate_text, step_text, path_text, IsPredicate, IsStep}
use Rattle.al_ids.specs.StepReading.{is_inside, behind_names, name_of, owner_of}
use Rattle.al_ids.specs.Spellings.{with_digit, arcs_of, predicate_at, with_predicate, predicates_at, steps_at, steps_of}
use Rattle.al_ids.proofs.Fronts.{front_read, behind_read}
use Rattle.al_ids.proofs.OidFronts.{IsArc, no_dot, arc_no_dot}
use Rattle.al_ids.proofs.PathCuts.{EndsNames, equals_ends, name_read, names_are_words, names_passed, owner_read, predicate_words, quote_stops, same_byte, tail_ends}

-- ---- arcs

one_digit : (digit : ℕ) (rest : List ℕ) (arc : List ℕ) (arcs : List (List ℕ)) → no_dot digit ≡ true → arcs_of rest ≡ arc ∷ arcs → arcs_of (digit ∷ rest) ≡ (digit ∷ arc) ∷ arcs
one_digit digit rest arc arcs other e =
    ap (λ b. cond b ([] ∷ arcs_of rest) (with_digit digit (arcs_of rest))) (not-true (digit == 46) other) ∙ ap (with_digit digit) e

first_arc : (arc rest : List ℕ) → list_all no_dot arc ≡ true → arcs_of (arc ++ (46 ∷ rest)) ≡ arc ∷ arcs_of rest
first_arc [] rest none = refl
first_arc (digit ∷ arc) rest none =
    let both = and_parts (no_dot digit) (list_all no_dot arc) none in
    one_digit digit (arc ++ (46 ∷ rest)) arc (arcs_of rest) both.0 (first_arc arc rest both.1)

last_arc : (arc : List ℕ) → list_all no_dot arc ≡ true → arcs_of arc ≡ arc ∷ []
last_arc [] none = refl
last_arc (digit ∷ arc) none =
    let both = and_parts (no_dot digit) (list_all no_dot arc) none in
    one_digit digit arc arc [] both.0 (last_arc arc both.1)

pub arcs_again : (arcs : List (List ℕ)) → arcs ≢ [] → AllByRecursion IsArc arcs → arcs_of (join_with_byte 46 arcs) ≡ arcs
arcs_again [] some each = absurd (some refl)
arcs_again (arc ∷ []) some each = last_arc arc (arc_no_dot arc each.0)
arcs_again (arc ∷ next ∷ arcs) some each =
    first_arc arc (join_with_byte 46 (next ∷ arcs)) (arc_no_dot arc each.0) ∙ ap (λ l. arc ∷ l) (arcs_again (next ∷ arcs) (λ e. cc) each.1)

-- ---- predicates

predicate_again : (p : Predicate) (rest : List ℕ) → IsPredicate p → predicate_at (91 ∷ (qualified p.defined_in p.name ++ (61 ∷ p.quote ∷ (p.value ++ (p.quote ∷ 93 ∷ rest))))) ≡ Some (p, rest)
predicate_again p rest is =
    let words = predicate_words p is in
    let quoted : List ℕ = p.value ++ (p.quote ∷ 93 ∷ rest) in
    let test : List ℕ = p.quote ∷ quoted in
    let ended = quote_stops p.quote (93 ∷ rest) in
    rw (
      names_passed p.defined_in p.name (61 ∷ test) words (equals_ends test),
      owner_read p.defined_in p.name (61 ∷ test) words (equals_ends test),
      name_read p.defined_in p.name (61 ∷ test) words (equals_ends test),
      front_read (is_inside p.quote) p.value (p.quote ∷ 93 ∷ rest) is.inside ended,
      behind_read (is_inside p.quote) p.value (p.quote ∷ 93 ∷ rest) is.inside ended,
      same_byte p.quote,
    ) refl

regrouped : (names : List ℕ) (quote : ℕ) (value predicates rest : List ℕ) → ((91 ∷ (names ++ (61 ∷ quote ∷ (value ++ (quote ∷ 93 ∷ []))))) ++ predicates) ++ rest ≡ 91 ∷ (names ++ (61 ∷ quote ∷ (value ++ (quote ∷ 93 ∷ (predicates ++ rest)))))
regrouped names quote value predicates rest = simp append_assoc

predicates_again : (most : ℕ) (ps : List Predicate) (rest : List ℕ) → AllByRecursion IsPredicate ps → predicate_at rest ≡ None → length ps ≤ most
    → predicates_at most (flat_map predicate_text ps ++ rest) ≡ (ps, rest)
predicates_again zero [] rest each none few = refl
predicates_again zero (p ∷ ps) rest each none few = absurd (omega arith)
predicates_again (suc most) [] rest each none few =
    ap (λ found. option_map_or (λ x. with_predicate x.0 (predicates_at most x.1)) found ([], rest)) none
predicates_again (suc most) (p ∷ ps) rest each none few =
    let text : List ℕ = flat_map predicate_text (p ∷ ps) ++ rest in
    let more : List ℕ = flat_map predicate_text ps ++ rest in
    let found : predicate_at text ≡ Some (p, more) =
    ap predicate_at (regrouped (qualified p.defined_in p.name) p.quote p.value (flat_map predicate_text ps) rest) ∙ predicate_again p more each.0 in
    ap (λ found. option_map_or (λ x. with_predicate x.0 (predicates_at most x.1)) found ([], text)) found
    ∙ ap (with_predicate p) (predicates_again most ps rest each.1 none (omega arith))

few_predicates : (ps : List Predicate) → length ps ≤ length (flat_map predicate_text ps)
few_predicates [] = omega arith
few_predicates (p ∷ ps) = let rest = few_predicates ps in omega (arith, length-append (predicate_text p) (flat_map predicate_text ps))

-- ---- steps

no_predicate : (steps : List Step) → predicate_at (path_text steps) ≡ None
no_predicate [] = refl
no_predicate (s ∷ steps) = refl

few_steps : (steps : List Step) → length steps ≤ length (path_text steps)
few_steps [] = omega arith
few_steps (s ∷ steps) = let rest = few_steps steps in omega (arith, length-append (step_text s) (path_text steps))

steps_again : (most : ℕ) (steps : List Step) → AllByRecursion IsStep steps → length steps ≤ most → steps_at most (path_text steps) ≡ steps
steps_again zero [] each few = refl
steps_again zero (s ∷ steps) each few = absurd (omega arith)
steps_again (suc most) [] each few = refl
steps_again (suc most) (s ∷ steps) each few =
    let names : List ℕ = (qualified s.defined_in s.name ++ flat_map predicate_text s.predicates) ++ path_text steps in
    let tail : List ℕ = flat_map predicate_text s.predicates ++ path_text steps in
    let whole : names ≡ qualified s.defined_in s.name ++ tail = append_assoc (qualified s.defined_in s.name) (flat_map predicate_text s.predicates) (path_text steps) in
    let words = names_are_words s.defined_in s.name each.0.names in
    let ends : EndsNames tail = tail_ends s.predicates steps in
    let owner : owner_of names ≡ s.defined_in = ap owner_of whole ∙ owner_read s.defined_in s.name tail words ends in
    let name : name_of names ≡ s.name = ap name_of whole ∙ name_read s.defined_in s.name tail words ends in
    let behind : behind_names names ≡ tail = ap behind_names whole ∙ names_passed s.defined_in s.name tail words ends in
    let room : length s.predicates ≤ length names =
    omega (arith, few_predicates s.predicates, ap length whole, length-append (qualified s.defined_in s.name) tail, length-append (flat_map predicate_text s.predicates) (path_text steps)) in
    let found : predicates_at (length names) (behind_names names) ≡ (s.predicates, path_text steps) =
    ap (predicates_at (length names)) behind ∙ predicates_again (length names) s.predicates (path_text steps) each.0.each (no_predicate steps) room in
    rw (owner, name, found, steps_again most steps each.1 (omega arith)) refl

pub steps_of_path : (steps : List Step) → AllByRecursion IsStep steps → steps_of (path_text steps) ≡ steps
steps_of_path steps each = steps_again (length (path_text steps)) steps each (few_steps steps)
