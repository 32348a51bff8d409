-- What is cut off a path is what it was spelled of.
use Rattle.std.proofs.Common.{◌≡◌, inl, inr, ℕ, Bool, true, false, ◌&&◌, Option, Some, None, IfSome, List, [], ◌∷◌, ◌++◌, refl, sym, ap, subst, ◌∙◌, append_assoc, arith}
use Rattle.std.specs.Prelude.{◌==◌}
use Rattle.std.specs.List.{AllByRecursion, flat_map, list_all}
use Rattle.std.proofs.lemmas.Bool.Decides.{nat_tests}
use Rattle.al_base.specs.Identifiers.{begins_identifier, continues_identifier, is_identifier}
use Rattle.al_ids.specs.Paths.{Predicate, Step, qualified, predicate_text, path_text, AreNames, IsPredicate, IsStep}
use Rattle.al_ids.specs.StepReading.{behind_byte, is_inside, word_of, behind_word, owner_of, name_of, behind_names, Parts, parts_of, IsTail}
use Rattle.al_ids.proofs.Fronts.{stops, front_read, behind_read}

and_left : (a b : Bool) → (a && b) ≡ true → a ≡ true
and_left true b h = refl
and_left false b h = h

and_right : (a b : Bool) → (a && b) ≡ true → b ≡ true
and_right true b h = h
and_right false b h = cc

begins_continues : (byte : ℕ) → begins_identifier byte ≡ true → continues_identifier byte ≡ true
begins_continues byte h = grind (arith, nat_tests)

all_continue : (name : List ℕ) → is_identifier name ≡ true → list_all continues_identifier name ≡ true
all_continue [] h = refl
all_continue (x ∷ rest) h =
    rw (begins_continues x (and_left (begins_identifier x) (list_all continues_identifier rest) h))
    (and_right (begins_identifier x) (list_all continues_identifier rest) h)

-- names of bytes that identifiers go on with
pub record AreWords (owner : Option (List ℕ)) (name : List ℕ) : Type 0 where
  pub owner_goes_on : IfSome owner (λ o. list_all continues_identifier o ≡ true)
  pub name_goes_on : list_all continues_identifier name ≡ true

pub names_are_words : (owner : Option (List ℕ)) (name : List ℕ) → AreNames owner name → AreWords owner name
names_are_words None name names = record { owner_goes_on = tt; name_goes_on = all_continue name names.1 }
names_are_words (Some o) name names = record { owner_goes_on = all_continue o names.0; name_goes_on = all_continue name names.1 }

-- what may follow a name
pub record EndsNames (rest : List ℕ) : Type 0 where
  pub no_word : stops continues_identifier rest ≡ true
  pub no_colon : behind_byte 58 rest ≡ None

-- what stands behind the first word of a name
behind_first : (o name rest : List ℕ) → list_all continues_identifier o ≡ true → behind_byte 58 (behind_word ((o ++ (58 ∷ name)) ++ rest)) ≡ Some (name ++ rest)
behind_first o name rest all = rw (append_assoc o (58 ∷ name) rest, behind_read continues_identifier o (58 ∷ (name ++ rest)) all refl) refl

first_word : (o name rest : List ℕ) → list_all continues_identifier o ≡ true → word_of ((o ++ (58 ∷ name)) ++ rest) ≡ o
first_word o name rest all = rw (append_assoc o (58 ∷ name) rest) (front_read continues_identifier o (58 ∷ (name ++ rest)) all refl)

pub owner_read : (owner : Option (List ℕ)) (name rest : List ℕ) → AreWords owner name → EndsNames rest → owner_of (qualified owner name ++ rest) ≡ owner
owner_read None name rest words ends = rw (behind_read continues_identifier name rest words.name_goes_on ends.no_word, ends.no_colon) refl
owner_read (Some o) name rest words ends = rw (behind_first o name rest words.owner_goes_on, first_word o name rest words.owner_goes_on) refl

pub name_read : (owner : Option (List ℕ)) (name rest : List ℕ) → AreWords owner name → EndsNames rest → name_of (qualified owner name ++ rest) ≡ name
name_read None name rest words ends =
    rw (behind_read continues_identifier name rest words.name_goes_on ends.no_word, ends.no_colon) (front_read continues_identifier name rest words.name_goes_on ends.no_word)
name_read (Some o) name rest words ends =
    rw (behind_first o name rest words.owner_goes_on) (front_read continues_identifier name rest words.name_goes_on ends.no_word)

pub names_passed : (owner : Option (List ℕ)) (name rest : List ℕ) → AreWords owner name → EndsNames rest → behind_names (qualified owner name ++ rest) ≡ rest
names_passed None name rest words ends = rw (behind_read continues_identifier name rest words.name_goes_on ends.no_word, ends.no_colon) refl
names_passed (Some o) name rest words ends =
    rw (behind_first o name rest words.owner_goes_on) (behind_read continues_identifier name rest words.name_goes_on ends.no_word)

-- ---- predicates

pub same_byte : (byte : ℕ) → (byte == byte) ≡ true
same_byte byte = grind (arith, nat_tests)

pub predicate_words : (p : Predicate) → IsPredicate p → AreWords p.defined_in p.name
predicate_words p is = elim is.names [
  | inl names ↦ names_are_words p.defined_in p.name names
  | inr dot ↦ rw (dot.0, dot.1) (record { owner_goes_on = tt; name_goes_on = refl })
]

pub equals_ends : (rest : List ℕ) → EndsNames (61 ∷ rest)
equals_ends rest = record { no_word = refl; no_colon = refl }

pub quote_stops : (quote : ℕ) (rest : List ℕ) → stops (is_inside quote) (quote ∷ rest) ≡ true
quote_stops quote rest = rw (same_byte quote) refl

pub predicate_parts : (p : Predicate) (rest : List ℕ) → IsPredicate p → parts_of (91 ∷ (qualified p.defined_in p.name ++ (61 ∷ p.quote ∷ (p.value ++ (p.quote ∷ 93 ∷ rest))))) ≡ Some (record { name = p.name; value = p.value; rest = rest })
predicate_parts p rest is =
    let words = predicate_words p is in
    let quoted : List ℕ = p.value ++ (p.quote ∷ 93 ∷ rest) in
    let test : List ℕ = p.quote ∷ quoted in
    let ended = quote_stops p.quote (93 ∷ rest) in
    rw (
      name_read p.defined_in p.name (61 ∷ test) words (equals_ends test),
      names_passed p.defined_in p.name (61 ∷ test) words (equals_ends test),
      front_read (is_inside p.quote) p.value (p.quote ∷ 93 ∷ rest) is.inside ended,
      behind_read (is_inside p.quote) p.value (p.quote ∷ 93 ∷ rest) is.inside ended,
      same_byte p.quote,
    ) refl

abbrev pub IsRead : Option Parts → List Predicate → List Step → Type 0
IsRead None [] steps = Unit {0}
IsRead None (p ∷ predicates) steps = ⊥
IsRead (Some found) [] steps = ⊥
IsRead (Some found) (p ∷ predicates) steps = (found.name ≡ p.name) × (found.value ≡ p.value) × IsTail found.rest predicates steps

no_parts : (steps : List Step) → parts_of (path_text steps) ≡ None
no_parts [] = refl
no_parts (s ∷ steps) = refl

regrouped : (names : List ℕ) (quote : ℕ) (value predicates rest : List ℕ) → ((91 ∷ (names ++ (61 ∷ quote ∷ (value ++ (quote ∷ 93 ∷ []))))) ++ predicates) ++ rest ≡ 91 ∷ (names ++ (61 ∷ quote ∷ (value ++ (quote ∷ 93 ∷ (predicates ++ rest)))))
regrouped names quote value predicates rest = simp append_assoc

-- The predicate that is cut off is the first that the text spells.
pub parts_read : (text : List ℕ) (predicates : List Predicate) (steps : List Step) → IsTail text predicates steps → IsRead (parts_of text) predicates steps
parts_read text [] steps tail = rw (tail.spelling, no_parts steps) tt
parts_read text (p ∷ predicates) steps tail =
    let rest : List ℕ = flat_map predicate_text predicates ++ path_text steps in
    let whole = tail.spelling ∙ regrouped (qualified p.defined_in p.name) p.quote p.value (flat_map predicate_text predicates) (path_text steps) in
    let read : parts_of text ≡ Some (record { name = p.name; value = p.value; rest = rest }) = ap parts_of whole ∙ predicate_parts p rest tail.each_predicate.0 in
    let Read : Option Parts → Type 0 = λ found. IsRead found (p ∷ predicates) steps in
    subst Read (sym read) (refl, refl, record { each_predicate = tail.each_predicate.1; each_step = tail.each_step; spelling = refl })

-- ---- steps

pub tail_ends : (predicates : List Predicate) (steps : List Step) → EndsNames (flat_map predicate_text predicates ++ path_text steps)
tail_ends [] [] = record { no_word = refl; no_colon = refl }
tail_ends [] (s ∷ steps) = record { no_word = refl; no_colon = refl }
tail_ends (p ∷ predicates) steps = record { no_word = refl; no_colon = refl }

-- what is cut off the front of a step behind its slash
pub record IsStepRead (text : List ℕ) (s : Step) (steps : List Step) : Type 0 where
  pub owner : owner_of text ≡ s.defined_in
  pub name : name_of text ≡ s.name
  pub rest : IsTail (behind_names text) s.predicates steps

abbrev pub AreStepsRead : Option (List ℕ) → List Step → Type 0
AreStepsRead None [] = Unit {0}
AreStepsRead None (s ∷ steps) = ⊥
AreStepsRead (Some text) [] = ⊥
AreStepsRead (Some text) (s ∷ steps) = IsStepRead text s steps

step_read : (text : List ℕ) (s : Step) (steps : List Step) → IsStep s → AllByRecursion IsStep steps → text ≡ qualified s.defined_in s.name ++ (flat_map predicate_text s.predicates ++ path_text steps) → IsStepRead text s steps
step_read text s steps is each spelled =
    let words = names_are_words s.defined_in s.name is.names in
    let rest : List ℕ = flat_map predicate_text s.predicates ++ path_text steps in
    let ends : EndsNames rest = tail_ends s.predicates steps in
    record {
      owner = ap owner_of spelled ∙ owner_read s.defined_in s.name rest words ends;
      name = ap name_of spelled ∙ name_read s.defined_in s.name rest words ends;
      rest = record { each_predicate = is.each; each_step = each; spelling = ap behind_names spelled ∙ names_passed s.defined_in s.name rest words ends };
    }

-- The step that is cut off is the first that the text spells.
pub steps_read : (text : List ℕ) (steps : List Step) → AllByRecursion IsStep steps → text ≡ path_text steps → AreStepsRead (behind_byte 47 text) steps
steps_read text [] each spelled = rw spelled tt
steps_read text (s ∷ steps) each spelled =
    rw spelled (step_read _ s steps each.0 each.1 (append_assoc (qualified s.defined_in s.name) (flat_map predicate_text s.predicates) (path_text steps)))
