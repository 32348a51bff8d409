-- What a text spells, read back from it: the arcs between its dots, and the steps and predicates of a path.
use Rattle.std.specs.Prelude.{ℕ, zero, suc, ◌==◌, if◌then◌else◌, Option, None, List, [], ◌∷◌, length}
use Rattle.std.specs.Option.{option_and_then, option_map, option_map_or}
use Rattle.al_ids.specs.Paths.{Predicate, Step}
use Rattle.al_ids.specs.StepReading.{behind_byte, behind_front, behind_names, front_of, is_inside, name_of, owner_of}

-- ---- object identifiers

abbrev pub with_digit : ℕ → List (List ℕ) → List (List ℕ)
with_digit digit [] = (digit ∷ []) ∷ []
with_digit digit (arc ∷ arcs) = (digit ∷ arc) ∷ arcs

-- the parts between the dots
abbrev pub arcs_of : List ℕ → List (List ℕ)
arcs_of [] = [] ∷ []
arcs_of (byte ∷ rest) = if byte == 46 then [] ∷ arcs_of rest else with_digit byte (arcs_of rest)

-- ---- paths

-- a predicate of these names, from its quote on, and what stands behind it
abbrev pub predicate_of : List ℕ → List ℕ → Option (Predicate × List ℕ)
predicate_of names [] = None
predicate_of names (quote ∷ text) =
    option_map (λ rest. (record { defined_in = owner_of names; name = name_of names; quote = quote; value = front_of (is_inside quote) text }, rest))
    (option_and_then (behind_byte 93) (behind_byte quote (behind_front (is_inside quote) text)))

-- the predicate at the front of a text, and what stands behind it
abbrev pub predicate_at : List ℕ → Option (Predicate × List ℕ)
predicate_at text =
    option_and_then (λ names. option_and_then (predicate_of names) (behind_byte 61 (behind_names names))) (behind_byte 91 text)

abbrev pub with_predicate : Predicate → List Predicate × List ℕ → List Predicate × List ℕ
with_predicate p (predicates, rest) = (p ∷ predicates, rest)

-- the predicates at the front of a text, at most so many, and what stands behind them
abbrev pub predicates_at : ℕ → List ℕ → List Predicate × List ℕ
predicates_at zero text = ([], text)
predicates_at (suc most) text = option_map_or (λ x. with_predicate x.0 (predicates_at most x.1)) (predicate_at text) ([], text)

-- the steps at the front of a text, at most so many
abbrev pub steps_at : ℕ → List ℕ → List Step
steps_at zero text = []
steps_at (suc most) text = option_map_or
    (λ names. let found = predicates_at (length names) (behind_names names) in
    record { defined_in = owner_of names; name = name_of names; predicates = found.0 } ∷ steps_at most found.1)
    (behind_byte 47 text) []

-- each step has a byte at least
abbrev pub steps_of : List ℕ → List Step
steps_of text = steps_at (length text) text
