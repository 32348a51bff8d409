-- Resource matches as functions: whether a text is a resource or a match of a form, and whether a match takes a resource.
use Rattle.std.specs.Prelude.{ℕ, ◌==◌, nat_le, nat_lt, Bool, true, false, not, ◌&&◌, ◌||◌, if◌then◌else◌, Option, Some, None, is_some, is_none, List, [], ◌∷◌, chars}
use Rattle.std.specs.Cmp.Lexicographic.{pointwise}
use Rattle.std.specs.List.{list_all, list_any, join_with_byte}
use Rattle.std.specs.Option.{option_map_or}
use Rattle.std.specs.Str.{is_utf8}
use Rattle.al_base.specs.Identifiers.{is_identifier}
use Rattle.al_pattern.specs.Membership.{is_in_language}
use Rattle.al_pattern.specs.Reading.{first_fault}
use Rattle.al_ids.specs.Matches.{is_rooted, with_modules}
use Rattle.al_ids.specs.Oids.{is_arc, arc_value}
use Rattle.al_ids.specs.Paths.{Predicate, Step, path_text}
use Rattle.al_ids.specs.Spellings.{arcs_of, steps_of}

abbrev pub is_same : List ℕ → List ℕ → Bool
is_same a b = pointwise ◌==◌ a b

-- ---- object identifiers

-- The first arc is 0, 1 or 2, and below 0 and 1 the second is at most 39.
abbrev pub are_rooted : List (List ℕ) → Bool
are_rooted [] = false
are_rooted (first ∷ []) = false
are_rooted (first ∷ second ∷ rest) =
    nat_le (arc_value first) 2 && (not (nat_lt (arc_value first) 2) || nat_le (arc_value second) 39)

-- two or more arcs, of which it is spelled
abbrev pub is_oid : List ℕ → Bool
is_oid text = list_all is_arc (arcs_of text) && are_rooted (arcs_of text) && is_same text (join_with_byte 46 (arcs_of text))

-- the arcs begin with these
abbrev pub begins_with_arcs : List (List ℕ) → List (List ℕ) → Bool
begins_with_arcs [] arcs = true
begins_with_arcs (first ∷ front) [] = false
begins_with_arcs (first ∷ front) (arc ∷ arcs) = is_same first arc && begins_with_arcs front arcs

-- ---- paths

abbrev pub are_names : Option (List ℕ) → List ℕ → Bool
are_names owner name = option_map_or is_identifier owner true && is_identifier name

abbrev pub is_predicate : Predicate → Bool
is_predicate p =
    (are_names p.defined_in p.name || (is_none p.defined_in && is_same p.name (46 ∷ []))) && (p.quote == 39 || p.quote == 34)
    && list_all (λ byte. not (byte == p.quote)) p.value

abbrev pub is_step : Step → Bool
is_step s = are_names s.defined_in s.name && list_all is_predicate s.predicates

-- one step or more
abbrev pub has_steps : List Step → Bool
has_steps [] = false
has_steps (s ∷ steps) = true

-- the first step says its module
abbrev pub begins_in_module : List Step → Bool
begins_in_module [] = false
begins_in_module (s ∷ rest) = is_some s.defined_in

-- steps, of which it is spelled
abbrev pub is_of_steps : List ℕ → Bool
is_of_steps text = list_all is_step (steps_of text) && is_same text (path_text (steps_of text))

abbrev pub is_path : List ℕ → Bool
is_path text = is_of_steps text && begins_in_module (steps_of text)

abbrev pub is_xpath : List ℕ → Bool
is_xpath text = is_of_steps text && has_steps (steps_of text) && is_utf8 text

-- the module that is asked for, where one is
abbrev pub takes_module : Option (List ℕ) → Option (List ℕ) → Bool
takes_module None given = true
takes_module (Some owner) None = false
takes_module (Some owner) (Some other) = is_same other owner

abbrev pub has_predicate : List Predicate → Predicate → Bool
has_predicate predicates asked = list_any (λ p. is_same asked.name p.name && is_same asked.value p.value) predicates

-- A step takes a step of its name, of its module where one holds, and with each of its predicates in any order.
abbrev pub takes_step : Step → Step → Bool
takes_step asked given =
    is_same asked.name given.name && takes_module asked.defined_in given.defined_in
    && list_all (has_predicate given.predicates) asked.predicates

-- as many steps, each taken by its own
abbrev pub takes_steps : List Step → List Step → Bool
takes_steps asked given = pointwise takes_step (with_modules None asked) (with_modules None given)

-- ---- matches

-- neither rooted nor an object identifier, and a pattern
abbrev pub is_pattern : List ℕ → Bool
is_pattern text = not (is_rooted text) && not (is_oid text) && is_none (first_fault text)

-- A path is taken by an XPath, an object identifier by a front of its arcs, and any other resource by a pattern.
unfoldable pub matches : List ℕ → List ℕ → Bool
matches asked given =
    if is_path given then is_xpath asked && takes_steps (steps_of asked) (steps_of given)
    else if is_oid given then is_oid asked && begins_with_arcs (arcs_of asked) (arcs_of given)
    else is_pattern asked && is_in_language asked (chars given)
