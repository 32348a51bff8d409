-- How a path is cut, where it stands, into steps and predicates.
use Rattle.std.specs.Prelude.{◌≡◌, ℕ, ◌==◌, not, Bool, if◌then◌else◌, Option, Some, None, List, [], ◌∷◌, ◌++◌}
use Rattle.std.specs.List.{AllByRecursion, flat_map}
use Rattle.std.specs.Option.{option_and_then, option_map, option_map_or}
use Rattle.al_base.specs.Identifiers.{continues_identifier}
use Rattle.al_ids.specs.Paths.{Predicate, Step, predicate_text, path_text, IsPredicate, IsStep}

-- the front of which each byte passes, and what stands behind it
abbrev pub front_of : (ℕ → Bool) → List ℕ → List ℕ
front_of passes [] = []
front_of passes (byte ∷ rest) = if passes byte then byte ∷ front_of passes rest else []

abbrev pub behind_front : (ℕ → Bool) → List ℕ → List ℕ
behind_front passes [] = []
behind_front passes (byte ∷ rest) = if passes byte then behind_front passes rest else byte ∷ rest

-- what stands behind this byte, where the text begins with it
abbrev pub behind_byte : ℕ → List ℕ → Option (List ℕ)
behind_byte byte [] = None
behind_byte byte (first ∷ rest) = if first == byte then Some rest else None

-- the bytes before a quote
abbrev pub is_inside : ℕ → ℕ → Bool
is_inside quote byte = not (byte == quote)

-- a name, with its module where a colon stands between them, and what follows
abbrev pub behind_word : List ℕ → List ℕ
behind_word text = behind_front continues_identifier text

abbrev pub word_of : List ℕ → List ℕ
word_of text = front_of continues_identifier text

abbrev pub owner_of : List ℕ → Option (List ℕ)
owner_of text = option_map (λ name. word_of text) (behind_byte 58 (behind_word text))

abbrev pub name_of : List ℕ → List ℕ
name_of text = option_map_or word_of (behind_byte 58 (behind_word text)) (word_of text)

abbrev pub behind_names : List ℕ → List ℕ
behind_names text = option_map_or behind_word (behind_byte 58 (behind_word text)) (behind_word text)

-- a predicate's name and value, and what follows it
pub record Parts : Type 0 where
  pub name : List ℕ
  pub value : List ℕ
  pub rest : List ℕ

abbrev pub value_parts : List ℕ → ℕ → List ℕ → Option Parts
value_parts name quote text =
    option_map (λ rest. record { name = name; value = front_of (is_inside quote) text; rest = rest })
    (option_and_then (behind_byte 93) (behind_byte quote (behind_front (is_inside quote) text)))

abbrev pub quoted_parts : List ℕ → List ℕ → Option Parts
quoted_parts name [] = None
quoted_parts name (quote ∷ text) = value_parts name quote text

abbrev pub named_parts : List ℕ → Option Parts
named_parts text = option_and_then (quoted_parts (name_of text)) (behind_byte 61 (behind_names text))

abbrev pub parts_of : List ℕ → Option Parts
parts_of text = option_and_then named_parts (behind_byte 91 text)

-- the predicates and then the steps that a text spells
pub record IsTail (text : List ℕ) (predicates : List Predicate) (steps : List Step) : Type 0 where
  pub each_predicate : AllByRecursion IsPredicate predicates
  pub each_step : AllByRecursion IsStep steps
  pub spelling : text ≡ flat_map predicate_text predicates ++ path_text steps
