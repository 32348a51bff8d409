-- Identifiers of YANG, and alarm types, which are named by two of them.
use Rattle.std.specs.Prelude.{◌≡◌, ℕ, ◌+◌, ◌≤◌, ◌==◌, nat_le, take, drop, position, ◌||◌, ◌&&◌, Bool, false, IsTrue, List, [], ◌∷◌, ◌++◌, length}
use Rattle.std.specs.List.{list_all}
use Rattle.std.specs.Option.{option_map_or}
use Rattle.al_base.specs.Limits.{shortest_type, longest_type}
use Rattle.std.specs.Char.{is_ascii_alphabetic, is_ascii_alphanumeric}

-- a letter, or `_`
abbrev pub begins_identifier : ℕ → Bool
begins_identifier byte = is_ascii_alphabetic byte || (byte == 95)

-- a letter, a digit, `_`, `-` or `.`
abbrev pub continues_identifier : ℕ → Bool
continues_identifier byte = is_ascii_alphanumeric byte || (byte == 95) || (byte == 45) || (byte == 46)

abbrev pub is_identifier : List ℕ → Bool
is_identifier [] = false
is_identifier (first ∷ rest) = begins_identifier first && list_all continues_identifier rest

-- `module:identity`, in 3 to 128 bytes; 58 is the colon
pub record IsTypeName (text : List ℕ) : Type 0 where
  pub defined_in : List ℕ
  pub identity : List ℕ
  pub spelling : text ≡ defined_in ++ 58 ∷ identity
  pub has_module : IsTrue (is_identifier defined_in)
  pub has_identity : IsTrue (is_identifier identity)
  pub shortest : shortest_type ≤ length text
  pub longest : length text ≤ longest_type

-- whether the text is the name of a type: two identifiers about its first colon
unfoldable pub is_type_name : List ℕ → Bool
is_type_name text =
    nat_le (length text) longest_type
    && option_map_or (λ colon. is_identifier (take colon text) && is_identifier (drop (colon + 1) text)) (position (λ byte. byte == 58) text) false
