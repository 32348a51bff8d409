-- The forms of texts that match resources and qualifiers, as tests.
use Rattle.std.specs.Prelude.{ℕ, nat_le, Bool, ◌&&◌, ◌||◌, List, length, is_none}
use Rattle.al_base.specs.Limits.{is_text, longest_pattern, longest_resource}
use Rattle.al_ids.specs.Matching.{is_oid, is_pattern, is_xpath}
use Rattle.al_pattern.specs.Reading.{first_fault}

-- an XPath, an object identifier, or any other text that is a pattern
unfoldable pub is_match : List ℕ → Bool
is_match text = nat_le 1 (length text) && nat_le (length text) longest_resource && (is_xpath text || is_oid text || is_pattern text)

-- a pattern for qualifiers
unfoldable pub is_pattern_text : List ℕ → Bool
is_pattern_text text = is_text 0 longest_pattern text && is_none (first_fault text)
