-- Texts of objects and lists, piece by piece.
use Rattle.std.specs.Prelude.{ℕ, Bool, false, ◌||◌, ◌==◌, List, [], ◌∷◌, ◌++◌, Option, None, Some, is_some, nat_lt, slice_get}
use Rattle.json.specs.Print.{quoted}
use Rattle.serde_json.specs.Data.{Data}
use Rattle.serde_json.specs.Written.{comma_if, compact_text}

-- the text of a value, and none of nothing
abbrev pub text_of : Option Data → List ℕ
text_of None = []
text_of (Some d) = compact_text d

-- whether a byte doesn't stand in a string as it is
abbrev pub is_escaped : ℕ → Bool
is_escaped byte = nat_lt byte 32 || byte == 34 || byte == 92

-- a member with its value's text, behind a comma where something stands before it
unfoldable pub member_text : Bool → List ℕ → List ℕ → List ℕ
member_text later name text = comma_if later ++ (quoted name ++ 58 ∷ text)

abbrev pub some_text : Bool → List ℕ → Option Data → List ℕ
some_text later name None = []
some_text later name (Some d) = member_text later name (compact_text d)

-- the text of some fields, without braces
abbrev pub run_text : Bool → List (List ℕ × Option Data) → List ℕ
run_text later [] = []
run_text later (field ∷ rest) = some_text later field.0 field.1 ++ run_text (is_some field.1 || later) rest

abbrev pub braced : List (List ℕ × Option Data) → List ℕ
braced fields = 123 ∷ (run_text false fields ++ 125 ∷ [])

-- the text of the element at a place of a list, behind a comma where it isn't the first
abbrev pub item_text : List Data → ℕ → List ℕ
item_text trees i = comma_if (nat_lt 0 i) ++ text_of (slice_get trees i)

-- an object of one member with this text
abbrev pub single_text : List ℕ → List ℕ → List ℕ
single_text name text = 123 ∷ (member_text false name text ++ 125 ∷ [])
