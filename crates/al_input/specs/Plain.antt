-- Reports whose members are texts: what they say, and the trees that their bodies stand for.
use Rattle.std.specs.Prelude.{◌≡◌, ◌⊎◌, ℕ, Option, None, Some, option_and_then, option_copied, List, codes}
use Rattle.json.specs.Json.{Json, if_last, members, value}
use Rattle.json.specs.Token.{Token}
use Rattle.serde_json.specs.Read.{converted, max_depth, of_json, of_members}
use Rattle.serde_json.specs.Data.{Data, object, string, Members, no_members, member}
use Rattle.al_input.specs.declared.plain.Said.{Said}

-- with this member before the others, where it is there
abbrev pub given : List ℕ → Option (List ℕ) → Members → Members
given name None ms = ms
given name (Some text) ms = member name (string text) ms

-- the members that are there, in the order of their names
abbrev pub texts : Option (List ℕ) → Option (List ℕ) → Option (List ℕ) → Option (List ℕ) → Option (List ℕ) → Members
texts text type_id qualifier severity resource =
    given (codes "alarm-text") text (given (codes "alarm-type-id") type_id (given (codes "alarm-type-qualifier") qualifier (given (codes "perceived-severity") severity (given (codes "resource") resource no_members))))

abbrev pub members_said : Said → Members
members_said said = texts (option_copied said.text) (option_copied said.type_id) (option_copied said.qualifier) (option_copied said.severity) (option_copied said.resource)

-- the names of a body's one member
abbrev pub NamesInput : List ℕ → Type 0
NamesInput name = (name ≡ codes "input") ⊎ (name ≡ codes "alarmd:input")

-- an object of one member, which holds these
abbrev pub input_tree : List ℕ → Members → Data
input_tree name ms = object (member name (object ms) no_members)

-- ---- tokens

-- the members of the body's object, of so many tokens at most: those that these tokens go on with, put to the ones before them, and the tokens that follow
abbrev pub members_at : ℕ → Members → List Token → Option (Members × List Token)
members_at n before ts = converted (λ js. of_members js before) (members (value 125) n ts)

abbrev pub whole_value : Option (Json × List Token) → Option Data
whole_value read = option_and_then of_json (option_and_then (λ p. if_last p.0 p.1) read)

-- the tree of a text that has these tokens
abbrev pub tree_of : List Token → Option Data
tree_of ts = whole_value (value max_depth ts)
