-- Objects as tables of fields, and lists that are left out where they are empty.
use Rattle.std.specs.Prelude.{ℕ, Bool, true, ◌&&◌, List, [], ◌∷◌, IsTrue, Option, None, Some, map, option_map}
use Rattle.std.specs.Ordering.{nat_cmp, is_gt}
use Rattle.std.specs.Cmp.Lexicographic.{slice_cmp}
use Rattle.serde_json.specs.Data.{Data, array, object, Members, no_members, put}
use Rattle.serde_json.specs.View.{items_of}
use Rattle.al_fields.specs.declared.field.Field.{Field}

-- the members, with a further one where it says anything
abbrev pub with_member : List ℕ → Option Data → Members → Members
with_member name None members = members
with_member name (Some value) members = put name value members

-- the members, with each field that says anything
abbrev pub members_with : Members → List (List ℕ × Option Data) → Members
members_with members [] = members
members_with members (field ∷ rest) = members_with (with_member field.0 field.1 members) rest

-- the object of these fields: those that say nothing are left out, and its members are in the order of their names' bytes
abbrev pub object_of : List (List ℕ × Option Data) → Data
object_of fields = object (members_with no_members fields)

-- a list, which is left out where it is empty
abbrev pub list_of : List Data → Option Data
list_of [] = None
list_of (d ∷ rest) = Some (array (items_of (d ∷ rest)))

-- an object of one member, which is nothing where the member says nothing
abbrev pub whole : List ℕ → Option Data → Option Data
whole name said = option_map (λ d. object_of ((name, Some d) ∷ [])) said

-- the fields of the code, by what their pieces say
abbrev pub field_by : {P : Type 0} → (P → Option Data) → Field P → List ℕ × Option Data
field_by said field = (field.name.now, said field.piece)

abbrev pub fields_by : {P : Type 0} → (P → Option Data) → List (Field P) → List (List ℕ × Option Data)
fields_by said fields = map (field_by said) fields

-- whether the name is after each of these
abbrev pub is_after : List ℕ → List (List ℕ) → Bool
is_after name [] = true
is_after name (earlier ∷ rest) = is_gt (slice_cmp nat_cmp name earlier) && is_after name rest

-- whether each name is after those before it, the given ones among them
abbrev pub rise_after : List (List ℕ) → List (List ℕ) → Bool
rise_after earlier [] = true
rise_after earlier (name ∷ rest) = is_after name earlier && rise_after (name ∷ earlier) rest

-- Each field's name is after those of all fields before it.
abbrev pub AreRising : List (List ℕ × Option Data) → Type 0
AreRising fields = IsTrue (rise_after [] (map (λ field. field.0) fields))
