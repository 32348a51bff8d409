-- Whether lists make an inventory, as a test.
use Rattle.std.specs.Prelude.{◌==◌, nat_le, Bool, true, false, not, ◌&&◌, ◌||◌, List, [], ◌∷◌, ◌++◌, ℕ, length}
use Rattle.std.specs.Cmp.Lexicographic.{pointwise}
use Rattle.std.specs.List.{list_any}
use Rattle.al_base.specs.Limits.{most_identities, most_rows}
use Rattle.al_types.specs.Known.{root}
use Rattle.al_types.specs.declared.row.Identity.{Identity}
use Rattle.al_types.specs.declared.row.Row.{Row}

-- whether the type is the root or the name of one of these
abbrev pub is_known : List Identity → List ℕ → Bool
is_known identities type_id =
    pointwise ◌==◌ type_id root || list_any (λ identity. pointwise ◌==◌ type_id identity.name) identities

-- whether behind the earlier ones each has a name that isn't known there, and a base that is
abbrev pub are_in_order : List Identity → List Identity → Bool
are_in_order earlier [] = true
are_in_order earlier (identity ∷ further) =
    not (is_known earlier identity.name) && is_known earlier identity.base && are_in_order (earlier ++ identity ∷ []) further

-- whether the rows are of one type and qualifier
abbrev pub is_same_kind : Row → Row → Bool
is_same_kind a b = pointwise ◌==◌ a.type_id b.type_id && pointwise ◌==◌ a.qualifier b.qualifier

-- whether a row is of the type and qualifier of a later one
abbrev pub has_repeats : List Row → Bool
has_repeats [] = false
has_repeats (row ∷ further) = list_any (is_same_kind row) further || has_repeats further

unfoldable pub is_sound : List Identity → List Row → Bool
is_sound identities rows =
    nat_le (length identities) most_identities && nat_le (length rows) most_rows && are_in_order [] identities && not (has_repeats rows)
