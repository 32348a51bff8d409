-- Whether two shelves, criteria or spots are the same.
use Rattle.std.specs.Prelude.{◌==◌, ◌&&◌, Bool, true, false}
use Rattle.std.specs.Cmp.Lexicographic.{pointwise}
use Rattle.std.specs.Option.{option_eq}
use Rattle.al_shelf.specs.declared.shelf.Shelf.{Shelf}
use Rattle.al_shelf.specs.declared.shelf.TypeMatch.{TypeMatch}
use Rattle.al_shelf.specs.declared.spot.Spot.{Spot}
use Rattle.al_shelf.specs.declared.spot.Spot.TheVariants.{First, Last, Before, After, Keep}

abbrev pub same_type_match : TypeMatch → TypeMatch → Bool
same_type_match a b = pointwise ◌==◌ a.type_id b.type_id && pointwise ◌==◌ a.qualifier b.qualifier

-- the same texts in each field
unfoldable pub same_shelf : Shelf → Shelf → Bool
same_shelf a b =
    pointwise ◌==◌ a.name b.name && pointwise (pointwise ◌==◌) a.resources b.resources && pointwise same_type_match a.types b.types
    && option_eq (pointwise ◌==◌) a.description b.description

abbrev pub same_spot : Spot → Spot → Bool
same_spot First First = true
same_spot Last Last = true
same_spot (Before a) (Before b) = pointwise ◌==◌ a b
same_spot (After a) (After b) = pointwise ◌==◌ a b
same_spot Keep Keep = true
same_spot _ _ = false
