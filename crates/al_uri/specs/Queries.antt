-- Queries: parameters, read from left to right (RFC 8040, sections 4.8.5 and 4.8.6).
use Rattle.std.specs.Prelude.{ℕ, ◌&&◌, nat_le, if◌then◌else◌, Option, None, Some, unwrap_or, Result, Ok, Err, List, [], ◌∷◌, codes, length}
use Rattle.std.specs.Char.{is_ascii_digit}
use Rattle.std.specs.List.{list_all}
use Rattle.std.specs.Str.Parse.{digits_value}
use Rattle.al_shelf.specs.declared.spot.Spot.{Spot}
use Rattle.al_shelf.specs.declared.spot.Spot.TheVariants as spots
use Rattle.al_base.specs.Answers.{and_then}
use Rattle.al_base.specs.Cuts.{behind, front, pieces_left}
use Rattle.al_uri.specs.Escapes.{decoded}
use Rattle.al_uri.specs.Paths.{place_at}
use Rattle.al_uri.specs.Resources.{is_same}
use Rattle.al_uri.specs.declared.fault.UriFault.{UriFault}
use Rattle.al_uri.specs.declared.fault.UriFault.TheVariants.{BadQuery}
use Rattle.al_uri.specs.declared.place.Place.{Place}
use Rattle.al_uri.specs.declared.place.Place.TheVariants.{Data, At}
use Rattle.al_uri.specs.declared.query.Insert.{Insert}
use Rattle.al_uri.specs.declared.query.Insert.TheVariants as inserts
use Rattle.al_uri.specs.declared.query.Known.{Known}
use Rattle.al_uri.specs.declared.query.Known.TheVariants.{Order, Start, Nothing}
use Rattle.al_uri.specs.declared.query.Parameters.{Parameters}
use Rattle.al_uri.specs.declared.target.Target.{Target}
use Rattle.al_uri.specs.declared.target.Target.TheVariants.{Shelving, OneShelf, NotificationLog, JournalPage}

-- which parameters the resource has
abbrev pub known_at : Target → Known
known_at (Shelving spot) = Order
known_at (OneShelf name spot) = Order
known_at (NotificationLog start) = Start
known_at (JournalPage start) = Start
known_at other = Nothing

-- ---- values

unfoldable pub insert_value : List ℕ → Result Insert UriFault
insert_value value =
    if is_same value (codes "first") then Ok inserts.First
    else if is_same value (codes "last") then Ok inserts.Last
    else if is_same value (codes "before") then Ok inserts.Before
    else if is_same value (codes "after") then Ok inserts.After
    else Err BadQuery

-- the name of the shelf to which a path leads, whatever is wrong with any other
abbrev pub shelf_at : Result Place UriFault → Result (List ℕ) UriFault
shelf_at (Ok (At (OneShelf name spot))) = Ok name
shelf_at other = Err BadQuery

-- A point is the path of a shelf below `/restconf/data`.
unfoldable pub point_value : List ℕ → Result (List ℕ) UriFault
point_value value = shelf_at (place_at Data value)

-- 1 to 10 decimal digits that write a number of 32 bits
unfoldable pub from_value : List ℕ → Result ℕ UriFault
from_value value =
    if nat_le 1 (length value) && nat_le (length value) 10 && list_all is_ascii_digit value && nat_le (digits_value 10 value) 4294967295
    then Ok (digits_value 10 value)
    else Err BadQuery

-- ---- parameters

abbrev pub no_parameters : Parameters
no_parameters = record { insert = None; point = None; from = None }

-- the value of a parameter that was not there before
abbrev pub once : {A : Type 0} → Option A → Result A UriFault → Result A UriFault
once None value = value
once (Some earlier) value = Err BadQuery

-- the parameters with one more
unfoldable pub with_part : Known → Parameters → List ℕ → List ℕ → Result Parameters UriFault
with_part Order before name value =
    if is_same name (codes "insert") then
    and_then (once before.insert (insert_value value)) (λ insert. Ok (record before { insert = Some insert }))
    else if is_same name (codes "point") then
    and_then (once before.point (point_value value)) (λ point. Ok (record before { point = Some point }))
    else Err BadQuery
with_part Start before name value =
    if is_same name (codes "from") then and_then (once before.from (from_value value)) (λ from. Ok (record before { from = Some from }))
    else Err BadQuery
with_part Nothing before name value = Err BadQuery

-- A part is cut at its first `=`, which is 61, into name and value. First its escapes are judged, then the name, then the value.
unfoldable pub after_part : Known → Parameters → List ℕ → Result Parameters UriFault
after_part known before part =
    and_then (decoded (front 61 part)) (λ name.
    and_then (decoded (unwrap_or (behind 61 part) [])) (λ value.
    with_part known before name value))

abbrev pub after_parts : Known → Parameters → List (List ℕ) → Result Parameters UriFault
after_parts known before [] = Ok before
after_parts known before (part ∷ rest) = and_then (after_part known before part) (λ after. after_parts known after rest)

-- An empty query is none.
abbrev pub not_empty : Option (List ℕ) → Option (List ℕ)
not_empty None = None
not_empty (Some []) = None
not_empty (Some (b ∷ bytes)) = Some (b ∷ bytes)

-- the parts are cut at `&`, which is 38
unfoldable pub parameters_of : Known → Option (List ℕ) → Result Parameters UriFault
parameters_of known query = after_parts known no_parameters (pieces_left 38 (not_empty query))

-- ---- what they ask

-- A point stands exactly with before and after.
unfoldable pub spot_of : Option Insert → Option (List ℕ) → Result Spot UriFault
spot_of None None = Ok spots.Keep
spot_of (Some inserts.First) None = Ok spots.First
spot_of (Some inserts.Last) None = Ok spots.Last
spot_of (Some inserts.Before) (Some point) = Ok (spots.Before point)
spot_of (Some inserts.After) (Some point) = Ok (spots.After point)
spot_of insert point = Err BadQuery

-- the resource with the spot or the start that is asked for
unfoldable pub with_parameters : Target → Parameters → Result Target UriFault
with_parameters (Shelving spot) asked = and_then (spot_of asked.insert asked.point) (λ spot. Ok (Shelving spot))
with_parameters (OneShelf name spot) asked = and_then (spot_of asked.insert asked.point) (λ spot. Ok (OneShelf name spot))
with_parameters (NotificationLog start) asked = Ok (NotificationLog (unwrap_or asked.from start))
with_parameters (JournalPage start) asked = Ok (JournalPage (unwrap_or asked.from start))
with_parameters other asked = Ok other
