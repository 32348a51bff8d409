-- Paths: segments, each a name with keys, walked from left to right (RFC 8040, section 3.5.3).
use Rattle.std.specs.Prelude.{ℕ, Option, Result, Ok, Err, List, [], ◌∷◌}
use Rattle.al_base.specs.Answers.{and_then, each, or_fault}
use Rattle.al_base.specs.Cuts.{behind, front, pieces, pieces_left}
use Rattle.al_uri.specs.Escapes.{decoded}
use Rattle.al_uri.specs.Keys.{entered}
use Rattle.al_uri.specs.Resources.{child}
use Rattle.al_uri.specs.declared.fault.UriFault.{UriFault}
use Rattle.al_uri.specs.declared.fault.UriFault.TheVariants.{NoSuchPath}
use Rattle.al_uri.specs.declared.place.Place.{Place}
use Rattle.al_uri.specs.declared.place.Place.TheVariants.{At}
use Rattle.al_uri.specs.declared.target.Target.{Target}

-- The keys behind the `=` are cut at commas, which are 44, and then decoded. Without a `=` there are none.
unfoldable pub keys_of : Option (List ℕ) → Result (List (List ℕ)) UriFault
keys_of text = each decoded (pieces_left 44 text)

-- A segment is cut at its first `=`, which is 61, into name and keys. First its escapes are judged, then the name, then the keys.
unfoldable pub step : Place → List ℕ → Result Place UriFault
step place segment =
    and_then (decoded (front 61 segment)) (λ name.
    and_then (keys_of (behind 61 segment)) (λ keys.
    and_then (or_fault NoSuchPath (child place name)) (λ way.
    entered way keys)))

abbrev pub walk : Place → List (List ℕ) → Result Place UriFault
walk place [] = Ok place
walk place (segment ∷ rest) = and_then (step place segment) (λ next. walk next rest)

-- Nothing stands before the first `/`.
abbrev pub walk_rooted : Place → List (List ℕ) → Result Place UriFault
walk_rooted place ([] ∷ segments) = walk place segments
walk_rooted place other = Err NoSuchPath

-- where a path leads from a place; 47 is `/`
unfoldable pub place_at : Place → List ℕ → Result Place UriFault
place_at from path = walk_rooted from (pieces 47 path)

-- the resource at a place, if there is one
abbrev pub resource_at : Place → Result Target UriFault
resource_at (At target) = Ok target
resource_at other = Err NoSuchPath
