-- What a path and a query name.
use Rattle.std.specs.Prelude.{ℕ, Option, Result, List}
use Rattle.al_base.specs.Answers.{and_then}
use Rattle.al_uri.specs.Paths.{place_at, resource_at}
use Rattle.al_uri.specs.Queries.{known_at, parameters_of, with_parameters}
use Rattle.al_uri.specs.declared.fault.UriFault.{UriFault}
use Rattle.al_uri.specs.declared.place.Place.TheVariants.{Start}
use Rattle.al_uri.specs.declared.target.Target.{Target}

-- The path is judged first, with its end, which has to be a resource, and then the query.
unfoldable pub target_of : List ℕ → Option (List ℕ) → Result Target UriFault
target_of path query =
    and_then (place_at Start path) (λ place.
    and_then (resource_at place) (λ resource.
    and_then (parameters_of (known_at resource) query) (λ asked.
    with_parameters resource asked)))
