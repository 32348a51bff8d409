-- The path of reports, spelled without an escape.
use Rattle.std.proofs.Common.{◌≡◌, ℕ, List, refl, None, Ok}
use Rattle.std.specs.Prelude.{codes}
use Rattle.std.specs.Str.{chars, is_utf8}
use Rattle.percent_encoding.specs.Percent.{percent_decode}
use Rattle.al_uri.specs.Escapes.{decoded}
use Rattle.al_uri.specs.Keys.{entered}
use Rattle.al_uri.specs.Paths.{keys_of, place_at, step}
use Rattle.al_uri.specs.Queries.{parameters_of, with_parameters}
use Rattle.al_uri.specs.Resources.{child}
use Rattle.al_uri.specs.Targets.{target_of}
use Rattle.al_uri.specs.declared.target.Target.TheVariants.{Report}
use lib.Utf8.{encode}

pub plain_report : target_of (codes "/restconf/operations/alarmd:report") None ≡ Ok Report
unfolding target_of place_at step decoded is_utf8 chars percent_decode encode keys_of child entered parameters_of with_parameters
plain_report = refl

pub report_path : (path : List ℕ) → path ≡ codes "/restconf/operations/alarmd:report" → target_of path None ≡ Ok Report
report_path path is = rw (is) plain_report
