-- Resources and their kinds.
use Rattle.std.specs.Prelude.{◌≤◌, ℕ, List, length, IsUtf8}
use Rattle.al_base.specs.Limits.{longest_resource}
use Rattle.al_ids.specs.Oids.{IsOid}
use Rattle.al_ids.specs.Paths.{IsPath}
use Rattle.al_ids.specs.declared.resource.Kind.{Kind}
use Rattle.al_ids.specs.declared.resource.Kind.TheVariants.{Path, Oid, Plain}

-- 1 to 512 bytes of text
pub record IsResource (text : List ℕ) : Type 0 where
  pub shortest : 1 ≤ length text
  pub longest : length text ≤ longest_resource
  pub utf8 : IsUtf8 text

abbrev pub IsOfKind : Kind → List ℕ → Type 0
IsOfKind Path text = IsPath text
IsOfKind Oid text = IsOid text
IsOfKind Plain text = (¬ (IsPath text)) × (¬ (IsOid text))
