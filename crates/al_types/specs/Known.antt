-- What an identity or a row repeats, and which bases are unknown.
use Rattle.std.specs.Prelude.{◌≡◌, ℕ, ◌<◌, ◌⊎◌, List, Option, None, Some, codes, slice_get}
use Rattle.al_types.specs.declared.row.Identity.{Identity}
use Rattle.al_types.specs.declared.row.Row.{Row}

-- the type that all others derive from
abbrev pub root : List ℕ
root = codes "ietf-alarms:alarm-type-id"

-- The identity at this place has this name.
abbrev pub IsNamed : List Identity → ℕ → List ℕ → Type 0
IsNamed identities place name = (base : List ℕ) × (slice_get identities place ≡ Some (record { name = name; base = base }))

-- The type is the root, or the name of an identity before the n-th.
abbrev pub IsKnownBefore : List Identity → ℕ → List ℕ → Type 0
IsKnownBefore identities n type_id =
    (type_id ≡ root) ⊎ ((earlier : ℕ) × (earlier < n) × IsNamed identities earlier type_id)

-- The name of the n-th identity is the root's or an earlier one's.
pub record IsDuplicateIdentity (identities : List Identity) (n : ℕ) : Type 0 where
  pub identity : Identity
  pub stands : slice_get identities n ≡ Some identity
  pub known : IsKnownBefore identities n identity.name

-- The base of the n-th identity is neither the root nor an earlier one's name.
pub record IsUnknownBase (identities : List Identity) (n : ℕ) : Type 0 where
  pub identity : Identity
  pub stands : slice_get identities n ≡ Some identity
  pub unknown : ¬ (IsKnownBefore identities n identity.base)

-- The n-th row has the type and the qualifier of an earlier one.
pub record IsDuplicateRow (rows : List Row) (n : ℕ) : Type 0 where
  pub earlier : ℕ
  pub before : earlier < n
  pub repeated : Row
  pub row : Row
  pub first : slice_get rows earlier ≡ Some repeated
  pub second : slice_get rows n ≡ Some row
  pub same_type : repeated.type_id ≡ row.type_id
  pub same_qualifier : repeated.qualifier ≡ row.qualifier

-- The first number of which it holds, or none where it holds of none.
abbrev pub IsFirst : (ℕ → Type 0) → Option ℕ → Type 0
IsFirst P None = (n : ℕ) → ¬ (P n)
IsFirst P (Some n) = P n × ((k : ℕ) → k < n → ¬ (P k))
