-- The order of alarm keys.
use Rattle.std.specs.Cmp.Lexicographic.{slice_cmp}
use Rattle.std.specs.Ordering.{eq_by_cmp, nat_cmp, ordering_then}
use Rattle.std.specs.Prelude.{Bool}
use Rattle.std.specs.declared.cmp.Ordering.{Ordering}
use Rattle.al_ids.specs.declared.key.AlarmKey.{AlarmKey}

-- by the bytes of the resource, then of the type, then of the qualifier
abbrev pub key_cmp : AlarmKey → AlarmKey → Ordering
key_cmp a b =
    ordering_then (slice_cmp nat_cmp a.resource b.resource)
    (ordering_then (slice_cmp nat_cmp a.type_id b.type_id) (slice_cmp nat_cmp a.qualifier b.qualifier))

-- two keys that compare as equal
abbrev pub is_same_key : AlarmKey → AlarmKey → Bool
is_same_key = eq_by_cmp key_cmp
