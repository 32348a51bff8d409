-- The names of members are the keys of the map.
use Rattle.std.proofs.Common.{◌≡◌, List, [], ◌∷◌, map, string_bytes, String, refl, ap}
use Rattle.std.specs.declared.alloc.Global.{Global}
use Rattle.std.specs.Map.{keys_of}
use Rattle.serde_json.specs.View.{members_view}
use Rattle.serde_json.specs.declared.value.Value.{Value}
use Rattle.al_input.specs.Members.{names_in}

pub named_keys : (entries : List (String Global × Value)) → names_in (members_view entries) ≡ map string_bytes (keys_of entries)
named_keys [] = refl
named_keys (entry ∷ rest) = ap (λ names. string_bytes entry.0 ∷ names) (named_keys rest)
