-- The text of an action's output is short.
use Rattle.std.proofs.Common.{ℕ, ◌+◌, ◌<◌, ◌≤◌, ◌^◌, List, [], ◌∷◌, ◌++◌, length, length-append, arith}
use Rattle.std.specs.Prelude.{codes, decimal}
use Rattle.std.proofs.lemmas.Fmt.{length-decimal-le}
use Rattle.json.specs.Print.{escape_byte}
use Rattle.serde_json.specs.Written.{compact_text}
use Rattle.al_json.specs.Outputs.{output_of}

behind : (front : List ℕ) (n : ℕ) → n < 2 ^ 32 → length (front ++ ((decimal n ++ 125 ∷ []) ++ 125 ∷ [])) ≤ length front + 12
behind front n small =
    omega (
      arith,
      length-append front ((decimal n ++ 125 ∷ []) ++ 125 ∷ []),
      length-append (decimal n ++ 125 ∷ []) (125 ∷ []),
      length-append (decimal n) (125 ∷ []),
      length-decimal-le 10 n (omega arith) (omega arith) (omega arith),
    )

pub purged_room : (n : ℕ) → n < 2 ^ 32 → length (compact_text (output_of (codes "purged-alarms") n)) ≤ 64
unfolding escape_byte
purged_room n small =
    let b : length (compact_text (output_of (codes "purged-alarms") n)) ≤ 51 = behind (codes "{\"ietf-alarms:output\":{\"purged-alarms\":") n small in
    omega arith

pub compressed_room : (n : ℕ) → n < 2 ^ 32 → length (compact_text (output_of (codes "compressed-alarms") n)) ≤ 64
unfolding escape_byte
compressed_room n small =
    let b : length (compact_text (output_of (codes "compressed-alarms") n)) ≤ 55 = behind (codes "{\"ietf-alarms:output\":{\"compressed-alarms\":") n small in
    omega arith
