-- What a read of the bytes from a place on gives and leaves.
use Rattle.std.proofs.Common.{◌≡◌, ℕ, ◌+◌, List, ◌++◌, take, drop, sym}
use Rattle.std.proofs.lemmas.List.{drop-drop, take-append-drop}

-- the bytes that were given, and then the rest
pub gives_front : (bytes : List ℕ) (next count : ℕ) (given : List ℕ) → given ≡ take count (drop next bytes) → drop next bytes ≡ given ++ drop (next + count) bytes
gives_front bytes next count given e =
    rw (e, ← drop-drop count next bytes) (sym (take-append-drop count (drop next bytes)))
