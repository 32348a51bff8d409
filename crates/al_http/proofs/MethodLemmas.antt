-- The list of methods, one after the other.
use Rattle.std.proofs.Common.{◌≡◌, ℕ, Bool, true, false, ◌||◌, List, [], ◌∷◌, ◌++◌, codes, if◌then◌else◌, refl, append_assoc}
use Rattle.std.specs.List.{join_by}

-- what one method adds
abbrev pub item : Bool → Bool → List ℕ → List ℕ
item has_one is_allowed method = if is_allowed then (if has_one then codes ", " ++ method else method) else []

abbrev pub one : Bool → List ℕ → List (List ℕ)
one is_allowed method = if is_allowed then method ∷ [] else []

abbrev pub items : Bool → Bool → Bool → Bool → Bool → List ℕ
items d g h p u =
    item false d (codes "DELETE") ++ item (false || d) g (codes "GET") ++ item (false || d || g) h (codes "HEAD")
    ++ item (false || d || g || h) p (codes "POST") ++ item (false || d || g || h || p) u (codes "PUT")

-- they are joined by commas
joined : (d g h p u : Bool)
    → items d g h p u
    ≡ join_by (λ (method : List ℕ). method) (codes ", ")
    (one d (codes "DELETE") ++ one g (codes "GET") ++ one h (codes "HEAD") ++ one p (codes "POST") ++ one u (codes "PUT"))
joined true true true true true = refl
joined true true true true false = refl
joined true true true false true = refl
joined true true true false false = refl
joined true true false true true = refl
joined true true false true false = refl
joined true true false false true = refl
joined true true false false false = refl
joined true false true true true = refl
joined true false true true false = refl
joined true false true false true = refl
joined true false true false false = refl
joined true false false true true = refl
joined true false false true false = refl
joined true false false false true = refl
joined true false false false false = refl
joined false true true true true = refl
joined false true true true false = refl
joined false true true false true = refl
joined false true true false false = refl
joined false true false true true = refl
joined false true false true false = refl
joined false true false false true = refl
joined false true false false false = refl
joined false false true true true = refl
joined false false true true false = refl
joined false false true false true = refl
joined false false true false false = refl
joined false false false true true = refl
joined false false false true false = refl
joined false false false false true = refl
joined false false false false false = refl

pub joined_behind : (d g h p u : Bool) (front : List ℕ)
    → front ++ item false d (codes "DELETE") ++ item (false || d) g (codes "GET") ++ item (false || d || g) h (codes "HEAD")
    ++ item (false || d || g || h) p (codes "POST") ++ item (false || d || g || h || p) u (codes "PUT")
    ≡ front ++ join_by (λ (method : List ℕ). method) (codes ", ")
    (one d (codes "DELETE") ++ one g (codes "GET") ++ one h (codes "HEAD") ++ one p (codes "POST") ++ one u (codes "PUT"))
joined_behind d g h p u front = rw (← joined d g h p u) (grouped front _ _ _ _ _)
  where
    grouped : (front a b c d e : List ℕ) → front ++ a ++ b ++ c ++ d ++ e ≡ front ++ (a ++ b ++ c ++ d ++ e)
    grouped front a b c d e = simp append_assoc
