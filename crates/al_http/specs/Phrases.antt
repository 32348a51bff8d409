-- The statuses of alarmd's responses and their reason phrases (RFC 9110, section 15; 413 has the phrase of RFC 7231).
use Rattle.std.specs.Prelude.{ℕ, List, [], ◌∷◌, Option, find, option_map, codes, unwrap_or, IsSome, ◌==◌}

-- each status with its phrase
abbrev pub phrases : List (ℕ × List ℕ)
phrases =
    (200, codes "OK")
    ∷ (201, codes "Created")
    ∷ (204, codes "No Content")
    ∷ (400, codes "Bad Request")
    ∷ (404, codes "Not Found")
    ∷ (405, codes "Method Not Allowed")
    ∷ (406, codes "Not Acceptable")
    ∷ (409, codes "Conflict")
    ∷ (413, codes "Payload Too Large")
    ∷ (415, codes "Unsupported Media Type")
    ∷ (500, codes "Internal Server Error")
    ∷ (501, codes "Not Implemented")
    ∷ (503, codes "Service Unavailable")
    ∷ []

-- the phrase of a status that alarmd answers
abbrev pub phrase : ℕ → Option (List ℕ)
phrase status = option_map (λ row. row.1) (find (λ row. row.0 == status) phrases)

abbrev pub HasPhrase : ℕ → Type 0
HasPhrase status = IsSome (phrase status)

abbrev pub phrase_of : ℕ → List ℕ
phrase_of status = unwrap_or (phrase status) (codes "")
