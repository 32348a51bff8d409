-- The page of the journal: its frames from a number on, as text.
use Rattle.std.specs.Prelude.{ℕ, zero, suc, ◌-◌, nat_le, if◌then◌else◌, List, [], ◌∷◌, Option, Some, codes, drop, length, map}
use Rattle.al_fields.specs.Members.{list_of, object_of, whole}
use Rattle.al_model.specs.declared.entry.Entry.{Entry}
use Rattle.al_office.specs.Images.{frames_of}
use Rattle.hex.specs.Hex.{encode_lower}
use Rattle.serde_json.specs.Data.{Data, number, string, unsigned}

-- the most entries of a page
abbrev pub most_entries : ℕ
most_entries = 64

-- the most bytes of a page's frames
abbrev pub most_bytes : ℕ
most_bytes = 1048576

-- the longest front of so few frames that have so few bytes together
abbrev pub front_within : ℕ → ℕ → List (List ℕ) → List (List ℕ)
front_within zero room frames = []
front_within (suc count) room [] = []
front_within (suc count) room (frame ∷ frames) =
    if nat_le (length frame) room then frame ∷ front_within count (room - length frame) frames else []

-- the same, but that the first frame is always there
abbrev pub first_within : ℕ → ℕ → List (List ℕ) → List (List ℕ)
first_within count room [] = []
first_within count room (frame ∷ frames) = frame ∷ front_within (count - 1) (room - length frame) frames

-- the frames of the page that begins with the entry of this number, counted from 0
unfoldable pub page_of : List Entry → ℕ → List (List ℕ)
page_of history from = first_within most_entries most_bytes (drop from (frames_of history))

-- the page, with the length of the whole history
abbrev pub page_fields : List Entry → ℕ → List (List ℕ × Option Data)
page_fields history from =
    (codes "entry", list_of (map string (map encode_lower (page_of history from))))
    ∷ (codes "length", Some (number (unsigned (length history))))
    ∷ []

unfoldable pub page_tree : List Entry → ℕ → Data
page_tree history from = object_of (page_fields history from)

-- the journal's resource, which is always there
abbrev pub journal_tree : List Entry → ℕ → Option Data
journal_tree history from = whole (codes "alarmd:journal") (Some (page_tree history from))
