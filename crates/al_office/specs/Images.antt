-- Which history the bytes of a disk show.
use Rattle.std.specs.Prelude.{◌⊎◌, ℕ, ◌+◌, ◌≤◌, List, [], ◌∷◌, ◌++◌, length, map, take}
use Rattle.al_frame.specs.Frames.{frame_of}
use Rattle.al_journal.specs.Images.{Shows}
use Rattle.al_model.specs.History.{Fits, replay}
use Rattle.al_model.specs.declared.entry.Entry.{Entry}

-- the frames of a history, which are the payloads of its journal
abbrev pub frames_of : List Entry → List (List ℕ)
frames_of = map frame_of

-- how many bytes of a journal a history uses: a birth with its gate, and for each entry a length, its frame and a gate
abbrev pub used_by : List Entry → ℕ
used_by [] = 14
used_by (e ∷ rest) = used_by rest + 5 + length (frame_of e)

-- the bytes show the history, in a journal of this capacity
abbrev pub ShowsHistory : ℕ → List Entry → List ℕ → Type 0
ShowsHistory capacity history image = Shows capacity (frames_of history) image

-- the bytes show the history, or it with one further entry
abbrev pub ShowsNear : ℕ → List Entry → Entry → List ℕ → Type 0
ShowsNear capacity history further image = ShowsHistory capacity history image ⊎ ShowsHistory capacity (history ++ further ∷ []) image

-- The bytes show a front of the history that has at least so many entries, or that front with one further entry that is legal there.
pub record ShowsFront (capacity least : ℕ) (history : List Entry) (image : List ℕ) : Type 0 where
  pub count : ℕ
  pub enough : least ≤ count
  pub within : count ≤ length history
  pub shows : ShowsHistory capacity (take count history) image
      ⊎ ((further : Entry) × Fits (replay (take count history)) further × ShowsHistory capacity (take count history ++ further ∷ []) image)
