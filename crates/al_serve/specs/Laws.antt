-- What holds of every exchange, and of the passes that were used for them.
use Rattle.std.specs.Prelude.{◌≡◌, ℕ, ◌+◌, ◌-◌, Bool, List, [], ◌∷◌, length, ⊤}
use Rattle.std.specs.List.{AllByRecursion}
use Rattle.al_http.specs.Services.{Adds}
use Rattle.al_model.specs.declared.kept.Mark.{Mark}
use Rattle.al_turn.specs.Passes.{Closed, PassState}
use Rattle.al_serve.specs.Exchanges.{GoThrough, IsOfOneHistory, Turn}
use Rattle.al_serve.specs.Workers.{put_by}

-- Turns that add entries of their own origin alone, one after the other, are turns over one history.
abbrev pub TurnsAreOfOneHistory : Type 0
TurnsAreOfOneHistory =
    (origins : ℕ → Bool) (origin : ℕ) (before : Mark) (turns : List Turn) (after : Mark)
    → AllByRecursion (λ (turn : Turn). Adds origin turn.before turn.after) turns → GoThrough origins before turns after
    → IsOfOneHistory origins origin before turns after

-- how many entries the owners of the passes have put, added up
abbrev pub put_by_all : List PassState → ℕ
put_by_all [] = 0
put_by_all (pass ∷ passes) = put_by pass + put_by_all passes

-- The passes have the numbers from that one on, and were made over a history of that length.
abbrev pub AreNumberedFrom : ℕ → ℕ → List PassState → Type 0
AreNumberedFrom base number [] = ⊤
AreNumberedFrom base number (pass ∷ passes) = (pass.view.number ≡ number) × (pass.view.base ≡ base) × AreNumberedFrom base (number + 1) passes

-- What the owners of all passes of a turnstile have put, added up, is what its last value has more than its first one.
abbrev pub PassesPutAllEntries : Type 0
PassesPutAllEntries =
    (start last : Mark) (passes : List PassState) → Closed start passes last → AreNumberedFrom (length start.entries) 1 passes
    → put_by_all passes ≡ length last.entries - length start.entries
