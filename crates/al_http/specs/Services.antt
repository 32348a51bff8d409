-- Services: what answers requests over what keeps a history.
use Rattle.std.specs.Prelude.{◌≡◌, ℕ, ◌≤◌, List, ◌++◌, length, All}
use Rattle.al_model.specs.declared.entry.Entry.{Entry}
use Rattle.al_model.specs.declared.kept.Mark.{Mark}
use Rattle.al_http.specs.Requests.{RequestMessage}
use Rattle.al_http.specs.declared.response.Response.{Response}

-- What a service may answer: over a history with its count of faults and its fixed part, a request of an origin at a reading of the clock may
-- have this response, and leave this history and count.
abbrev pub Answers : Type 1
Answers = Mark → ℕ → RequestMessage → ℕ → Response → Mark → Type 0

-- A history grew by one entry at most, of that origin. Its count of faults didn't fall, and its fixed part is the same.
pub record Adds (origin : ℕ) (before after : Mark) : Type 0 where
  pub entries : List Entry
  pub grown : after.entries ≡ before.entries ++ entries
  pub own : All (λ entry. entry.origin ≡ origin) entries
  pub few : length entries ≤ 1
  pub counts : before.faults ≤ after.faults
  pub same : after.fixed ≡ before.fixed
