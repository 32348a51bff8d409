-- A value that has a history and nothing else, and a service over it.
use Rattle.std.specs.Prelude.{◌≡◌, ℕ, Some, List, length}
use Rattle.al_http.specs.Requests.{RequestMessage}
use Rattle.al_http.specs.Responses.{bodiless}
use Rattle.al_http.specs.declared.response.Response.{Response}
use Rattle.al_model.specs.declared.entry.Entry.{Entry}
use Rattle.al_model.specs.declared.kept.Mark.{Mark}

-- nothing ever fails, and nothing is fixed
abbrev pub mark_of : List Entry → Mark
mark_of entries = record { entries = entries; faults = 0; fixed = record { capacity = 0; length = 0; since = 0 } }

-- every request is answered by 204
abbrev pub AnswersDone : Mark → ℕ → RequestMessage → ℕ → Response → Mark → Type 0
AnswersDone before origin request reading response after = response ≡ bodiless 204 (Some (length before.entries))
