-- One turn: a request that was answered.
use Rattle.std.proofs.Common.{◌≡◌, ℕ, ◌-◌, ◌≤◌, Some, length, refl, sym, ap, length-drop}
use Rattle.al_base.specs.Limits.{last_stamp}
use Rattle.al_http.specs.Requests.{RequestMessage}
use Rattle.al_http.specs.Responses.{out_of_memory_response}
use Rattle.al_http.specs.Services.{Adds, Answers}
use Rattle.al_http.specs.declared.response.Response.{Response}
use Rattle.al_model.specs.declared.kept.Mark.{Mark}
use Rattle.al_serve.specs.Conversations.{IsAnswered}
use Rattle.al_serve.specs.Exchanges.{OutOfMemory, Plain, Turn}
use Rattle.al_turn.specs.Histories.{further}

-- how many entries were added
pub added_length : (before after : Mark) (place entries : ℕ) → place ≡ length before.entries → entries ≡ length after.entries → entries - place ≡ length (further after.entries before.entries)
added_length before after place entries p e =
    let is = length-drop (length before.entries) after.entries in rw (p, e) (sym is)

module _ (answers : Answers) (origin : ℕ) (before after : Mark) (request : RequestMessage) (reading added : ℕ) (response : Response) where
  pub plain_answer : answers before origin request reading response after → reading ≤ last_stamp → response.place ≡ Some (length before.entries) → Adds origin before after → added ≡ length (further after.entries before.entries)
      → IsAnswered answers origin before after request reading added response
  plain_answer came stamp place adds is =
      let turn : Turn = record { request = request; reading = reading; before = before; response = response; after = after; outcome = Plain } in
      record { turn = turn; taken = record { came_by = came; stamp = stamp; place = place; adds = adds }; found = refl; left = refl; request_is = refl; reading_is = refl; added_is = is; response_is = refl }

  pub memory_answer : response ≡ out_of_memory_response (length before.entries) → after.entries ≡ before.entries → reading ≤ last_stamp → Adds origin before after → added ≡ length (further after.entries before.entries)
      → IsAnswered answers origin before after request reading added response
  memory_answer told same stamp adds is =
      let turn : Turn = record { request = request; reading = reading; before = before; response = response; after = after; outcome = OutOfMemory } in
      record { turn = turn; taken = record { came_by = (told, same); stamp = stamp; place = ap (λ (r : Response). r.place) told; adds = adds }; found = refl; left = refl; request_is = refl; reading_is = refl; added_is = is; response_is = refl }
