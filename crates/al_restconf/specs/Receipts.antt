-- How a change is to be answered, once its reply is known.
use Rattle.std.specs.Prelude.{◌≡◌, ⊤, ℕ, ◌≤◌, [], vec_capacity}
use Rattle.al_http.specs.declared.response.Response.{Response}
use Rattle.al_model.specs.declared.decision.Reply.{Reply}
use Rattle.al_uri.specs.declared.target.Target.{Target}
use Rattle.al_restconf.specs.Changes.{counted, done, made, made_at, put}
use Rattle.al_restconf.specs.declared.receipt.Receipt.{Receipt}
use Rattle.al_restconf.specs.declared.receipt.Receipt.TheVariants.{Done, Made, MadeAt, Put, Counted}

-- what is answered with a reply
abbrev pub answer_with : Receipt → ℕ → Target → Reply → Response
answer_with Done place target reply = done place
answer_with Made place target reply = made place
answer_with (MadeAt name) place target reply = made_at place name
answer_with Put place target reply = put place reply
answer_with (Counted room) place target reply = counted place target reply

-- there is room for all that it needs memory for
abbrev pub HasRoom : Receipt → Type 0
HasRoom (Counted room) = (room.items ≡ []) × (64 ≤ vec_capacity room)
HasRoom other = ⊤
