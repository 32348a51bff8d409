use Rattle.std.proofs.Common.{◌≡◌, ℕ, ◌%◌, ◌++◌, List, string_bytes, ◌∙◌, ap}
use Rattle.std.specs.Prelude.{codes, decimal}
use Rattle.al_commands.specs.Draws.{put_shelf_text, shelf_path, with_body}
use Rattle.al_commands.proofs.Texts.{five, in_other_words}
use Rattle.al_commands.proofs.draw.put_shelf.Goals as goal

pub returns : goal.returns
returns c =
    let name : List ℕ = decimal (c.args.a % 4) in
    let digit : List ℕ = decimal (c.args.c % 10) in
    let head : c.as_str.result.now ≡ codes "PUT " ++ shelf_path c.args.a ++ codes " HTTP/1.1\r\n" = c.as_str.ensures.value ∙ c.in_ok-head.ensures.ok in
    let body = c.as_str-2.ensures.value ∙ c.in_ok-body.ensures.ok ∙ five (codes "{\"ietf-alarms:shelf\":[{\"name\":\"s") name (codes "\",\"resource\":[\"port") digit (codes "[0-9]*\"]}]}") in
    in_other_words string_bytes c.with_body.result (with_body c.as_str.result.now c.as_str-2.result.now) (put_shelf_text c.args.a c.args.c)
    (ap (λ (h : List ℕ). with_body h c.as_str-2.result.now) head ∙ ap (with_body (codes "PUT " ++ shelf_path c.args.a ++ codes " HTTP/1.1\r\n")) body) c.with_body.ensures
