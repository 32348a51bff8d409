use Rattle.std.proofs.Common.{ℕ, ◌%◌, List, string_bytes, ◌∙◌, ap}
use Rattle.std.specs.Prelude.{codes, decimal}
use Rattle.al_commands.specs.Draws.{report_text, with_body}
use Rattle.al_commands.proofs.Texts.{eight, in_other_words}
use Rattle.al_commands.proofs.draw.report.Goals as goal

pub returns : goal.returns
returns c =
    let text : List ℕ = decimal (c.args.c % 3) in
    let name : List ℕ = decimal (c.args.a % 200) in
    let joined = eight (codes "{\"alarmd:input\":{\"alarm-text\":\"t") text (codes "\",\"alarm-type-id\":\"ex:link\",\"perceived-severity\":\"") c.args.status.now (codes "\",\"resource\":\"") (codes "port") name (codes "\"}}") in
    in_other_words string_bytes c.with_body.result (with_body (codes "POST /restconf/operations/alarmd:report HTTP/1.1\r\n") c.as_str.result.now) (report_text c.args.a c.args.c c.args.status.now)
    (ap (with_body (codes "POST /restconf/operations/alarmd:report HTTP/1.1\r\n")) (c.as_str.ensures.value ∙ c.in_ok-body.ensures.ok ∙ joined)) c.with_body.ensures
