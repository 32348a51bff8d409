use Rattle.std.proofs.lemmas.Bool.{ne_eqb}
use Rattle.al_http.proofs.fields.push_type.Goals as goal

pub returns-then-len-ne0-clause-text : goal.returns-then-len-ne0-clause-text
returns-then-len-ne0-clause-text c =
    rw (← c.media_type.ensures.text, ne_eqb c.args.len 0 c.if-len-ne0.true) c.push_field.ensures.text
