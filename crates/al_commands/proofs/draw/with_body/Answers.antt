use Rattle.std.proofs.Common.{string_bytes, length}
use Rattle.std.specs.Prelude.{codes, decimal}
use Rattle.al_commands.specs.Draws.{crlf}
use Rattle.al_commands.proofs.Texts.{in_other_words, six}
use Rattle.al_commands.proofs.draw.with_body.Goals as goal

pub returns : goal.returns
returns c =
    in_other_words string_bytes c.format.result _ _ (six c.args.head.now (codes "Content-Length: ") (decimal (length c.args.body.now)) crlf crlf c.args.body.now) c.format.ensures.ok
