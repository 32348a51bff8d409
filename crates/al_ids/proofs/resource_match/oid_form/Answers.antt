use Rattle.std.proofs.Common.{ap, ◌∙◌, Err}
use Rattle.al_ids.proofs.OidFronts.{oid_utf8}
use Rattle.al_ids.proofs.resource_match.oid_form.Goals as goal

pub unreachable-requires : goal.unreachable-requires
unreachable-requires c =
    c.read.ensures.not_utf8.0 (c.in-Err-NotUtf8.is ∙ ap Err c.in-Err-NotUtf8.field-0-is) (oid_utf8 c.args.text.now c.requires)
