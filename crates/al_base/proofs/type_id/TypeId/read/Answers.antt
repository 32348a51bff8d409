use Rattle.std.proofs.Common.{ap, ◌∙◌, Err}
use Rattle.al_base.proofs.TextTests.{type_holds}
use Rattle.al_base.proofs.TypeNames.{name_is_utf8}
use Rattle.al_base.proofs.type_id.TypeId.read.Goals as goal

pub unreachable-requires : goal.unreachable-requires
unreachable-requires c =
    c.read.ensures.not_utf8.0 (c.in-Err-NotUtf8.is ∙ ap Err c.in-Err-NotUtf8.field-0-is) (name_is_utf8 c.args.bytes.now (c.is_type_name.ensures.0 c.if-not-is_type_name.false))

pub returns-in-Ok-clause-read : goal.returns-in-Ok-clause-read
returns-in-Ok-clause-read c =
    (c.in-Ok.ensures.ok.0, type_holds c.args.bytes.now (c.is_type_name.ensures.0 c.if-not-is_type_name.false))
