use Rattle.std.proofs.Common.{◌∙◌}
use Rattle.al_ids.proofs.MatchKinds.{path_refused, oid_moved, oid_refused, plain_refused}
use Rattle.al_ids.proofs.resource_match.Form.takes.Goals as goal

pub returns-else-is_of : goal.returns-else-is_of
returns-else-is_of c =
    rw c.in-Path.is (path_refused c.in-Path.path c.args.resource.now c.is_of.result (rw c.in-Path.is at c.requires) c.if-is_of.false c.is_of.ensures.1)

pub returns-then-is_of-2 : goal.returns-then-is_of-2
returns-then-is_of-2 c =
    rw c.in-Oid.is (oid_moved c.bytes-then-is_of-2.result.now c.bytes-text.result.now c.in-Oid.front c.args.resource.now c.is_front.result
    c.bytes-then-is_of-2.ensures.bytes (c.bytes-text.ensures.bytes ∙ c.text.ensures.text) (rw c.in-Oid.is at c.requires) c.is_front.ensures)

pub returns-else-is_of-2 : goal.returns-else-is_of-2
returns-else-is_of-2 c =
    rw c.in-Oid.is (oid_refused c.in-Oid.front c.args.resource.now c.is_of-in-Oid.result (rw c.in-Oid.is at c.requires) c.if-is_of-2.false c.is_of-in-Oid.ensures.1)

pub returns-else-is_of-3 : goal.returns-else-is_of-3
returns-else-is_of-3 c =
    rw c.in-Pattern.is
    (plain_refused c.in-Pattern.pattern c.args.resource.now c.is_of-in-Pattern.result (rw c.in-Pattern.is at c.requires) c.if-is_of-3.false c.is_of-in-Pattern.ensures.1)
