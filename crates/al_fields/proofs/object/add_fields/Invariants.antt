-- The members, with what the fields that remain say, are those at first with what all fields say.
use Rattle.std.proofs.Common.{◌≡◌, drop}
use Rattle.serde_json.specs.View.{members_view}
use Rattle.al_fields.specs.Members.{fields_by, members_with}
use Rattle.al_fields.proofs.object.add_fields.Given as goal

abbrev pub invariant-loop-field : goal.invariant-loop-field
invariant-loop-field g l =
    members_with (members_view l.members.entries) (fields_by g.P.Shown.said (drop l.field-index l.fields))
    ≡ members_with (members_view l.fn.members.entries) (fields_by g.P.Shown.said l.fields)
