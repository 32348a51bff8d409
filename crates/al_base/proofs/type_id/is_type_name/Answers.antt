use Rattle.std.proofs.Common.{◌+◌, sym, ap, ◌∙◌}
use Rattle.std.proofs.lemmas.List.{take_rest}
use Rattle.al_base.specs.Identifiers.{is_identifier}
use Rattle.al_base.proofs.TypeNames.{named, at_colon, no_place}
use Rattle.al_base.proofs.type_id.is_type_name.Goals as goal

pub returns-then-is_identifier : goal.returns-then-is_identifier
returns-then-is_identifier c =
    let second = c.is_identifier-then-is_identifier.ensures ∙ ap is_identifier (take_rest c.args.bytes.now (c.in-Some.colon + 1)) in
    let first = sym c.is_identifier.ensures ∙ c.if-is_identifier.true in
    let place = sym c.in-Some.ensures.place in (
      λ h. named c.args.bytes.now c.in-Some.colon place c.if-bytes-gt-LONGEST_TYPE.false first (sym second ∙ h),
      λ name. second ∙ (at_colon c.args.bytes.now c.in-Some.colon place name).1,
    )

pub returns-else-is_identifier : goal.returns-else-is_identifier
returns-else-is_identifier c =
    let off = c.if-is_identifier.false in (
      λ h. absurd (cc),
      λ name. c.is_identifier.ensures ∙ (at_colon c.args.bytes.now c.in-Some.colon (sym c.in-Some.ensures.place) name).0,
    )

pub returns-in-None : goal.returns-in-None
returns-in-None c = (λ h. absurd (cc), λ name. absurd (no_place c.args.bytes.now (sym c.in-None.ensures.place) name))
