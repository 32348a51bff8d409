use Rattle.std.proofs.Common.{◌||◌, ◌+◌, ◌≡◌, length, take, drop, refl, sym, ◌∙◌, arith}
use Rattle.std.proofs.lemmas.List.{length-drop}
use Rattle.std.proofs.lemmas.Slice.{between_to_end}
use Rattle.al_http.specs.Requests.{names, has_member}
use Rattle.al_http.proofs.FindLemmas.{no_part}
use Rattle.al_http.proofs.MemberLemmas.{at_comma, comma_within, no_comma}
use Rattle.al_http.proofs.member.has_member.Goals as goal

pub returns-then-is_member : goal.returns-then-is_member
returns-then-is_member c =
    let member = c.args.member.now in
    let rest = c.parts.rest.now in
    let whole : has_member member c.args.value.now ≡ (names member (take c.in-Some.at rest) || has_member member (drop (c.in-Some.at + 1) rest)) =
    c.parts.invariant.same ∙ at_comma member rest c.in-Some.at (sym c.in-Some.ensures) in
    rw (whole, ← c.is_member.ensures, c.if-is_member.true) refl

pub overflow_add-rest : goal.overflow_add-rest
overflow_add-rest c = omega (arith, comma_within c.parts.rest.now c.in-Some.at (sym c.in-Some.ensures))

pub parts-preserved : goal.parts-preserved
parts-preserved c =
    let member = c.args.member.now in
    let rest = c.parts.rest.now in
    let within = comma_within rest c.in-Some.at (sym c.in-Some.ensures) in
    let whole : has_member member c.args.value.now ≡ (names member (take c.in-Some.at rest) || has_member member (drop (c.in-Some.at + 1) rest)) =
    c.parts.invariant.same ∙ at_comma member rest c.in-Some.at (sym c.in-Some.ensures) in
    let behind = between_to_end rest (c.in-Some.at + 1) (length rest) (omega arith) in record {
      shorter = rw behind (omega (arith, length-drop (c.in-Some.at + 1) rest));
      same = rw (whole, ← c.is_member.ensures, c.if-is_member.false, behind) refl;
    }

pub returns : goal.returns
returns c =
    c.is_member-2.ensures ∙ sym (c.parts.invariant.same ∙ no_comma _ _ (no_part _ _ c.first_at.ensures c.in_default.not-Some))
