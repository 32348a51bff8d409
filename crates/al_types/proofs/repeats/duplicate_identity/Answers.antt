use Rattle.std.proofs.Common.{◌<◌, length, arith}
use Rattle.std.proofs.lemmas.Option.{slice_get-get_or}
use Rattle.std.specs.Prelude.{get_or}
use Rattle.al_types.specs.Known.{IsDuplicateIdentity}
use Rattle.al_types.proofs.Found.{none_to, not_duplicate, none_duplicate, known_from}
use Rattle.al_types.proofs.repeats.duplicate_identity.Goals as goal

pub returns-in-Some : goal.returns-in-Some
returns-in-Some c =
    let lt : c.loop-n.n < length c.args.identities.now = omega arith in
    let here = get_or c.args.identities.now c.loop-n.n c.index-identities-n.result in
    let at = slice_get-get_or c.args.identities.now c.loop-n.n c.index-identities-n.result lt in (
      record {
        identity = here;
        stands = at;
        known = known_from c.args.identities.now c.loop-n.n _ here.name c.in-Some.ensures.0 c.in-Some.ensures.1;
      },
      c.loop-n.invariant,
    )

pub loop-n-preserved : goal.loop-n-preserved
loop-n-preserved c =
    let lt : c.loop-n.n < length c.args.identities.now = omega arith in
    let here = get_or c.args.identities.now c.loop-n.n c.index-identities-n.result in
    let at = slice_get-get_or c.args.identities.now c.loop-n.n c.index-identities-n.result lt in
    none_to (IsDuplicateIdentity c.args.identities.now) c.loop-n.n c.loop-n.invariant
    (not_duplicate c.args.identities.now c.loop-n.n here at c.in_default.ensures)

pub returns : goal.returns
returns c = none_duplicate c.args.identities.now (λ k lt. c.loop-n.invariant k (omega arith))
