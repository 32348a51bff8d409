use Rattle.std.proofs.Common.{◌≡◌, ◌<◌, [], ◌∷◌, ◌++◌, length, arith, rules}
use Rattle.std.proofs.lemmas.Option.{slice_get-get_or}
use Rattle.std.specs.Prelude.{get_or}
use Rattle.al_types.proofs.Found.{has_more, known_below}
use Rattle.al_types.proofs.place.find_bases.Goals as goal

pub returns-in_default-clause-fault : goal.returns-in_default-clause-fault
returns-in_default-clause-fault c =
    let lt : c.loop-n.n < length c.args.identities.now = omega arith in
    let here = get_or c.args.identities.now c.loop-n.n c.index-identities-n.result in
    let at = slice_get-get_or c.args.identities.now c.loop-n.n c.index-identities-n.result lt in (
      record {
        identity = here;
        stands = at;
        unknown = c.in_default.ensures;
      },
      λ k below. known_below c.args.identities.now c.loop-n.bases.items c.loop-n.n c.loop-n.invariant k below,
    )

pub loop-n-preserved : goal.loop-n-preserved
loop-n-preserved c =
    let lt : c.loop-n.n < length c.args.identities.now = omega arith in
    let here = get_or c.args.identities.now c.loop-n.n c.index-identities-n.result in
    let at = slice_get-get_or c.args.identities.now c.loop-n.n c.index-identities-n.result lt in
    let items : c.push.new.self.items ≡ c.loop-n.bases.items ++ c.in-Some.base ∷ [] = search rules in
    rw items (has_more c.args.identities.now c.loop-n.bases.items c.loop-n.n c.in-Some.base here c.loop-n.invariant at c.in-Some.ensures.0 c.in-Some.ensures.1)
