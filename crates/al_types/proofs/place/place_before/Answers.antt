use Rattle.std.proofs.Common.{◌≡◌, ◌<◌, length, refl, inl, inr, arith, rules}
use Rattle.std.proofs.lemmas.Option.{slice_get_read}
use Rattle.al_types.specs.Known.{root, IsNamed}
use Rattle.al_types.proofs.Found.{none_to, named_here, name_there}
use Rattle.al_types.proofs.place.place_before.Goals as goal

pub returns-then-eq-2 : goal.returns-then-eq-2
returns-then-eq-2 c =
    let lt : c.loop-place.place < length c.args.identities.now = omega arith in
    let at = slice_get_read c.args.identities.now (length c.args.identities.now) c.loop-place.place c.index-identities-place.result refl lt c.index-identities-place.is in
    let e : c.index-identities-place.result.name ≡ c.args.name.now = search rules in
    (omega arith, named_here c.args.identities.now c.loop-place.place c.index-identities-place.result c.args.name.now at e)

pub loop-place-preserved : goal.loop-place-preserved
loop-place-preserved c =
    let lt : c.loop-place.place < length c.args.identities.now = omega arith in
    let at = slice_get_read c.args.identities.now (length c.args.identities.now) c.loop-place.place c.index-identities-place.result refl lt c.index-identities-place.is in
    let other : ¬ (c.index-identities-place.result.name ≡ c.args.name.now) = search rules in
    none_to (λ k. IsNamed c.args.identities.now k c.args.name.now) c.loop-place.place c.loop-place.invariant
    (λ named. other (name_there c.args.identities.now c.loop-place.place c.index-identities-place.result c.args.name.now at named))

pub returns : goal.returns
returns c =
    let other : ¬ (c.args.name.now ≡ root) = search rules in
    λ known. elim known [
      | inl e ↦ other e
      | inr e ↦ (let lt : e.0 < c.args.n = e.1 in c.loop-place.invariant e.0 (omega arith) e.2)
    ]
