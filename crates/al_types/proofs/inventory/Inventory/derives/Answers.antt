use Rattle.std.proofs.Common.{◌≡◌, length, subst, sym, rules}
use Rattle.std.specs.Prelude.{Option, None}
use Rattle.al_types.specs.Places.{IsPlaceBefore}
use Rattle.al_types.specs.declared.place.Place.{Place}
use Rattle.al_types.proofs.Derivations.{unknown_alone, unknown_underived}
use Rattle.al_types.proofs.Heirs.{derives_decides, derives_itself}
use Rattle.al_types.proofs.Told.{told}
use Rattle.al_types.proofs.inventory.Inventory.derives.Goals as goal

pub returns-in_default-clause-exact : goal.returns-in_default-clause-exact
returns-in_default-clause-exact c =
    let other : ¬ (c.args.t.now ≡ c.args.base.now) = search rules in
    let P : Option Place → Type 0 = λ place. IsPlaceBefore c.args.self.now.identities (length c.args.self.now.identities) c.args.base.now place in
    let unknown : P None = subst P c.in_default.is-1 c.place-2.ensures.place in
    (λ yes. absurd (cc), λ d. absurd (unknown_underived c.args.self.now c.place.ensures.sound c.args.t.now c.args.base.now unknown other d))

pub returns-in_default-2-clause-exact : goal.returns-in_default-2-clause-exact
returns-in_default-2-clause-exact c =
    let other : ¬ (c.args.t.now ≡ c.args.base.now) = search rules in
    let P : Option Place → Type 0 = λ place. IsPlaceBefore c.args.self.now.identities (length c.args.self.now.identities) c.args.t.now place in
    let unknown : P None = subst P c.in_default.is-0 c.place.ensures.place in
    (λ yes. absurd (cc), λ d. absurd (unknown_alone c.args.self.now c.args.t.now c.args.base.now unknown other d))

-- the test answers as derivation does
pub returns-then-eq-clause-value : goal.returns-then-eq-clause-value
returns-then-eq-clause-value c = sym (derives_itself c.args.self.now c.args.t.now c.args.base.now (search rules))

pub returns-in-Some-Some-clause-exact : goal.returns-in-Some-Some-clause-exact
returns-in-Some-Some-clause-exact c = search rules

pub returns-in-Some-Some-clause-value : goal.returns-in-Some-Some-clause-value
returns-in-Some-Some-clause-value c = told _ _ (returns-in-Some-Some-clause-exact c) (derives_decides c.args.self.now c.place.ensures.sound c.args.t.now c.args.base.now)

pub returns-in_default-clause-value : goal.returns-in_default-clause-value
returns-in_default-clause-value c = told _ _ (returns-in_default-clause-exact c) (derives_decides c.args.self.now c.place.ensures.sound c.args.t.now c.args.base.now)

pub returns-in_default-2-clause-value : goal.returns-in_default-2-clause-value
returns-in_default-2-clause-value c = told _ _ (returns-in_default-2-clause-exact c) (derives_decides c.args.self.now c.place.ensures.sound c.args.t.now c.args.base.now)
