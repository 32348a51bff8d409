use Rattle.std.proofs.Common.{◌≡◌, rules}
use Rattle.std.specs.Bool.{Decides}
use Rattle.std.proofs.lemmas.Bool.Decides.{same_from_decides}
use Rattle.al_ids.specs.Keys.{is_same_key}
use Rattle.al_ids.proofs.Keyed.{decides_key}
use Rattle.al_ids.proofs.key.AlarmKeyPartialEq.eq.Goals as goal

pub returns-then-eq-2-clause-value : goal.returns-then-eq-2-clause-value
returns-then-eq-2-clause-value c =
    let said : Decides c.eq-then-eq-2.result (c.args.self.now ≡ c.args.other.now) = search rules in
    same_from_decides c.eq-then-eq-2.result (is_same_key c.args.self.now c.args.other.now) said (decides_key c.args.self.now c.args.other.now)

pub returns-else-eq-2-clause-value : goal.returns-else-eq-2-clause-value
returns-else-eq-2-clause-value c =
    let said : Decides c.if-eq.value (c.args.self.now ≡ c.args.other.now) = search rules in
    same_from_decides c.if-eq.value (is_same_key c.args.self.now c.args.other.now) said (decides_key c.args.self.now c.args.other.now)
