use Rattle.std.proofs.Common.{Some, None}
use Rattle.std.proofs.lemmas.Bool.Decides.{Decides-eqb}
use Rattle.std.proofs.lemmas.Bool.{false≢true}
use Rattle.std.proofs.lemmas.Slice.Eq.{strip_prefix_is}
use Rattle.al_ids.proofs.OidFronts.{front_taken, oid_begins}
use Rattle.al_ids.proofs.oid.is_front.Goals as goal

pub returns-in-None : goal.returns-in-None
returns-in-None c =
    (λ h. absurd (false≢true h), λ takes. absurd (oid_begins c.args.front.now c.args.whole.now (strip_prefix_is Decides-eqb c.args.whole.now c.args.front.now None c.in-None.ensures.cases) takes))

pub returns-in-Some : goal.returns-in-Some
returns-in-Some c =
    front_taken c.args.front.now c.args.whole.now c.in-Some.rest.now c.ends_arc.result c.requires.front c.requires.whole
    (strip_prefix_is Decides-eqb c.args.whole.now c.args.front.now (Some c.in-Some.rest) c.in-Some.ensures.cases) c.ends_arc.ensures
