use Rattle.al_uri.proofs.Gathered.{key_more}
use Rattle.al_uri.proofs.keys.read_keys.Goals as goal

pub loop-rest-preserved : goal.loop-rest-preserved
loop-rest-preserved c =
    key_more _ c.loop-rest.rest c.cut.result.1 c.in-Some.bytes c.loop-rest.keys.items c.push.new.self.items c.cut.result.0.now c.in_ok-read_decoded.field-0
    c.loop-rest.invariant c.in-Some.is c.cut.ensures.front c.cut.ensures.behind c.in_ok-read_decoded.ensures c.in_ok-push.ensures.items
