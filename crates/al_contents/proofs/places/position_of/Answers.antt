use Rattle.std.proofs.Common.{rules}
use Rattle.std.proofs.lemmas.Fn.{always_returns_same}
use Rattle.al_ids.specs.Keys.{key_cmp}
use Rattle.al_contents.proofs.Positions.{position_is}
use Rattle.al_contents.proofs.places.position_of.Goals as goal

-- the closure compares an alarm's key with this one
pub returns : goal.returns
returns c =
    let key = c.args.key.now in
    let facts = c.binary_search_by.ensures in
    position_is key c.args.alarms.now _ c.requires facts.bound (facts.position (λ v. key_cmp v.state.key key) (always_returns_same _ _ _ (λ a o g called. search rules)))
