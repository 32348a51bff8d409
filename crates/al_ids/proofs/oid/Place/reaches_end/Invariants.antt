use Rattle.std.proofs.Common.{◌≡◌, drop}
use Rattle.al_ids.specs.OidReading.{leads_to_end}
use Rattle.al_ids.proofs.oid.Place.reaches_end.Given as goal

abbrev pub invariant-loop-byte : goal.invariant-loop-byte
invariant-loop-byte l = leads_to_end (drop l.byte-index l.text) l.place ≡ leads_to_end l.text l.fn.self
