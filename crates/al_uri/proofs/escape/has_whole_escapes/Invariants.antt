use Rattle.std.proofs.Common.{◌≡◌, drop}
use Rattle.al_uri.specs.Escapes.{has_whole_escapes}
use Rattle.al_uri.proofs.escape.has_whole_escapes.Given as goal

abbrev pub invariant-loop-i : goal.invariant-loop-i
invariant-loop-i l = has_whole_escapes l.part ≡ has_whole_escapes (drop l.i l.part)
