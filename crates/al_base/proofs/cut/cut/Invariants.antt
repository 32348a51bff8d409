use Rattle.std.proofs.Common.{◌≡◌, ◌++◌, take, drop}
use Rattle.al_base.specs.Cuts.{behind, front}
use Rattle.al_base.proofs.cut.cut.Given as goal

abbrev pub invariant-loop-i : goal.invariant-loop-i
invariant-loop-i l = record {
  before : front l.separator l.bytes ≡ take l.i l.bytes ++ front l.separator (drop l.i l.bytes);
  after : behind l.separator l.bytes ≡ behind l.separator (drop l.i l.bytes);
}
