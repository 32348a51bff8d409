use Rattle.std.proofs.Common.{◌-◌, ◌≡◌, ◌≤◌, drop, length, take}
use Rattle.al_disk.specs.States.{Told}
use Rattle.al_journal.specs.Blocks.{Holds}
use Rattle.al_journal.proofs.block.Block.read.Given as goal

abbrev pub invariant-pieces : goal.invariant-pieces
invariant-pieces g l = record {
  within : l.done ≤ length l.buf;
  same : g.D.Disk.told l.disk ≡ g.D.Disk.told l.initial.disk;
  later : g.D.Disk.faults l.initial.disk ≤ g.D.Disk.faults l.disk;
  holds : Told (g.D.Disk.told l.initial.disk) (λ s. Holds l.initial.self s.content → Holds l.self s.content);
  read : Told (g.D.Disk.told l.initial.disk) (λ s. Holds l.initial.self s.content → take l.done l.buf ≡ take l.done (drop l.place s.content));
}

abbrev pub decreases-pieces : goal.decreases-pieces
decreases-pieces g l = length l.initial.buf - l.done
