use Rattle.std.proofs.Common.{◌-◌, ◌≡◌, ◌<◌, ◌≤◌, length}
use Rattle.al_disk.specs.States.{Told}
use Rattle.al_journal.specs.Blocks.{Holds}
use Rattle.al_journal.specs.Images.{HasBirth}
use Rattle.al_journal.specs.Walks.{Reaches}
use Rattle.al_journal.proofs.walking.walk.Given as goal

abbrev pub invariant-frames : goal.invariant-frames
invariant-frames g l = record {
  room : l.place < l.capacity;
  few : l.count ≤ l.place;
  same : g.D.Disk.told l.disk ≡ g.D.Disk.told l.initial.disk;
  later : g.D.Disk.faults l.initial.disk ≤ g.D.Disk.faults l.disk;
  holds : Told (g.D.Disk.told l.initial.disk) (λ s. Holds l.initial.block s.content → Holds l.block s.content);
  reaches : Told (g.D.Disk.told l.initial.disk) (λ s. Holds l.initial.block s.content → l.size ≡ length s.content → HasBirth l.capacity s.content → Reaches l.capacity l.count l.place s.content);
}

abbrev pub decreases-frames : goal.decreases-frames
decreases-frames g l = l.size - l.place
